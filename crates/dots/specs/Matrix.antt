-- The 8 by 8 ordered matrix (document 02, item 7: "That matrix grows from [0, 2; 3, 1] by putting 4M, 4M+2, 4M+3, 4M+1 in the
-- quarters, left to right and top to bottom").
use Rattle.std.specs.Prelude.{ℕ, ◌+◌, ◌*◌, ◌%◌, List, [], ◌∷◌, ◌++◌, map, get_or}

-- a matrix is its rows, from the top; a row is its numbers, from the left
abbrev pub Matrix : Type 0
Matrix = List (List ℕ)

-- the quarter that has 4·M + k for each number M
abbrev pub quarter : ℕ → Matrix → Matrix
quarter k m = map (map (λ n. 4 * n + k)) m

-- two matrices side by side
abbrev pub side_by_side : Matrix → Matrix → Matrix
side_by_side [] right = []
side_by_side (l ∷ ls) [] = []
side_by_side (l ∷ ls) (r ∷ rs) = (l ++ r) ∷ side_by_side ls rs

-- a matrix grown to twice its size
abbrev pub grown : Matrix → Matrix
grown m = side_by_side (quarter 0 m) (quarter 2 m) ++ side_by_side (quarter 3 m) (quarter 1 m)

-- from 2 by 2 to 8 by 8
unfoldable pub matrix : Matrix
matrix = grown (grown ((0 ∷ 2 ∷ []) ∷ (3 ∷ 1 ∷ []) ∷ []))

-- the number M for row y and column x: "at (y mod 8, x mod 8)"
unfoldable pub level : ℕ → ℕ → ℕ
level y x = get_or (get_or matrix (y % 8) []) (x % 8) 0

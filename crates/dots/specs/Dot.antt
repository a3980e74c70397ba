-- Where dots are set (document 02, item 7: "A dot is set at column x and row y exactly when t < 4·M + 2"), and how many stand in a
-- tile.
use Rattle.std.specs.Prelude.{ℕ, zero, suc, ◌+◌, ◌-◌, ◌*◌, ◌/◌, ◌<◌, ◌≡◌, Bool, true, false, ltb}
use Rattle.dots.specs.Matrix.{level}

-- whether the dot is set at column x and row y, where the tone is t
abbrev pub is_dot : ℕ → ℕ → ℕ → Bool
is_dot t x y = ltb t (4 * level y x + 2)

-- as a number: 1 where it is set
abbrev pub bit : Bool → ℕ
bit true = 1
bit false = 0

-- the sum of n numbers, counted from 0
abbrev pub total : ℕ → (ℕ → ℕ) → ℕ
total zero numbers = 0
total (suc n) numbers = total n numbers + numbers n

-- the dots in the tile of 8 columns from 8·X on and 8 rows from 8·Y on, of a picture that has a tone at every column and row
unfoldable pub dots_in_tile : (ℕ → ℕ → ℕ) → ℕ → ℕ → ℕ
dots_in_tile tones X Y = total 8 (λ j. total 8 (λ i. bit (is_dot (tones (8 * X + i) (8 * Y + j)) (8 * X + i) (8 * Y + j))))

-- "An aligned 8 by 8 tile in which every tone is t must hold 64 − (t + 2) div 4 dots, for each t from 0 to 255, whether or not a
-- sample reaches it"
pub record TileLaw : Type 0 where
  pub holds : (tones : ℕ → ℕ → ℕ) (X Y t : ℕ) → t < 256 → ((i j : ℕ) → i < 8 → j < 8 → tones (8 * X + i) (8 * Y + j) ≡ t)
      → dots_in_tile tones X Y ≡ 64 - (t + 2) / 4

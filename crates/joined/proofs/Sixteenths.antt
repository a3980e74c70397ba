-- Every sixteenth of some rows and then more: those of the first, and those of the rest behind the rows that fill the last group. And of
-- rows that are moved, the places move.
use Prim.Native.Nat.{ℕ, zero, suc, ◌+◌, ◌-◌, ◌*◌, ◌≤◌, ◌<◌}
use native.Mathlib.Omega.{arith}
use mathlib.Core.Path.{◌≡◌, refl, ◌∙◌, ap}
use mathlib.Core.List.{List, [], ◌∷◌, ◌++◌, map}
use lib.ListN.{length, get_or}
use Rattle.sfdu.specs.Row.{Row}
use Rattle.row_index.specs.Index.{every, index_of}
use Rattle.row_index.proofs.Sixteenths.{groups_after, one_entry_a_group}
use Rattle.joined.specs.Joined.{moved_by, joined_rows, lacking}

every_in_turn : (rows more : List Row) (n : ℕ) → every n (rows ++ more) ≡ every n rows ++ every (n + 16 * length (every n rows) - length rows) more
every_in_turn [] more n = ap (λ (k : ℕ). every k more) {x = n} {y = n + 16 * 0 - 0} (omega arith)
every_in_turn (r ∷ rs) more zero =
    ap (λ (xs : List ℕ). r.label ∷ xs)
    (every_in_turn rs more 15
    ∙ ap (λ (k : ℕ). every 15 rs ++ every k more)
    {x = 15 + 16 * length (every 15 rs) - length rs} {y = 0 + 16 * suc (length (every 15 rs)) - suc (length rs)} (omega arith))
every_in_turn (r ∷ rs) more (suc n) =
    every_in_turn rs more n
    ∙ ap (λ (k : ℕ). every n rs ++ every k more)
    {x = n + 16 * length (every n rs) - length rs} {y = suc n + 16 * length (every n rs) - suc (length rs)} (omega arith)

every_moves : (base : ℕ) (rows : List Row) (n : ℕ) → every n (map (moved_by base) rows) ≡ map (λ place. base + place) (every n rows)
every_moves base [] n = refl
every_moves base (r ∷ rs) zero = ap (λ (xs : List ℕ). (base + r.label) ∷ xs) (every_moves base rs 15)
every_moves base (r ∷ rs) (suc n) = every_moves base rs n

-- the index of a joined file
pub index_in_turn : (first : List ℕ) (rows more : List Row)
    → index_of (joined_rows first rows more) ≡ index_of rows ++ map (λ place. length first + place) (every (lacking rows) more)
index_in_turn first rows more =
    every_in_turn rows (map (moved_by (length first)) more) 0
    ∙ ap (λ (k : ℕ). index_of rows ++ every k (map (moved_by (length first)) more))
    {x = 0 + 16 * length (index_of rows) - length rows} {y = lacking rows} (omega arith)
    ∙ ap (λ (xs : List ℕ). index_of rows ++ xs) (every_moves (length first) more (lacking rows))

-- fewer entries where rows are passed first
pub no_more_entries : (rows : List Row) (n : ℕ) → n ≤ 15 → length (every n rows) ≤ length (index_of rows)
no_more_entries rows n h = omega (arith, groups_after rows n h, one_entry_a_group rows)

-- an entry that is moved
pub moved_entry : (base : ℕ) (xs : List ℕ) (i : ℕ) → i < length xs → get_or (map (λ place. base + place) xs) i 0 ≡ base + get_or xs i 0
moved_entry base [] i h = absurd (omega arith)
moved_entry base (x ∷ xs) zero h = refl
moved_entry base (x ∷ xs) (suc i) h = moved_entry base xs i (omega arith)

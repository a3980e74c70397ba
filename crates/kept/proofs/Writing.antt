-- How long the kept form is, and a worked case.
use Prim.Native.Nat.{ℕ, ◌+◌, ◌*◌}
use native.Mathlib.Omega.{arith}
use mathlib.Core.Path.{◌≡◌, refl}
use mathlib.Core.List.{List, [], ◌∷◌}
use lib.ListN.{length}
use Rattle.house_record.specs.Record.{kept_as}
use Rattle.kept.specs.Kept.{kept_form}
use Rattle.house_record.proofs.Writing.{length_kept_as}

-- the theorem on its size: six bytes, and four for each entry
pub length_kept_form : (xs : List ℕ) → length (kept_form xs) ≡ 6 + 4 * length xs
length_kept_form xs = omega (arith, length_kept_as 1 [] xs)

-- a worked case, byte for byte: the entries 20 and 0x010203
pub two_entries_kept : kept_form (20 ∷ 66051 ∷ []) ≡ 10 ∷ 0 ∷ 0 ∷ 0 ∷ 1 ∷ 0 ∷ 20 ∷ 0 ∷ 0 ∷ 0 ∷ 3 ∷ 2 ∷ 1 ∷ 0 ∷ []
unfolding kept_as
two_entries_kept = refl

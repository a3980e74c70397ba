-- How long a record is, its two pieces, and whether there is room for them.
use Prim.Native.Nat.{ℕ, ◌+◌, ◌*◌, ◌≤◌}
use native.Mathlib.Omega.{arith}
use mathlib.Core.Path.{◌≡◌, ap}
use mathlib.Core.List.{List, ◌++◌}
use lib.ListN.{length, length-append}
use borrow.Author.Tests.{le-leb}
use Rattle.answer.specs.Outcome.{answer}
use Rattle.little.specs.LittleEndian.{le}
use Rattle.house_record.specs.Record.{entry_bytes, kept_as, in_room}
use Rattle.house_record.proofs.Entries.{length_entry_bytes}

-- six bytes stand before what is between the kind and the entries
pub length_kept_as : (kind : ℕ) (between xs : List ℕ) → length (kept_as kind between xs) ≡ 6 + (length between + 4 * length xs)
unfolding kept_as
length_kept_as kind between xs = omega (arith, length-append between (entry_bytes xs), length_entry_bytes xs)

-- what stands in front of the entries, and then their bytes
pub in_two_pieces : (kind : ℕ) (between xs : List ℕ) (follows : ℕ) → follows ≡ 2 + (length between + 4 * length xs)
    → kept_as kind between xs ≡ (le 4 follows ++ (le 2 kind ++ between)) ++ entry_bytes xs
unfolding kept_as
in_two_pieces kind between xs follows is =
    let size : 2 + length (between ++ entry_bytes xs) ≡ follows =
    omega (arith, is, length-append between (entry_bytes xs), length_entry_bytes xs) in
    ap (λ (n : ℕ). le 4 n ++ (le 2 kind ++ (between ++ entry_bytes xs))) size

-- what is written where there is room for it
pub room_for : (room : ℕ) (w : List ℕ) → length w ≤ room → in_room room w ≡ answer w
room_for room w h = simp (le-leb _ _ h)

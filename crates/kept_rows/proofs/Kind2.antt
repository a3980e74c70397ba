-- Reading kind 2 and turning it back, case by case: both are what is done with a house record of any kind.
use Prim.Native.Nat.{ℕ, ◌+◌, ◌*◌, ◌-◌, ◌/◌, ◌<◌}
use native.Mathlib.Omega.{arith}
use mathlib.Core.Path.{◌≡◌, refl, ◌∙◌, sym, ap, ap₂}
use mathlib.Core.Bool.{true, false}
use mathlib.Core.List.{List, [], ◌++◌}
use lib.ListN.{length, get_or, take, drop}
use Rattle.answer.specs.Filled.{Writes, filled}
use Rattle.answer.specs.Outcome.{Outcome, answer, refuse, mapped}
use Rattle.answer.specs.Window.{bytes_at}
use Rattle.answer.proofs.Outcomes.{answer_injective, answer_is_no_refusal}
use Rattle.little.specs.LittleEndian.{le, le_number, Below}
use Rattle.house_record.specs.Record.{number_at, entries_of, is_kept, read_as, in_room}
use Rattle.house_record.proofs.Entries.{length_entries}
use Rattle.house_record.proofs.Reading.{accepted, all_there, record_reads}
use Rattle.house_record.proofs.Writing.{in_two_pieces}
use Rattle.house_record.proofs.RoundTrip.{entries_are_the_rest, put_again}
use Rattle.kept_rows.specs.Kind2.{with_rows, list_of, loaded_of, to_kind1}

-- the row count, where bytes are a record of kind 2
pub rows_are_there : (s : List ℕ) → is_kept 2 10 s ≡ true → number_at s 6 ≡ le_number (bytes_at s 6 4)
rows_are_there s kept = all_there s 6 (accepted 2 10 s kept).long

-- what was loaded from a record, with the row count
module _ (s old new : List ℕ) where
  pub loaded_with_rows : (o : Outcome (List ℕ)) (r : Outcome ℕ) (n rows : ℕ) → Writes o old r new → r ≡ answer n
      → ((w : List ℕ) → o ≡ answer w → rows ≡ le_number (bytes_at s 6 4))
      → (answer (record { rows = rows; entries = n }) ≡ mapped loaded_of (mapped (with_rows s) o)) × (new ≡ filled (mapped list_of (mapped (with_rows s) o)) old)
  loaded_with_rows (answer w) r n rows writes e is =
      (ap₂ (λ (k m : ℕ). answer (record { rows = k; entries = m })) (is w refl) (answer_injective (sym e ∙ writes.answers)), writes.leaves)
  loaded_with_rows (refuse m p) r n rows writes e is = absurd (answer_is_no_refusal (sym e ∙ writes.answers))

-- the way back
pub no_way_back : (s : List ℕ) (room : ℕ) → is_kept 2 10 s ≡ false → to_kind1 s room ≡ refuse 13 0
unfolding read_as to_kind1
no_way_back s room h = simp h

module _ (s : List ℕ) (room : ℕ) where
  pub way_back : is_kept 2 10 s ≡ true → Below 256 s → (follows : ℕ) → follows ≡ length s - 8 → to_kind1 s room ≡ in_room room ((le 4 follows ++ le 2 1) ++ drop 10 s)
  unfolding to_kind1
  way_back kept bytes follows is =
      let a = accepted 2 10 s kept in
      let reads = record_reads 2 10 s kept in
      let xs = entries_of ((length s - 10) / 4) (drop 10 s) in
      let many : length xs ≡ (length s - 10) / 4 = length_entries ((length s - 10) / 4) (drop 10 s) in
      let size : follows ≡ 2 + (length {A = ℕ} [] + 4 * length xs) = omega (arith, is, many, a.long, a.whole) in
      let rest = entries_are_the_rest 2 10 s xs (omega arith) bytes reads in
      rw reads
      (ap (in_room room) (in_two_pieces 1 [] xs follows size ∙ ap (λ (t : List ℕ). (le 4 follows ++ le 2 1) ++ t) rest))

-- a record of kind 1 was put, of the entries of these bytes
pub put_back : (follows : ℕ) (front s old new : List ℕ) (r : Outcome ℕ) → is_kept 2 10 s ≡ true → ((i : ℕ) → get_or s i 0 < 256)
    → follows ≡ number_at s 0 → front ≡ le 4 (follows - 4) ++ (le 2 1 ++ []) → Writes (in_room (length old) (front ++ take (length s - 10) (drop 10 s))) old r new
    → Writes (to_kind1 s (length old)) old r new
unfolding to_kind1
put_back follows front s old new r kept bytes field is writes =
    let a = accepted 2 10 s kept in
    let size : follows - 4 + 10 ≡ 2 + (length {A = ℕ} [] + length s) = omega (arith, a.long, a.size, field ∙ all_there s 0 (omega (arith, a.long))) in
    let reads = record_reads 2 10 s kept in
    rw reads (put_again 2 10 1 (follows - 4) [] s _ front old new r (omega arith) bytes reads size is writes)

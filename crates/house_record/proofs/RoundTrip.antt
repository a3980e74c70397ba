-- A list that was kept, in a record of any kind, reads back as the same list, and its kept form is the only one. Both are proved over
-- the kind and over the bytes between the kind and the entries.
use Prim.Native.Nat.{ℕ, ◌+◌, ◌*◌, ◌-◌, ◌/◌, ◌%◌, ◌^◌, ◌≤◌, ◌<◌}
use native.Mathlib.Omega.{arith}
use mathlib.Core.Path.{◌≡◌, ◌∙◌, sym, ap, ap₂}
use mathlib.Core.Bool.{true}
use mathlib.Core.List.{List, ◌++◌}
use lib.ListN.{length, get_or, take, drop, length-drop, take-append-drop}
use lib.Seq.{drop-drop, drop-append_seam, length-take-le}
use borrow.Author.Tests.{eq-eqb}
use Rattle.answer.specs.Outcome.{Outcome, answer}
use Rattle.answer.specs.Filled.{Writes}
use Rattle.answer.proofs.Parts.{all_that_is_left}
use Rattle.answer.specs.Window.{bytes_at}
use Rattle.answer.proofs.Outcomes.{passed, answer_injective}
use Rattle.little.specs.LittleEndian.{le, le_number, Below}
use Rattle.little.proofs.LittleEndian.{number_of_bytes, bytes_of_number, below_in_the_front, below_in_the_rest, each_below}
use Rattle.house_record.specs.Record.{entry_bytes, house_record, kept_as, in_room, entries_of, is_kept, read_as}
use Rattle.house_record.proofs.Entries.{length_entries, entries_of_bytes, bytes_of_entries}
use Rattle.house_record.proofs.Reading.{whole_entries_decide, accepted}
use Rattle.house_record.proofs.Writing.{length_kept_as, in_two_pieces}

-- what was kept, in a record of any kind, reads back
module _ (kind : ℕ) (between xs : List ℕ) (two : kind < 2 ^ 16) (entries : Below (2 ^ 32) xs) (four : 2 + (length between + 4 * length xs) < 2 ^ 32) where
  s : List ℕ
  s = kept_as kind between xs

  first : ℕ
  first = 6 + length between

  is_kept_lem : is_kept kind first s ≡ true
  unfolding s first kept_as
  is_kept_lem =
      let long = length_kept_as kind between xs in
      let whole : (length s - first) % 4 ≡ 0 = omega (arith, long) in
      whole_entries_decide kind first s (omega (arith, long))
      (number_of_bytes 4 (2 + length (between ++ entry_bytes xs)) (omega (arith, long)) ∙ omega (arith, long))
      (number_of_bytes 2 kind two)
      ∙ eq-eqb _ _ whole

  entries_again : entries_of ((length s - first) / 4) (drop first s) ≡ xs
  unfolding s first kept_as
  entries_again =
      let long = length_kept_as kind between xs in
      let count : (length s - first) / 4 ≡ length xs = omega (arith, long) in
      let rest : drop first s ≡ entry_bytes xs =
      sym (drop-drop (length between) 6 s) ∙ drop-append_seam between (entry_bytes xs) in
      ap₂ entries_of count rest ∙ entries_of_bytes xs entries

  pub kept_reads_back : read_as kind (6 + length between) (kept_as kind between xs) ≡ answer xs
  unfolding s first read_as
  kept_reads_back = simp (is_kept_lem, entries_again)

-- bytes that were read, as a record of any kind, are the kept form of what was read
module _ (kind first : ℕ) (s xs : List ℕ) (head : 6 ≤ first) (bytes : Below 256 s) (reads : read_as kind first s ≡ answer xs) where
  pub entries_were_read : (is_kept kind first s ≡ true) × (answer (entries_of ((length s - first) / 4) (drop first s)) ≡ answer xs)
  unfolding read_as
  entries_were_read = passed 0 (is_kept kind first s) 13 (answer (entries_of ((length s - first) / 4) (drop first s))) xs reads

  -- the bytes of the entries are those from where the entries begin
  pub entries_are_the_rest : entry_bytes xs ≡ drop first s
  entries_are_the_rest =
      let (kept, is) = entries_were_read in
      let a = accepted kind first s kept in
      ap entry_bytes (sym (answer_injective is))
      ∙ bytes_of_entries ((length s - first) / 4) (drop first s) (length-drop first s ∙ omega arith) (below_in_the_rest 256 first s bytes)

  -- what follows the kind
  body_again : bytes_at s 6 (first - 6) ++ entry_bytes xs ≡ drop 6 s
  body_again =
      let place : first ≡ 6 + (first - 6) = omega arith in
      ap (λ (t : List ℕ). bytes_at s 6 (first - 6) ++ t)
      (entries_are_the_rest ∙ ap (λ (k : ℕ). drop k s) place ∙ sym (drop-drop (first - 6) 6 s))
      ∙ take-append-drop (first - 6) (drop 6 s)

  -- a number that was read from w bytes is written as those bytes
  pub field_again : (at w n : ℕ) → at + w ≤ length s → le_number (bytes_at s at w) ≡ n → le w n ≡ bytes_at s at w
  field_again at w n fits is =
      let long : length (bytes_at s at w) ≡ w = length-take-le w (drop at s) (omega (arith, length-drop at s)) in
      ap₂ le (sym long) (sym is) ∙ bytes_of_number (bytes_at s at w) (below_in_the_front 256 w (drop at s) (below_in_the_rest 256 at s bytes))

  pub read_is_kept : kept_as kind (bytes_at s 6 (first - 6)) xs ≡ s
  unfolding kept_as
  read_is_kept =
      let a = accepted kind first s entries_were_read.0 in
      let follows : le_number (bytes_at s 0 4) ≡ 2 + length (drop 6 s) = a.size ∙ omega (arith, length-drop 6 s) in
      ap (house_record kind) body_again
      ∙ ap₂ (λ (size kind : List ℕ). size ++ (kind ++ drop 6 s))
      (field_again 0 4 (2 + length (drop 6 s)) (omega arith) follows)
      (field_again 4 2 kind (omega arith) a.of_kind)
      ∙ ap (λ (t : List ℕ). take 4 s ++ t)
      (ap (λ (t : List ℕ). bytes_at s 4 2 ++ t) (sym (drop-drop 2 4 s)) ∙ take-append-drop 2 (drop 4 s))
      ∙ take-append-drop 4 s

-- the entries of a record, put behind the front of a record of another kind
pub put_again : (kind first other follows : ℕ) (between s xs front old new : List ℕ) (r : Outcome ℕ) → 6 ≤ first → ((i : ℕ) → get_or s i 0 < 256)
    → read_as kind first s ≡ answer xs → follows + first ≡ 2 + (length between + length s) → front ≡ le 4 follows ++ (le 2 other ++ between)
    → Writes (in_room (length old) (front ++ take (length s - first) (drop first s))) old r new → Writes (in_room (length old) (kept_as other between xs)) old r new
put_again kind first other follows between s xs front old new r head small reads size is writes =
    let bytes = each_below 256 s (λ i h. small i) in
    let (kept, entries) = entries_were_read kind first s xs head bytes reads in
    let a = accepted kind first s kept in
    let many : length xs ≡ (length s - first) / 4 = ap length (sym (answer_injective entries)) ∙ length_entries ((length s - first) / 4) (drop first s) in
    rw (in_two_pieces other between xs follows (omega (arith, a.long, a.whole, many, size)), entries_are_the_rest kind first s xs head bytes reads)
    (rw (is, all_that_is_left s first) at writes)

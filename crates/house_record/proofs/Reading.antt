-- Reading case by case, in the order of its refusals, over the kind and over where the entries begin.
use Prim.Native.Nat.{ℕ, ◌+◌, ◌*◌, ◌-◌, ◌/◌, ◌%◌, ◌≤◌, ◌<◌}
use native.Mathlib.Omega.{arith}
use mathlib.Core.Path.{◌≡◌, ◌∙◌, sym}
use mathlib.Core.Bool.{true, false, ◌&&◌, and-false}
use mathlib.Core.List.{List}
use lib.ListN.{length, get_or, drop}
use lib.Dec.{leb, eqb}
use borrow.Author.Tests.{le-leb, eq-eqb, ne_eqb, leb-true, eqb-true}
use Rattle.answer.specs.Outcome.{answer, refuse}
use Rattle.answer.specs.Window.{bytes_at}
use Rattle.answer.proofs.Outcomes.{first_answered, passed}
use Rattle.answer.proofs.Tests.{both_hold}
use Rattle.little.specs.LittleEndian.{le_number}
use Rattle.house_record.specs.Record.{in_room, number_at, entries_of, is_kept, read_as, load_as}
use Rattle.house_record.proofs.Entries.{entry_place}

-- four bytes that are all there
pub all_there : (s : List ℕ) (at : ℕ) → at + 4 ≤ length s → number_at s at ≡ le_number (bytes_at s at 4)
all_there s at h = simp (le-leb _ _ h)

-- entry i of those that begin at `first`, where they are all there
pub entry_from_place : (first n i : ℕ) (s : List ℕ) → i < n → first + 4 * n ≤ length s → get_or (entries_of n (drop first s)) i 0 ≡ number_at s (first + 4 * i)
entry_from_place first n i s h fits = entry_place first n i s h ∙ sym (all_there s (first + 4 * i) (omega arith))

module _ (kind first : ℕ) (s : List ℕ) where
  pub wrong_kind : {found : ℕ} → found ≡ le_number (bytes_at s 4 2) → (found ≡ kind → ⊥) → is_kept kind first s ≡ false
  wrong_kind is h = simp (← is, ne_eqb _ _ h, and-false)

  pub whole_entries_decide : first ≤ length s → le_number (bytes_at s 0 4) ≡ length s - 4 → le_number (bytes_at s 4 2) ≡ kind
      → is_kept kind first s ≡ eqb ((length s - first) % 4) 0
  whole_entries_decide long size is = simp (le-leb _ _ long, eq-eqb _ _ size, eq-eqb _ _ is)

-- what a record that was accepted says of its bytes
pub record Accepted (kind first : ℕ) (s : List ℕ) : Type 0 where
  pub long : first ≤ length s
  pub size : le_number (bytes_at s 0 4) ≡ length s - 4
  pub of_kind : le_number (bytes_at s 4 2) ≡ kind
  pub whole : (length s - first) % 4 ≡ 0

pub accepted : (kind first : ℕ) (s : List ℕ) → is_kept kind first s ≡ true → Accepted kind first s
accepted kind first s kept =
    let (front, back) =
    both_hold (leb first (length s) && eqb (le_number (bytes_at s 0 4)) (length s - 4))
    (eqb (le_number (bytes_at s 4 2)) kind && eqb ((length s - first) % 4) 0) kept in
    let (long, size) = both_hold (leb first (length s)) (eqb (le_number (bytes_at s 0 4)) (length s - 4)) front in
    let (of_kind, whole) = both_hold (eqb (le_number (bytes_at s 4 2)) kind) (eqb ((length s - first) % 4) 0) back in
    record {
      long = leb-true _ _ long;
      size = eqb-true _ _ size;
      of_kind = eqb-true _ _ of_kind;
      whole = eqb-true _ _ whole;
    }

-- bytes that a reader took are a record
pub loaded_is_kept : (kind first : ℕ) (s : List ℕ) (room : ℕ) (w : List ℕ) → load_as kind first s room ≡ answer w → is_kept kind first s ≡ true
unfolding load_as read_as
loaded_is_kept kind first s room w e =
    let (xs, reads, _) = first_answered (read_as kind first s) (in_room room) w e in
    (passed 0 (is_kept kind first s) 13 (answer (entries_of ((length s - first) / 4) (drop first s))) xs reads).0

-- the entries of a record
pub record_reads : (kind first : ℕ) (s : List ℕ) → is_kept kind first s ≡ true → read_as kind first s ≡ answer (entries_of ((length s - first) / 4) (drop first s))
unfolding read_as
record_reads kind first s kept = simp kept

-- bytes that are a record of one kind are none of another
pub each_refuses_the_other : (kind other first second : ℕ) (s xs : List ℕ) → (kind ≡ other → ⊥) → read_as kind first s ≡ answer xs → read_as other second s ≡ refuse 13 0
unfolding read_as
each_refuses_the_other kind other first second s xs differ reads =
    let kept = (passed 0 (is_kept kind first s) 13 (answer (entries_of ((length s - first) / 4) (drop first s))) xs reads).0 in
    simp (wrong_kind other second s (sym (accepted kind first s kept).of_kind) differ)

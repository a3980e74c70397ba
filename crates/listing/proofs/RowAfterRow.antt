-- In an accepted file, walking on from the end of each row finds the next one: rows come one after the other with no walk
-- from the start. It follows from what walks for k leaves find (walk's `walk_reads_rows`) and how they go on (`walks_on`).
use Prim.Native.Nat.{ℕ, suc, ◌+◌, ◌≤◌, ◌<◌}
use native.Mathlib.Nat.{add-zero}
use native.Mathlib.Omega.{arith}
use mathlib.Core.Path.{◌≡◌, refl, ◌∙◌, sym, ap}
use mathlib.Core.List.{List, [], ◌∷◌}
use lib.ListN.{length, get_or, take, drop}
use lib.Seq.{get_or-take, get_or-drop, drop-drop}
use Rattle.answer.specs.Outcome.{Outcome, answer, and_then, mapped}
use Rattle.answer.specs.Nth.{nth}
use Rattle.answer.specs.Size.{largest_file}
use Rattle.answer.specs.declared.Shown.{Shown}
use Rattle.answer.proofs.Outcomes.{first_answered, answer_injective}
use Rattle.label.specs.declared.Versions.TheVariants.{One}
use Rattle.label.specs.declared.Label.{Label}
use Rattle.label.specs.Head.{four_at}
use Rattle.label.specs.Length.{field_size, spaces_in, spaces_at}
use Rattle.label.specs.Label.{read_label}
use Rattle.label.proofs.Read.{read_says, version_is_allowed, only_one_is_one, ReadDigits, digits_say}
use Rattle.walk.specs.declared.Leaf.{Leaf}
use Rattle.sfdu.specs.Row.{Row, value_at}
use Rattle.sfdu.specs.Scan.{scan}
use Rattle.walk.specs.Walk.{row_at_leaf, walk_from}
use Rattle.walk.proofs.WalkLoop.{place_inside}
use Rattle.walk.proofs.WalkReads.{as_walked, walk_at, behind, walk_reads_rows, a_leaf_is_found, found_ends_inside}
use Rattle.walk.proofs.Finding.{walks_on}

-- a walk of the file came to this row
pub record FindsRow (f : List ℕ) (o : Outcome Leaf) (r : Row) : Type 0 where
  pub leaf : Leaf
  pub found : o ≡ answer leaf
  pub place : leaf.place ≡ r.label
  pub size : leaf.label.length ≡ r.size
  pub description : leaf.label.description ≡ four_at f (r.label + 8)
  pub spaces : leaf.label.spaces ≡ spaces_at f r.label
  pub few : leaf.label.spaces ≤ 7
  pub inside : value_at r + r.size ≤ length f

-- the walk came to the first of these rows, and walking on from its end to the next, and so on
abbrev pub Finds : List ℕ → Outcome Leaf → List Row → Type 0
Finds f o [] = Unit
Finds f o (r ∷ rs) = FindsRow f o r × Finds f (walk_from One f (value_at r + r.size) 0) rs

-- the description of a label at a place of a file is bytes 8-11 there
description_there : (f : List ℕ) (at : ℕ) (l : Label) → read_label One (drop at f) ≡ answer l → l.description ≡ four_at f (at + 8)
description_there f at l e = sym (ap (λ (m : Label). m.description) (read_says One (drop at f) l e).fields) ∙ four
  where
    byte : (i p : ℕ) → i < 12 → at + i ≡ p → get_or (take 12 (drop at f)) i 0 ≡ get_or f p 0
    byte i p h e = get_or-take 12 (drop at f) i 0 h ∙ get_or-drop at f i 0 ∙ ap (λ (k : ℕ). get_or f k 0) e

    four : four_at (take 12 (drop at f)) 8 ≡ four_at f (at + 8)
    four =
        cc (
          byte 8 (at + 8) (omega arith) refl,
          byte 9 (at + 8 + 1) (omega arith) (omega arith),
          byte 10 (at + 8 + 2) (omega arith) (omega arith),
          byte 11 (at + 8 + 3) (omega arith) (omega arith),
        )

-- a label that is listed is of version 1, so that its length is in digits
digits_there : (f : List ℕ) (at : ℕ) (l : Label) → read_label One (drop at f) ≡ answer l → ReadDigits (drop at f) l
digits_there f at l e = digits_say (drop at f) l (read_says One (drop at f) l e) (only_one_is_one l.version (version_is_allowed One (drop at f) l e))

-- its spaces are those of bytes 12-19 there
spaces_there : (f : List ℕ) (at : ℕ) (l : Label) → read_label One (drop at f) ≡ answer l → l.spaces ≡ spaces_at f at
spaces_there f at l e =
    (digits_there f at l e).spaces ∙ ap (λ (s : List ℕ). spaces_in (take field_size s)) (drop-drop 12 at f)

-- where walks for k leaves and more find these rows, the walk for k leaves comes to the first, and so on
module _ (f : List ℕ) (small : length f ≤ largest_file) where
  finds_from : (rs : List Row) (from k : ℕ) → walk_from One f from 0 ≡ walk_at One f 0 k
      → ((j : ℕ) → and_then (walk_at One f 0 (k + j)) row_at_leaf ≡ mapped as_walked (nth rs j)) → Finds f (walk_from One f from 0) rs
  finds_from [] from k here rows = tt
  finds_from (r ∷ rs) from k here rows =
      let (x, walked, value) = first_answered (walk_at One f 0 k) row_at_leaf (as_walked r) (ap (λ (j : ℕ). and_then (walk_at One f 0 j) row_at_leaf) (sym (add-zero k)) ∙ rows 0) in
      let place : x.place ≡ r.label = ap (λ (v : Shown). v.address.label) (answer_injective value) in
      let size : x.label.length ≡ r.size = ap (λ (v : Shown). v.part.count) (answer_injective value) in
      let inside = found_ends_inside One f 0 k x walked in
      let read = (a_leaf_is_found One f 0 k x walked).reads in
      let end : value_at r + r.size ≡ behind x = omega (arith, place, size) in (
        record {
          leaf = x;
          found = here ∙ walked;
          place = place;
          size = size;
          description = description_there f x.place x.label read ∙ ap (λ (p : ℕ). four_at f (p + 8)) place;
          spaces = spaces_there f x.place x.label read ∙ ap (spaces_at f) place;
          few = (digits_there f x.place x.label read).few;
          inside = omega (arith, end, inside);
        },
        finds_from rs (value_at r + r.size) (k + 1)
            (ap (λ (p : ℕ). walk_from One f p 0) end ∙ walks_on One f k x small walked)
            (λ j. ap (λ (m : ℕ). and_then (walk_at One f 0 m) row_at_leaf) {x = k + 1 + j} {y = k + suc j} (omega arith) ∙ rows (suc j)),
      )

  -- the theorem: from the first byte of an accepted file, row after row
  pub finds_rows : (rows : List Row) → scan One f ≡ answer rows → Finds f (walk_from One f 0 0) rows
  finds_rows rows e =
      finds_from rows 0 0 (place_inside One f 0 0 small (omega arith))
      (λ j. ap (λ (k : ℕ). and_then (walk_at One f 0 k) row_at_leaf) {x = 0 + j} {y = j} (omega arith) ∙ walk_reads_rows One f rows e j)

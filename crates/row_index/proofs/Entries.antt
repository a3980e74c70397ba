-- The entries of a file's index, found one after the other: a walk of sixteen leaves from an entry comes to the next.
-- `AtEntry` is the invariant of the loops that build and check an index.
use Prim.Native.Nat.{ℕ, ◌+◌, ◌*◌, ◌≤◌, ◌<◌, zero-le}
use native.Mathlib.Nat.{not-suc-le-zero}
use native.Mathlib.Omega.{arith}
use mathlib.Core.Path.{◌≡◌, refl, ◌∙◌, sym, ap, subst}
use mathlib.Core.List.{List}
use lib.ListN.{length, get_or}
use Rattle.label.specs.declared.Versions.{Versions}
use Rattle.answer.specs.Outcome.{Outcome, answer, refuse, and_then, mapped}
use Rattle.answer.specs.Nth.{nth}
use Rattle.answer.specs.declared.Shown.{Shown}
use Rattle.answer.proofs.Outcomes.{first_answered, answer_injective}
use Rattle.answer.proofs.Nths.{nth_is_there}
use Rattle.sfdu.specs.Row.{Row}
use Rattle.walk.specs.declared.Leaf.{Leaf}
use Rattle.sfdu.specs.Check.{rows_of_file}
use Rattle.walk.specs.Walk.{row_at_leaf, walk_from}
use Rattle.sfdu.proofs.Checking.{accepted_says}
use Rattle.walk.proofs.Finding.{walked_value_fits}
use Rattle.walk.proofs.WalkLoop.{place_inside}
use Rattle.walk.proofs.WalkReads.{as_walked, walk_at, walk_reads_rows, resume, found_ends_inside}
use Rattle.row_index.specs.Index.{index_of, place_found}
use Rattle.row_index.specs.Private.{known, the_index}
use Rattle.row_index.proofs.Sixteenths.{entry_is_a_row, one_entry_a_group}

-- which versions of the label are allowed
module _ (versions : Versions) where
  -- an index with an entry is that of an accepted file
  pub whose_index : (f : List ℕ) (i : ℕ) → i < length (the_index versions f) → (rows : List Row) × (rows_of_file versions f ≡ answer rows) × (the_index versions f ≡ index_of rows)
  unfolding the_index
  whose_index f i h = cases (rows_of_file versions f) refl h
    where
      cases : (o : Outcome (List Row)) → rows_of_file versions f ≡ o → i < length (index_of (known o)) → (rows : List Row) × (rows_of_file versions f ≡ answer rows) × (index_of (known (rows_of_file versions f)) ≡ index_of rows)
      cases (answer rows) e k = (rows, e, ap (λ (o : Outcome (List Row)). index_of (known o)) e)
      cases (refuse n p) e k = absurd (not-suc-le-zero k)

  pub index_of_accepted : (f : List ℕ) (rows : List Row) → rows_of_file versions f ≡ answer rows → the_index versions f ≡ index_of rows
  unfolding the_index
  index_of_accepted f rows e = ap (λ (o : Outcome (List Row)). index_of (known o)) e

  -- the leaf behind entry i of an accepted file
  module _ (f : List ℕ) (rows : List Row) (accepted : rows_of_file versions f ≡ answer rows) (i : ℕ) (there : i < length (index_of rows)) where
    pub leaf_of_entry : (x : Leaf) × (walk_at versions f 0 (16 * i) ≡ answer x) × (x.place ≡ get_or (index_of rows) i 0)
    leaf_of_entry =
        let (r, row) = nth_is_there rows (16 * i) (omega (arith, one_entry_a_group rows)) in
        let (x, walks, value) = first_answered (walk_at versions f 0 (16 * i)) row_at_leaf (as_walked r)
        (walk_reads_rows versions f rows (accepted_says versions f rows accepted).1 (16 * i) ∙ ap (mapped as_walked) row) in
        let place : x.place ≡ r.label = ap (λ (q : Shown). q.address.label) (answer_injective value) in
        let entry : get_or (index_of rows) i 0 ≡ r.label =
        entry_is_a_row rows 0 i r (ap (nth rows) {x = 0 + 16 * i} {y = 16 * i} (omega arith) ∙ row) in
        (x, walks, place ∙ sym entry)

  -- the place that a walk came to lies in the file
  pub place_found_inside : (f : List ℕ) (from k : ℕ) → place_found (walk_from versions f from k) ≤ length f
  place_found_inside f from k = cases (walk_from versions f from k) refl
    where
      cases : (o : Outcome Leaf) → walk_from versions f from k ≡ o → place_found o ≤ length f
      cases (answer x) e = omega (arith, walked_value_fits versions f from k x e)
      cases (refuse n p) e = zero-le

  -- so many entries are passed, and a walk from here comes to the next
  pub record AtEntry (f : List ℕ) (i from leaves : ℕ) : Type 0 where
    pub within : from ≤ length f
    pub next : walk_at versions f 0 (16 * i) ≡ walk_at versions f from leaves

  pub first_entry : (f : List ℕ) → AtEntry f 0 0 0
  first_entry f = record { within = zero-le; next = ap (walk_at versions f 0) {x = 16 * 0} {y = 0} (omega arith) }

  -- what the walk finds is the entry, and the next one is sixteen leaves from it
  pub record Entry (f : List ℕ) (i place : ℕ) : Type 0 where
    pub is : place ≡ get_or (the_index versions f) i 0
    pub on : AtEntry f (i + 1) place 16

  pub entry_found : (f : List ℕ) (i from leaves : ℕ) → AtEntry f i from leaves → i < length (the_index versions f)
      → Entry f i (place_found (walk_from versions f from leaves))
  entry_found f i from leaves at h =
      let (rows, accepted, index) = whose_index f i h in
      let (x, walks, place) = leaf_of_entry f rows accepted i (subst (λ (xs : List ℕ). i < length xs) index h) in
      let found : place_found (walk_from versions f from leaves) ≡ x.place =
      ap place_found (place_inside versions f from leaves (accepted_says versions f rows accepted).0 at.within ∙ sym at.next ∙ walks) in
      let inside : x.place ≤ length f = omega (arith, found_ends_inside versions f 0 (16 * i) x walks) in
      let on : AtEntry f (i + 1) x.place 16 = record {
        within = inside;
        next =
            ap (walk_at versions f 0) {x = 16 * (i + 1)} {y = 16 * i + 16} (omega arith) ∙ resume versions f 0 (16 * i) 16
            ∙ ap (λ (o : Outcome Leaf). and_then o (λ y. walk_at versions f y.place 16)) walks;
      } in
      subst (Entry f i) (sym found) (record {
        is = place ∙ ap (λ (xs : List ℕ). get_or xs i 0) (sym index);
        on = on;
      })

-- The builder and the check of an index, in their code's own terms: the loops' invariants, and each answer case by case.
use Prim.Native.Nat.{ℕ, zero, suc, ◌+◌, ◌/◌, ◌≤◌, ◌<◌}
use native.Mathlib.Numerals.{add-one}
use native.Mathlib.Omega.{arith}
use mathlib.Core.Path.{◌≡◌, refl, ◌∙◌, sym, ap, ap₂, subst}
use mathlib.Core.Bool.{Bool, true, false, ◌&&◌}
use mathlib.Core.List.{List, [], ◌∷◌, ◌++◌, append-nil}
use lib.ListN.{length, get_or, set, drop, drop_of_length-le}
use lib.Seq.{drop-cons, take_all}
use lib.Dec.{eqb}
use borrow.Author.Tests.{le-leb, lt-leb, eq-eqb, ne_eqb}
use Rattle.std.specs.Prelude.{slice_get, Some}
use Rattle.std.specs.Option.{option_eq}
use Rattle.label.specs.declared.Versions.{Versions}
use Rattle.answer.specs.Outcome.{Outcome, answer, refuse, need, and_then, mapped}
use Rattle.answer.specs.Filled.{filled}
use Rattle.answer.proofs.Outcomes.{answer_is_no_refusal, first_answered, refused_first, mapped_answer}
use Rattle.answer.proofs.Writers.{Putting, nothing_put, one_put, all_put}
use Rattle.sfdu.specs.Row.{Row}
use Rattle.sfdu.specs.Check.{rows_of_file, check_labelled}
use Rattle.walk.specs.Walk.{walk_from}
use Rattle.row_index.specs.Index.{index_of, built_of, build_index, same, check_index, place_found}
use Rattle.row_index.specs.Private.{the_index}
use Rattle.row_index.proofs.Sixteenths.{one_entry_a_group}
use Rattle.row_index.proofs.Entries.{AtEntry, Entry, first_entry, entry_found, index_of_accepted}

-- two lists that have an entry at i are compared there and then from i + 1 on
same_step : (xs ys : List ℕ) (i : ℕ) → i < length xs → i < length ys
    → same (drop i xs) (drop i ys) ≡ (eqb (get_or xs i 0) (get_or ys i 0) && same (drop (i + 1) xs) (drop (i + 1) ys))
same_step xs ys i h k =
    ap₂ same (drop-cons xs i 0 h) (drop-cons ys i 0 k)
    ∙ ap (λ (n : ℕ). eqb (get_or xs i 0) (get_or ys i 0) && same (drop n xs) (drop n ys)) (sym (add-one i))

-- an entry that is there, asked for and compared
pub compared : (xs : List ℕ) (i place : ℕ) → i < length xs → option_eq eqb (slice_get xs i) (Some place) ≡ eqb (get_or xs i 0) place
compared [] i place h = absurd (omega arith)
compared (x ∷ xs) zero place h = refl
compared (x ∷ xs) (suc i) place h = compared xs i place (omega arith)

-- lists of different lengths are not the same
pub lengths_differ : (xs ys : List ℕ) → (length xs ≡ length ys → ⊥) → same xs ys ≡ false
lengths_differ [] [] d = absurd (d refl)
lengths_differ [] (y ∷ ys) d = refl
lengths_differ (x ∷ xs) [] d = refl
lengths_differ (x ∷ xs) (y ∷ ys) d = ap (λ (t : Bool). eqb x y && t) (lengths_differ xs ys (λ e. d (ap suc e))) ∙ never (eqb x y)
  where
    never : (t : Bool) → (t && false) ≡ false
    never true = refl
    never false = refl

-- ---- what a builder answers and leaves in the list, once its outcome is known

pub refused_build : (old : List ℕ) {o r : Outcome (List Row)} → o ≡ r → (mapped built_of r ≡ mapped built_of o) × (filled (mapped index_of r) old ≡ filled (mapped index_of o) old)
refused_build old e = (ap (mapped built_of) (sym e), ap (λ (r : Outcome (List Row)). filled (mapped index_of r) old) (sym e))

pub index_at_the_front : (old new index : List ℕ) (rows : List Row) (o : Outcome (List Row)) (entries n : ℕ) → o ≡ answer rows → index_of rows ≡ index
    → length index ≡ entries → length rows ≡ n → new ≡ index ++ drop (length index) old
    → (answer (record { entries = entries; rows = n }) ≡ mapped built_of o) × (new ≡ filled (mapped index_of o) old)
index_at_the_front old new index rows o entries n is index_is many rows_are New-is = (
  ap₂ (λ (m k : ℕ). answer (record { entries = m; rows = k })) (sym (ap length index_is ∙ many)) (sym rows_are) ∙ ap (mapped built_of) (sym is),
  New-is ∙ ap (λ (w : List ℕ). w ++ drop (length w) old) (sym index_is) ∙ ap (λ (r : Outcome (List Row)). filled (mapped index_of r) old) (sym is),
)

-- which versions of the label are allowed
module _ (versions : Versions) where
  -- ---- the builder's loop

  pub record Writing (f old list : List ℕ) (i from leaves : ℕ) : Type 0 where
    pub put : Putting (the_index versions f) old list (length old) i
    pub at : AtEntry versions f i from leaves

  pub nothing_written : (f old : List ℕ) → Writing f old old 0 0 0
  nothing_written f old = record { put = nothing_put (the_index versions f) old (length old); at = first_entry versions f }

  module _ (f old list : List ℕ) (i from leaves : ℕ) (w : Writing f old list i from leaves) (many : length old ≡ length (the_index versions f)) where
    pub entry_written : (place : ℕ) → i < length old → place ≡ place_found (walk_from versions f from leaves)
        → Writing f old (set list i place) (i + 1) place 16
    entry_written place more found =
        let entry = subst (Entry versions f i) (sym found) (entry_found versions f i from leaves w.at (omega arith)) in
        record { put = one_put (the_index versions f) old (length old) list i w.put (omega arith) (omega arith) place more entry.is; at = entry.on }

    pub all_written : length old ≤ i → list ≡ the_index versions f
    all_written h =
        all_put (the_index versions f) old (length old) list i w.put h
        ∙ ap₂ (λ (a b : List ℕ). a ++ b) (take_all (length old) (the_index versions f) (omega arith)) (drop_of_length-le old {i = length old} (omega arith))
        ∙ append-nil (the_index versions f)

  -- ---- the check's loop

  pub record Comparing (f xs : List ℕ) (i from leaves : ℕ) : Type 0 where
    pub at : AtEntry versions f i from leaves
    pub left : same xs (the_index versions f) ≡ same (drop i xs) (drop i (the_index versions f))

  pub nothing_compared : (f xs : List ℕ) → Comparing f xs 0 0 0
  nothing_compared f xs = record { at = first_entry versions f; left = refl }

  module _ (f xs : List ℕ) (i from leaves place : ℕ) (w : Comparing f xs i from leaves) (many : length xs ≡ length (the_index versions f))
      (more : i < length xs) (entry : Entry versions f i place) where
    pub entry_agrees : get_or xs i 0 ≡ place → Comparing f xs (i + 1) place 16
    entry_agrees e = record {
      at = entry.on;
      left =
          w.left ∙ same_step xs (the_index versions f) i more (omega arith)
          ∙ ap (λ (t : Bool). t && same (drop (i + 1) xs) (drop (i + 1) (the_index versions f))) (eq-eqb (get_or xs i 0) (get_or (the_index versions f) i 0) (e ∙ entry.is));
    }

    pub entry_differs : (get_or xs i 0 ≡ place → ⊥) → same xs (the_index versions f) ≡ false
    entry_differs d =
        w.left ∙ same_step xs (the_index versions f) i more (omega arith)
        ∙ ap (λ (t : Bool). t && same (drop (i + 1) xs) (drop (i + 1) (the_index versions f)))
        (ne_eqb (get_or xs i 0) (get_or (the_index versions f) i 0) (λ e. d (e ∙ sym entry.is)))

  pub all_compared : (f xs : List ℕ) (i from leaves : ℕ) → Comparing f xs i from leaves → length xs ≡ length (the_index versions f) → length xs ≤ i
      → same xs (the_index versions f) ≡ true
  all_compared f xs i from leaves w many h =
      w.left ∙ ap₂ same (drop_of_length-le xs {i = i} h) (drop_of_length-le (the_index versions f) {i = i} (omega arith))

  -- ---- the answers

  -- what a count says: the file's rows, and as many entries as groups
  module _ (f : List ℕ) (n : ℕ) (checked : check_labelled versions f ≡ answer n) where
    pub rows_counted : (rows : List Row) × (rows_of_file versions f ≡ answer rows) × (length rows ≡ n)
    unfolding check_labelled
    rows_counted = mapped_answer length (rows_of_file versions f) n checked

    pub entries_counted : length (the_index versions f) ≡ (n + 15) / 16
    entries_counted =
        let (rows, accepted, many) = rows_counted in
        ap length (index_of_accepted versions f rows accepted) ∙ one_entry_a_group rows ∙ ap (λ (k : ℕ). (k + 15) / 16) many

    module _ (room : ℕ) where
      pub no_room_to_build : room < (n + 15) / 16 → build_index versions f room ≡ refuse 8 0
      unfolding build_index
      no_room_to_build h =
          let (rows, accepted, many) = rows_counted in
          let k = one_entry_a_group rows ∙ ap (λ (k : ℕ). (k + 15) / 16) many in
          rw (accepted, lt-leb (length (index_of rows)) room (omega (arith, k)))

      pub index_is_built : (n + 15) / 16 ≤ room → (rows : List Row) × (build_index versions f room ≡ answer rows) × (index_of rows ≡ the_index versions f) × (length rows ≡ n)
      unfolding build_index
      index_is_built h =
          let (rows, accepted, many) = rows_counted in
          let k : length (index_of rows) ≡ (n + 15) / 16 = one_entry_a_group rows ∙ ap (λ (k : ℕ). (k + 15) / 16) many in
          (rows, rw (accepted, le-leb (length (index_of rows)) room (omega (arith, k))), sym (index_of_accepted versions f rows accepted), many)

    pub index_is_checked : (xs : List ℕ) → check_index versions f xs ≡ need (same xs (the_index versions f)) 11 (answer tt)
    unfolding check_index
    index_is_checked xs =
        let (rows, accepted, many) = rows_counted in
        rw (accepted, index_of_accepted versions f rows accepted)

    -- how many rows there are, once the comparison is known
    pub rows_are_indexed : (xs : List ℕ) (t : Bool) → same xs (the_index versions f) ≡ t
        → need t 11 (answer n) ≡ and_then (check_index versions f xs) (λ _. check_labelled versions f)
    rows_are_indexed xs t e =
        sym (ap₂ (λ (o : Outcome Unit) (c : Outcome ℕ). and_then o (λ _. c)) (index_is_checked xs ∙ ap (λ (b : Bool). need b 11 (answer tt)) e) checked ∙ counted_then t)
      where
        counted_then : (b : Bool) → and_then {A = Unit} {B = ℕ} (need b 11 (answer tt)) (λ _. answer n) ≡ need b 11 (answer n)
        counted_then true = refl
        counted_then false = refl

  module _ (f : List ℕ) (n p : ℕ) (refused : check_labelled versions f ≡ refuse n p) where
    pub no_rows : rows_of_file versions f ≡ refuse n p
    unfolding check_labelled
    no_rows = refused_first (rows_of_file versions f) length refused

    pub not_built : (room : ℕ) → build_index versions f room ≡ refuse n p
    unfolding build_index
    not_built room = rw no_rows

    pub not_checked : (xs : List ℕ) → check_index versions f xs ≡ refuse n p
    unfolding check_index
    not_checked xs = rw no_rows

-- a file whose rows were counted behind the check of its index has that index; a refusal there is the check's
module _ (versions : Versions) (f xs : List ℕ) where
  pub counted_is_checked : (n : ℕ) → and_then (check_index versions f xs) (λ _. check_labelled versions f) ≡ answer n
      → (check_index versions f xs ≡ answer tt) × (check_labelled versions f ≡ answer n)
  counted_is_checked n e =
      let (_, checks, counts) = first_answered (check_index versions f xs) (λ _. check_labelled versions f) n e in (checks, counts)

  pub refused_is_checked : (n p : ℕ) → and_then (check_index versions f xs) (λ _. check_labelled versions f) ≡ refuse n p → check_index versions f xs ≡ refuse n p
  refused_is_checked n p e = cases (check_index versions f xs) refl e
    where
      cases : (o : Outcome Unit) → check_index versions f xs ≡ o → and_then o (λ _. check_labelled versions f) ≡ refuse n p → o ≡ refuse n p
      cases (answer tt) is refused = absurd (answer_is_no_refusal (sym is ∙ not_checked versions f n p refused xs))
      cases (refuse m q) is refused = refused_first (refuse m q) (λ _. 0) refused

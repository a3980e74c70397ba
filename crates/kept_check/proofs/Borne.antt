-- What both calls begin with, the rows of a file that bears a kept list out, case by case; and each call as what it does behind that.
use Prim.Native.Nat.{ℕ, ◌+◌, ◌*◌, ◌-◌, ◌/◌, ◌≤◌, ◌<◌}
use native.Mathlib.Omega.{arith}
use mathlib.Core.Path.{◌≡◌, refl, ◌∙◌, sym, ap}
use mathlib.Core.Bool.{Bool, true, false, ◌&&◌}
use mathlib.Core.List.{List, ◌++◌}
use lib.ListN.{length, get_or, take, drop, length-drop}
use lib.Dec.{eqb}
use Rattle.label.specs.declared.Versions.{Versions}
use Rattle.answer.specs.Outcome.{Outcome, answer, refuse, need, and_then, mapped}
use Rattle.answer.specs.Filled.{Writes}
use Rattle.answer.specs.Size.{largest_file}
use Rattle.answer.specs.Window.{bytes_at}
use Rattle.answer.proofs.Parts.{all_that_is_left}
use Rattle.answer.proofs.Outcomes.{first_answered, passed, after_answer, after_refusal, answer_injective}
use Rattle.sfdu.specs.Row.{Row}
use Rattle.sfdu.specs.Check.{rows_of_file, check_labelled}
use Rattle.sfdu.proofs.Checking.{accepted_says}
use Rattle.sfdu.proofs.Few.{twenty_bytes_a_row}
use Rattle.row_index.specs.Index.{index_of, same, check_index}
use Rattle.row_index.proofs.Sixteenths.{one_entry_a_group}
use Rattle.row_index.proofs.IndexExact.{same_is_equal}
use Rattle.row_index.proofs.Building.{rows_counted, no_rows}
use Rattle.little.specs.LittleEndian.{le, le_number}
use Rattle.house_record.specs.Record.{in_room, number_at, entries_of, is_kept, read_as}
use Rattle.kept.specs.Kept.{read_kept}
use Rattle.house_record.proofs.Entries.{length_entries}
use Rattle.house_record.proofs.Reading.{accepted, all_there, record_reads}
use Rattle.house_record.proofs.RoundTrip.{put_again}
use Rattle.kept_rows.specs.Kind2.{kept_form2, with_rows}
use Rattle.kept_rows.proofs.Kind2.{rows_are_there}
use Rattle.kept_check.specs.Check.{bears_out, to_kind2, check_kept2}
use Rattle.kept_check.specs.Private.{rows_borne_out}

-- which versions of the label are allowed
module _ (versions : Versions) where
  -- ---- the code's steps

  module _ (kind first : ℕ) (f s : List ℕ) where
    pub not_accepted : (n p : ℕ) → check_labelled versions f ≡ refuse n p → rows_borne_out versions kind first f s ≡ refuse n p
    unfolding rows_borne_out
    not_accepted n p e = rw (no_rows versions f n p e) refl

    module _ (n : ℕ) (checked : check_labelled versions f ≡ answer n) where
      pub no_record : is_kept kind first s ≡ false → rows_borne_out versions kind first f s ≡ refuse 13 0
      unfolding rows_borne_out read_as
      no_record h = let (rows, accepts, many) = rows_counted versions f n checked in simp (accepts, h)

    pub as_indexed : is_kept kind first s ≡ true
        → and_then (check_index versions f (entries_of (length (take (length s - first) (drop first s)) / 4) (take (length s - first) (drop first s)))) (λ _. check_labelled versions f)
        ≡ rows_borne_out versions kind first f s
    unfolding rows_borne_out check_index check_labelled
    as_indexed kept =
        rw (record_reads kind first s kept, all_that_is_left s first, length-drop first s) (cases (rows_of_file versions f))
      where
        tests : (t : Bool) (n : ℕ) → and_then {A = Unit} {B = ℕ} (need t 11 (answer tt)) (λ _. answer n) ≡ need t 11 (answer n)
        tests true n = refl
        tests false n = refl

        cases : (o : Outcome (List Row))
            → and_then {A = Unit} {B = ℕ} (and_then {A = List Row} {B = Unit} o (λ rows. need (same (entries_of ((length s - first) / 4) (drop first s)) (index_of rows)) 11 (answer tt))) (λ _. mapped length o)
            ≡ and_then o (λ rows. need (same (entries_of ((length s - first) / 4) (drop first s)) (index_of rows)) 11 (answer (length rows)))
        cases (answer rows) = tests (same (entries_of ((length s - first) / 4) (drop first s)) (index_of rows)) (length rows)
        cases (refuse n p) = refl

    -- ---- what it says that a list is borne out

    pub record Borne (n : ℕ) : Type 0 where
      pub rows : List Row
      pub accepts : rows_of_file versions f ≡ answer rows
      pub many : length rows ≡ n
      pub is_record : is_kept kind first s ≡ true
      pub index : entries_of ((length s - first) / 4) (drop first s) ≡ index_of rows
      pub few : 20 * n ≤ largest_file
      pub size : length s ≡ first + 4 * ((n + 15) / 16)

    pub borne : (n : ℕ) → rows_borne_out versions kind first f s ≡ answer n → Borne n
    unfolding rows_borne_out read_as
    borne n e =
        let (rows, accepts, then) = first_answered (rows_of_file versions f) (λ rs. and_then (read_as kind first s) (λ ys. need (same ys (index_of rs)) 11 (answer (length rs)))) n e in
        let (xs, reads, compares) = first_answered (read_as kind first s) (λ ys. need (same ys (index_of rows)) 11 (answer (length rows))) n then in
        let (is_same, is) = passed 0 (same xs (index_of rows)) 11 (answer (length rows)) n compares in
        let (kept, entries) = passed 0 (is_kept kind first s) 13 (answer (entries_of ((length s - first) / 4) (drop first s))) xs reads in
        let many = answer_injective is in
        let index = answer_injective entries ∙ same_is_equal xs (index_of rows) is_same in
        let a = accepted kind first s kept in
        record {
          rows = rows;
          accepts = accepts;
          many = many;
          is_record = kept;
          index = index;
          few = omega (arith, many, twenty_bytes_a_row versions f rows accepts, (accepted_says versions f rows accepts).0);
          size =
              omega (arith, many, a.long, a.whole, ap length index, length_entries ((length s - first) / 4) (drop first s), one_entry_a_group rows);
        }

  -- ---- the check of kind 2

  module _ (f s : List ℕ) where
    by_rows : check_kept2 versions f s ≡ and_then (rows_borne_out versions 2 10 f s) (λ n. need (eqb (le_number (bytes_at s 6 4)) n) 11 (answer tt))
    unfolding check_kept2 rows_borne_out
    by_rows = cases (rows_of_file versions f) (read_as 2 10 s)
      where
        tests : (t : Bool) (told n : ℕ) → ◌≡◌ {A = Outcome Unit} (need (t && eqb told n) 11 (answer tt)) (and_then (need t 11 (answer n)) (λ m. need (eqb told m) 11 (answer tt)))
        tests true told n = refl
        tests false told n = refl

        cases : (o : Outcome (List Row)) (r : Outcome (List ℕ))
            → ◌≡◌ {A = Outcome Unit} (and_then o (λ rows. and_then (mapped (with_rows s) r) (λ k. need (bears_out rows k) 11 (answer tt))))
            (and_then (and_then o (λ rows. and_then r (λ xs. need (same xs (index_of rows)) 11 (answer (length rows))))) (λ n. need (eqb (le_number (bytes_at s 6 4)) n) 11 (answer tt)))
        cases (answer rows) (answer xs) = tests (same xs (index_of rows)) (le_number (bytes_at s 6 4)) (length rows)
        cases (answer rows) (refuse n p) = refl
        cases (refuse n p) r = refl

    pub check_by_rows : check_kept2 versions f s ≡ and_then (rows_borne_out versions 2 10 f s) (λ n. need (eqb (number_at s 6) n) 11 (answer tt))
    check_by_rows = by_rows ∙ counts (rows_borne_out versions 2 10 f s) refl
      where
        counts : (o : Outcome ℕ) → rows_borne_out versions 2 10 f s ≡ o
            → and_then {A = ℕ} {B = Unit} o (λ n. need (eqb (le_number (bytes_at s 6 4)) n) 11 (answer tt)) ≡ and_then o (λ n. need (eqb (number_at s 6) n) 11 (answer tt))
        counts (answer n) e = ap (λ (m : ℕ). need {A = Unit} (eqb m n) 11 (answer tt)) (sym (rows_are_there s (borne 2 10 f s n e).is_record))
        counts (refuse n p) e = refl

  -- ---- the way to kind 2

  module _ (f s : List ℕ) (room : ℕ) where
    pub there_by_rows : to_kind2 versions f s room
        ≡ and_then (rows_borne_out versions 1 6 f s) (λ n. and_then (read_kept s) (λ xs. in_room room (kept_form2 (record { rows = n; list = xs }))))
    unfolding to_kind2 rows_borne_out
    there_by_rows = cases (rows_of_file versions f) (read_kept s)
      where
        cases : (o : Outcome (List Row)) (r : Outcome (List ℕ))
            → and_then o (λ rows. and_then r (λ xs. need (same xs (index_of rows)) 11 (in_room room (kept_form2 (record { rows = length rows; list = xs })))))
            ≡ and_then (and_then o (λ rows. and_then r (λ xs. need (same xs (index_of rows)) 11 (answer (length rows))))) (λ n. and_then r (λ xs. in_room room (kept_form2 (record { rows = n; list = xs }))))
        cases (answer rows) (answer xs) = tests (same xs (index_of rows))
          where
            tests : (t : Bool) → need t 11 (in_room room (kept_form2 (record { rows = length rows; list = xs })))
                ≡ and_then (need t 11 (answer (length rows))) (λ n. in_room room (kept_form2 (record { rows = n; list = xs })))
            tests true = refl
            tests false = refl
        cases (answer rows) (refuse n p) = refl
        cases (refuse n p) r = refl

    pub not_there : (n p : ℕ) → rows_borne_out versions 1 6 f s ≡ refuse n p → to_kind2 versions f s room ≡ refuse n p
    not_there n p e = there_by_rows ∙ after_refusal (rows_borne_out versions 1 6 f s) (λ m. and_then (read_kept s) (λ ys. in_room room (kept_form2 (record { rows = m; list = ys })))) n p e

  -- the sizes of a record of kind 1 that is borne out, and the length that it tells
  pub sizes_there : (f s : List ℕ) (n : ℕ) → answer n ≡ rows_borne_out versions 1 6 f s
      → (20 * n ≤ largest_file) × (length s ≡ 6 + 4 * ((n + 15) / 16)) × (number_at s 0 + 4 ≡ length s)
  sizes_there f s n e =
      let b = borne 1 6 f s n (sym e) in
      let a = accepted 1 6 s b.is_record in
      (b.few, b.size, omega (arith, a.long, a.size, all_there s 0 (omega (arith, a.long))))

  -- a record of kind 2 was put, of the entries of these bytes
  pub put_there : (n follows : ℕ) (front f s old new : List ℕ) (r : Outcome ℕ) → answer n ≡ rows_borne_out versions 1 6 f s → ((i : ℕ) → get_or s i 0 < 256)
      → follows ≡ number_at s 0 → front ≡ le 4 (follows + 4) ++ (le 2 2 ++ le 4 n) → Writes (in_room (length old) (front ++ take (length s - 6) (drop 6 s))) old r new
      → Writes (to_kind2 versions f s (length old)) old r new
  put_there n follows front f s old new r e bytes field is writes =
      let room = length old in
      let b = borne 1 6 f s n (sym e) in
      let reads = record_reads 1 6 s b.is_record in
      let xs = entries_of ((length s - 6) / 4) (drop 6 s) in
      rw
      (there_by_rows f s room
      ∙ after_answer (rows_borne_out versions 1 6 f s) (λ m. and_then (read_kept s) (λ ys. in_room room (kept_form2 (record { rows = m; list = ys })))) n (sym e)
      ∙ after_answer (read_kept s) (λ ys. in_room room (kept_form2 (record { rows = n; list = ys }))) xs reads)
      (put_again 1 6 2 (follows + 4) (le 4 n) s xs front old new r (omega arith) bytes reads (omega (arith, field, sizes_there f s n e)) is writes)

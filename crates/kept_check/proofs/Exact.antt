-- The check of kind 2 accepts exactly the record of the file's index and row count.
use Prim.Native.Nat.{ℕ, ◌*◌, ◌^◌, ◌<◌}
use native.Mathlib.Omega.{arith}
use mathlib.Core.Path.{◌≡◌, refl, ◌∙◌, sym, ap, ap₂}
use mathlib.Core.Logic.{◌↔◌}
use mathlib.Core.List.{List}
use lib.ListN.{length}
use lib.Dec.{eqb}
use borrow.Author.Tests.{eqb-true, eq-eqb}
use Rattle.label.specs.declared.Versions.{Versions}
use Rattle.answer.specs.Outcome.{answer, need, and_then}
use Rattle.answer.proofs.Outcomes.{first_answered, passed, after_answer}
use Rattle.answer.proofs.Tests.{both_hold, hold_together}
use Rattle.sfdu.specs.Row.{Row}
use Rattle.sfdu.specs.Check.{rows_of_file}
use Rattle.sfdu.proofs.Checking.{accepted_says}
use Rattle.sfdu.proofs.Few.{twenty_bytes_a_row}
use Rattle.walk.proofs.WalkReads.{found_ends_inside}
use Rattle.row_index.specs.Index.{index_of, same}
use Rattle.row_index.proofs.Sixteenths.{one_entry_a_group}
use Rattle.row_index.proofs.Entries.{leaf_of_entry}
use Rattle.row_index.proofs.IndexExact.{same_is_equal, equal_is_same}
use Rattle.little.specs.LittleEndian.{Below}
use Rattle.little.proofs.LittleEndian.{each_below}
use Rattle.kept_rows.specs.Kind2.{kept_form2, read_kept2}
use Rattle.kept_rows.proofs.RoundTrip.{kind_2_reads_back, the_only_kept_form_2}
use Rattle.kept_check.specs.Check.{counted_of, bears_out, check_kept2}

-- which versions of the label are allowed
module _ (versions : Versions) (f : List ℕ) where
  -- the rows and the index of an accepted file fit the record's fields
  module _ (rows : List Row) (accepts : rows_of_file versions f ≡ answer rows) where
    pub rows_fit : 20 * length rows < 2 ^ 32
    rows_fit = omega (arith, twenty_bytes_a_row versions f rows accepts, (accepted_says versions f rows accepts).0)

    pub entries_fit : Below (2 ^ 32) (index_of rows)
    entries_fit =
        each_below (2 ^ 32) (index_of rows)
        (λ i h.
        let (x, walks, place) = leaf_of_entry versions f rows accepts i h in
        omega (arith, place, found_ends_inside versions f 0 (16 * i) x walks, (accepted_says versions f rows accepts).0))

    pub kept_form_reads_back : read_kept2 (kept_form2 (counted_of rows)) ≡ answer (counted_of rows)
    kept_form_reads_back =
        kind_2_reads_back (counted_of rows) (omega (arith, rows_fit)) entries_fit (omega (arith, rows_fit, one_entry_a_group rows))

  -- the theorem: accepted exactly when the file is accepted, the list is its index and the count its row count
  pub kept_check_is_exact : (s : List ℕ)
      → (check_kept2 versions f s ≡ answer tt) ↔ ((rows : List Row) × (rows_of_file versions f ≡ answer rows) × (read_kept2 s ≡ answer (counted_of rows)))
  unfolding check_kept2
  kept_check_is_exact s = (
    (λ e.
        let (rows, accepts, then) = first_answered (rows_of_file versions f) (λ rs. and_then (read_kept2 s) (λ k. need (bears_out rs k) 11 (answer tt))) tt e in
        let (k, reads, bears) = first_answered (read_kept2 s) (λ k. need (bears_out rows k) 11 (answer tt)) tt then in
        let (list, count) = both_hold (same k.list (index_of rows)) (eqb k.rows (length rows)) (passed 0 (bears_out rows k) 11 (answer tt) tt bears).0 in
        (rows, accepts, reads ∙ ap₂ (λ (n : ℕ) (xs : List ℕ). answer (record { rows = n; list = xs })) (eqb-true _ _ count) (same_is_equal _ _ list))),
    (λ q.
        let rows = q.0 in
        after_answer (rows_of_file versions f) (λ rs. and_then (read_kept2 s) (λ k. need (bears_out rs k) 11 (answer tt))) rows q.1
        ∙ after_answer (read_kept2 s) (λ k. need (bears_out rows k) 11 (answer tt)) (counted_of rows) q.2
        ∙ ap (λ t. need t 11 (answer tt)) (hold_together (equal_is_same (index_of rows)) (eq-eqb (length rows) (length rows) refl))),
  )

  -- the same in bytes: a file has one record of kind 2, and the check accepts no other
  pub one_record_a_file : (s : List ℕ) → Below 256 s
      → (check_kept2 versions f s ≡ answer tt) ↔ ((rows : List Row) × (rows_of_file versions f ≡ answer rows) × (s ≡ kept_form2 (counted_of rows)))
  one_record_a_file s bytes = (
    (λ e.
        let (rows, accepts, reads) = (kept_check_is_exact s).0 e in
        (rows, accepts, sym (the_only_kept_form_2 s (counted_of rows) bytes reads))),
    (λ q.
        (kept_check_is_exact s).1 (q.0, q.1, ap read_kept2 q.2 ∙ kept_form_reads_back q.0 q.1)),
  )

-- Each way and back gives the same bytes: a file has one record of each kind, and each way leads from the one to the other.
use Prim.Native.Nat.{ℕ, ◌+◌, ◌≤◌}
use native.Mathlib.Omega.{arith}
use mathlib.Core.Path.{◌≡◌, ◌∙◌, sym, ap}
use mathlib.Core.Bool.{Bool}
use mathlib.Core.List.{List}
use lib.ListN.{length}
use Rattle.label.specs.declared.Versions.{Versions}
use Rattle.answer.specs.Outcome.{answer, need, and_then}
use Rattle.answer.proofs.Outcomes.{after_answer}
use Rattle.sfdu.specs.Row.{Row}
use Rattle.sfdu.specs.Check.{rows_of_file}
use Rattle.row_index.specs.Index.{index_of, same}
use Rattle.row_index.proofs.Sixteenths.{one_entry_a_group}
use Rattle.row_index.proofs.IndexExact.{equal_is_same, index_check_is_exact}
use Rattle.little.specs.LittleEndian.{le}
use Rattle.house_record.specs.Record.{in_room}
use Rattle.kept.specs.Kept.{kept_form, read_kept}
use Rattle.house_record.proofs.Writing.{length_kept_as, room_for}
use Rattle.kept.proofs.Writing.{length_kept_form}
use Rattle.kept.proofs.RoundTrip.{written_reads_back, the_only_kept_form}
use Rattle.kept_rows.specs.Kind2.{kept_form2, read_kept2, to_kind1}
use Rattle.kept_check.specs.Check.{counted_of, to_kind2}
use Rattle.kept_check.specs.SameBytes.{SameBytes}
use Rattle.kept_check.proofs.Exact.{rows_fit, entries_fit, kept_form_reads_back, one_record_a_file}

-- which versions of the label are allowed
module _ (versions : Versions) (f : List ℕ) where
  -- the file's two records: from each to the other
  module _ (rows : List Row) (accepts : rows_of_file versions f ≡ answer rows) where
    one : List ℕ
    one = kept_form (index_of rows)

    two : List ℕ
    two = kept_form2 (counted_of rows)

    four_bytes_more : length two ≡ length one + 4
    unfolding one two
    four_bytes_more = omega (arith, length_kept_as 2 (le 4 (length rows)) (index_of rows), length_kept_form (index_of rows))

    one_reads_back : read_kept one ≡ answer (index_of rows)
    unfolding one
    one_reads_back =
        written_reads_back (index_of rows) (entries_fit versions f rows accepts)
        (omega (arith, rows_fit versions f rows accepts, one_entry_a_group rows))

    to_two : (room : ℕ) → length two ≤ room → to_kind2 versions f one room ≡ answer two
    unfolding to_kind2 two
    to_two room fits =
        after_answer (rows_of_file versions f)
        (λ rs. and_then (read_kept one) (λ xs. need (same xs (index_of rs)) 11 (in_room room (kept_form2 (record { rows = length rs; list = xs }))))) rows accepts
        ∙ after_answer (read_kept one)
        (λ xs. need (same xs (index_of rows)) 11 (in_room room (kept_form2 (record { rows = length rows; list = xs })))) (index_of rows) one_reads_back
        ∙ ap (λ (t : Bool). need t 11 (in_room room (kept_form2 (counted_of rows)))) (equal_is_same (index_of rows))
        ∙ room_for room (kept_form2 (counted_of rows)) fits

    to_one : (room : ℕ) → length one ≤ room → to_kind1 two room ≡ answer one
    unfolding to_kind1 two one
    to_one room fits =
        after_answer (read_kept2 (kept_form2 (counted_of rows))) (λ k. in_room room (kept_form k.list)) (counted_of rows) (kept_form_reads_back versions f rows accepts)
        ∙ room_for room (kept_form (index_of rows)) fits

    there : (room again : ℕ) → length one + 4 ≤ room → length one ≤ again → and_then (to_kind2 versions f one room) (λ t. to_kind1 t again) ≡ answer one
    there room again h k =
        after_answer (to_kind2 versions f one room) (λ t. to_kind1 t again) two (to_two room (omega (arith, four_bytes_more, h))) ∙ to_one again k

    back : (room again : ℕ) → length two ≤ room + 4 → length two ≤ again → and_then (to_kind1 two room) (λ s. to_kind2 versions f s again) ≡ answer two
    back room again h k =
        after_answer (to_kind1 two room) (λ s. to_kind2 versions f s again) one (to_one room (omega (arith, four_bytes_more, h))) ∙ to_two again k

  pub same_bytes : SameBytes versions f
  unfolding one two
  same_bytes = record {
    there_and_back = λ s xs room again bytes reads checks h k.
        let (rows, accepts, is) = (index_check_is_exact versions f xs).0 checks in
        let form : kept_form (index_of rows) ≡ s = ap kept_form (sym is) ∙ the_only_kept_form s xs bytes reads in
        rw (sym form) (there rows accepts room again (omega (arith, ap length form, h)) (omega (arith, ap length form, k)));
    back_and_there = λ t room again bytes checks h k.
        let (rows, accepts, is) = (one_record_a_file versions f t bytes).0 checks in
        rw is (back rows accepts room again (omega (arith, ap length is, h)) (omega (arith, ap length is, k)));
  }

-- A list that was kept with its row count reads back with it, and its kept form is the only one: two uses of the laws on the house
-- record.
use Prim.Native.Nat.{ℕ, ◌+◌, ◌*◌, ◌^◌, ◌<◌}
use native.Mathlib.Omega.{arith}
use mathlib.Core.Path.{◌≡◌, refl, ◌∙◌, sym, ap}
use mathlib.Core.List.{List, [], ◌∷◌}
use lib.ListN.{length}
use Rattle.answer.specs.Outcome.{answer, mapped}
use Rattle.answer.specs.Window.{bytes_at}
use Rattle.answer.proofs.Outcomes.{mapped_answer}
use Rattle.little.specs.LittleEndian.{le, le_number, Below}
use Rattle.little.proofs.LittleEndian.{number_of_bytes}
use Rattle.house_record.specs.Record.{kept_as, read_as}
use Rattle.house_record.proofs.Reading.{accepted}
use Rattle.house_record.proofs.RoundTrip.{kept_reads_back, entries_were_read, field_again, read_is_kept}
use Rattle.kept_rows.specs.Kind2.{Counted, kept_form2, with_rows, read_kept2}

-- the row count stands where it is read
rows_again : (rows : ℕ) (xs : List ℕ) → rows < 2 ^ 32 → le_number (bytes_at (kept_as 2 (le 4 rows) xs) 6 4) ≡ rows
unfolding kept_as
rows_again rows xs few = number_of_bytes 4 rows (omega arith)

-- what was kept reads back
pub kind_2_reads_back : (k : Counted) → k.rows < 2 ^ 32 → Below (2 ^ 32) k.list → 6 + 4 * length k.list < 2 ^ 32
    → read_kept2 (kept_form2 k) ≡ answer k
kind_2_reads_back k few entries four =
    ap (mapped (with_rows (kept_form2 k))) (kept_reads_back 2 (le 4 k.rows) k.list (omega arith) entries (omega arith))
    ∙ ap (λ (n : ℕ). answer (record { rows = n; list = k.list })) (rows_again k.rows k.list few)

-- bytes that read as a list with its row count are its kept form, so no other bytes do
pub the_only_kept_form_2 : (s : List ℕ) (k : Counted) → Below 256 s → read_kept2 s ≡ answer k → kept_form2 k ≡ s
the_only_kept_form_2 s k bytes reads =
    let (xs, read, is) = mapped_answer (with_rows s) (read_as 2 10 s) k reads in
    let a = accepted 2 10 s (entries_were_read 2 10 s xs (omega arith) bytes read).0 in
    ap kept_form2 (sym is)
    ∙ ap (λ (between : List ℕ). kept_as 2 between xs) (field_again 2 10 s xs (omega arith) bytes read 6 4 (le_number (bytes_at s 6 4)) a.long refl)
    ∙ read_is_kept 2 10 s xs (omega arith) bytes read

-- a worked case, byte for byte: 0x010203 rows and the entry 20
pub one_entry_kept : kept_form2 (record { rows = 66051; list = 20 ∷ [] }) ≡ 10 ∷ 0 ∷ 0 ∷ 0 ∷ 2 ∷ 0 ∷ 3 ∷ 2 ∷ 1 ∷ 0 ∷ 20 ∷ 0 ∷ 0 ∷ 0 ∷ []
unfolding kept_as
one_entry_kept = refl

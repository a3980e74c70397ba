-- Reading finds demand 2's rows, for every kind: what the reader finds from the first byte is `row_of`, answer or refusal.
use Prim.Native.Nat.{ℕ, zero, suc, ◌+◌, ◌≤◌, ◌<◌}
use native.Mathlib.Nat.{not-suc-le-zero, add-zero, lt_of_not-le}
use native.Mathlib.Decide.{dec_le}
use native.Mathlib.Omega.{arith}
use mathlib.Core.Path.{◌≡◌, refl, ◌∙◌, sym, ap}
use mathlib.Core.List.{List, map}
use lib.ListN.{drop}
use Rattle.answer.specs.Outcome.{Outcome, answer, refuse, and_then, mapped}
use Rattle.answer.specs.Nth.{nth}
use Rattle.answer.proofs.Outcomes.{after_refusal, and_then_assoc, and_then_agrees}
use Rattle.answer.proofs.Nths.{nth_of_map}
use Rattle.label.specs.declared.Versions.{Versions}
use Rattle.sfdu.specs.Row.{whole}
use Rattle.sfdu.specs.Check.{rows_of_file}
use Rattle.sfdu.specs.Find as labelled
use Rattle.fixed_rows.specs.Shape.{Shape, step, row_at}
use Rattle.fixed_rows.specs.Check.{count_rows}
use Rattle.fixed_rows.specs.Read.{passing}
use Rattle.fixed_rows.specs.Read as fixed_read
use Rattle.fixed_rows.specs.Jump.{start_of}
use Rattle.fixed_rows.specs.Rows as fixed
use Rattle.fixed_rows.proofs.Rows.{row_is_there, no_such_row}
use Rattle.waveform.specs.Rows.{waveform}
use Rattle.waveform.proofs.Rows as waveform_rows
use Rattle.bursts.specs.Rows.{bursts}
use Rattle.bursts.proofs.Rows as burst_rows
use Rattle.reader.specs.declared.Kind.{Kind}
use Rattle.reader.specs.declared.Kind.TheVariants.{Labelled, Waveform, Bursts}
use Rattle.reader.specs.Rows.{row_parts, row_of}
use Rattle.reader.specs.Read.{find_row}

-- ---- labelled files

labelled_row : (v : Versions) (f : List ℕ) (k : ℕ) → row_of (Labelled v) f k ≡ labelled.find_row v f k
unfolding row_of row_parts labelled.find_row
labelled_row v f k =
    and_then_assoc (rows_of_file v f) (λ rows. answer (map whole rows)) (λ rows. nth rows k)
    ∙ and_then_agrees (rows_of_file v f) (λ rows. nth (map whole rows) k) (λ rows. mapped whole (nth rows k)) (λ rows. nth_of_map whole rows k)

-- ---- rows of one size

module _ (s : Shape) where
  nth_of_rows : (n j k : ℕ) → k < n → nth (fixed.rows_from s j n) k ≡ answer (row_at s (start_of s.first (step s) (j + k)))
  nth_of_rows zero j k h = absurd (not-suc-le-zero h)
  nth_of_rows (suc n) j zero h = ap (λ (m : ℕ). answer (row_at s (start_of s.first (step s) m))) (sym (add-zero j))
  nth_of_rows (suc n) j (suc k) h =
      nth_of_rows n (suc j) k (omega arith)
      ∙ ap (λ (m : ℕ). answer (row_at s (start_of s.first (step s) m))) {x = suc j + k} {y = j + suc k} (omega arith)

  none_of_rows : (n j k : ℕ) → n ≤ k → nth (fixed.rows_from s j n) k ≡ refuse 6 0
  none_of_rows zero j k h = refl
  none_of_rows (suc n) j zero h = absurd (not-suc-le-zero h)
  none_of_rows (suc n) j (suc k) h = none_of_rows n (suc j) k (omega arith)

  module _ (some : 0 < step s) (f : List ℕ) (k : ℕ) where
    nth_is_found : (n : ℕ) → count_rows s f ≡ answer n → nth (fixed.rows_from s 0 n) k ≡ fixed_read.find_row s f k
    nth_is_found n e =
        elim (dec_le n k) [
          | yes h ↦ none_of_rows n 0 k h ∙ sym (no_such_row s some f n e k h)
          | no h ↦
              nth_of_rows n 0 k (lt_of_not-le h)
              ∙ ap (λ (m : ℕ). answer (row_at s (start_of s.first (step s) m))) {x = 0 + k} {y = k} (omega arith)
              ∙ sym (row_is_there s some f n e k (lt_of_not-le h))
        ]

    by_the_count : (o : Outcome ℕ) → count_rows s f ≡ o → and_then o (λ n. nth (fixed.rows_from s 0 n) k) ≡ fixed_read.find_row s f k
    by_the_count (answer n) e = nth_is_found n e
    by_the_count (refuse n p) e =
        sym (ap (mapped (row_at s)) (after_refusal (count_rows s f) (λ rows. passing (step s) k s.first (drop s.first f)) n p e))

    fixed_row : and_then (fixed.row_parts s f) (λ parts. nth parts k) ≡ fixed_read.find_row s f k
    fixed_row =
        and_then_assoc (count_rows s f) (λ n. answer (fixed.rows_from s 0 n)) (λ parts. nth parts k) ∙ by_the_count (count_rows s f) refl

-- ---- any kind

pub reads_the_rows : (kind : Kind) (f : List ℕ) (k : ℕ) → find_row kind f k ≡ row_of kind f k
unfolding find_row row_of row_parts
reads_the_rows (Labelled v) f k = sym (labelled_row v f k)
reads_the_rows Waveform f k = sym (fixed_row waveform waveform_rows.takes_bytes f k)
reads_the_rows (Bursts first) f k = sym (fixed_row (bursts first) (burst_rows.takes_bytes first) f k)

-- Case 8, of every file of 32 waveform rows: row 31's samples begin at 64,512, whatever way leads there. The window of a row is
-- computed; that row 31 is there is the waveform crate's `row_is_there`.
use Prim.Native.Nat.{ℕ, ◌*◌, ◌≤◌}
use native.Mathlib.Omega.{arith}
use mathlib.Core.Path.{◌≡◌, ◌∙◌, ap}
use mathlib.Core.List.{List}
use lib.ListN.{length}
use borrow.Author.Tests.{le-leb}
use Rattle.answer.specs.Outcome.{Outcome, answer, and_then}
use Rattle.answer.specs.Window.{window_in}
use Rattle.answer.specs.Address.{unlabelled}
use Rattle.answer.specs.declared.Shown.{Shown}
use Rattle.answer.proofs.Outcomes.{mapped_same}
use Rattle.fixed_rows.proofs.Accepted.{whole_is_accepted}
use Rattle.waveform.specs.Rows.{row_size}
use Rattle.waveform.proofs.Rows.{takes_bytes, row_is_there}
use Rattle.reader.specs.Read.{find_row, read_row, jump_row}
use Rattle.reader.specs.declared.Kind.TheVariants.{Waveform}
use Rattle.reader.proofs.Demand3.{jumps_as_read}
use Rattle.cases.specs.Table.{row}

module _ (f : List ℕ) (e : length f ≡ 2080 * 32) where
  -- the window of row 31, read
  reads : (a c : ℕ) → read_row Waveform f 31 a c ≡ window_in a c (unlabelled 64512 2048)
  unfolding read_row find_row
  reads a c =
      ap (λ (o : Outcome Shown). and_then o (window_in a c))
      (row_is_there f 32 (whole_is_accepted 0 row_size takes_bytes f 32 (record { within = omega (arith, e); rows = e })) 31 (omega arith))

  -- and jumped to
  jumps : (xs : List ℕ) (a c : ℕ) → jump_row Waveform f xs 31 a c ≡ window_in a c (unlabelled 64512 2048)
  jumps xs a c = jumps_as_read Waveform f xs tt 31 a c ∙ mapped_same (read_row Waveform f 31 a c) ∙ reads a c

  module _ (c : ℕ) where
    at_0 : c ≤ 2048 → window_in 0 c (unlabelled 64512 2048) ≡ answer (row 64512 c 64512 0 64512)
    at_0 h = simp (le-leb c 2048 h)

    at_1024 : c ≤ 1024 → window_in 1024 c (unlabelled 64512 2048) ≡ answer (row 65536 c 64512 0 64512)
    at_1024 h = simp (le-leb c 1024 h)

    pub row_31 : c ≤ 2048 → read_row Waveform f 31 0 c ≡ answer (row 64512 c 64512 0 64512)
    row_31 h = reads 0 c ∙ at_0 h

    pub row_31_at_1024 : c ≤ 1024 → read_row Waveform f 31 1024 c ≡ answer (row 65536 c 64512 0 64512)
    row_31_at_1024 h = reads 1024 c ∙ at_1024 h

    pub jump_to_row_31 : (xs : List ℕ) → c ≤ 2048 → jump_row Waveform f xs 31 0 c ≡ answer (row 64512 c 64512 0 64512)
    jump_to_row_31 xs h = jumps xs 0 c ∙ at_0 h

    pub jump_to_row_31_at_1024 : (xs : List ℕ) → c ≤ 1024 → jump_row Waveform f xs 31 1024 c ≡ answer (row 65536 c 64512 0 64512)
    jump_to_row_31_at_1024 xs h = jumps xs 1024 c ∙ at_1024 h

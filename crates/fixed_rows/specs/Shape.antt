-- Rows of one size, one behind the other with nothing between them, from a first place to the end of a file (document 01, "Waveform
-- files": 2,080 bytes, of which 32 are a prefix; document 02, item 1: records of 1,272 bytes "from the first place"). What holds of
-- such rows is said here once, over these numbers.
use Rattle.std.specs.Prelude.{ℕ, ◌+◌}
use Rattle.answer.specs.Address.{unlabelled}
use Rattle.answer.specs.declared.Shown.{Shown}

-- where the bytes of the first row begin; and of the bytes of each row how many are passed over in front, and how many are shown
pub record Shape : Type 0 where
  pub first : ℕ
  pub skip : ℕ
  pub size : ℕ

-- from the start of one row's bytes to the start of the next
abbrev pub step : Shape → ℕ
step s = s.skip + s.size

-- the row whose bytes start at this place, with its address (document 02, item 8: "depth 0 and the place of the row's first byte as
-- both")
abbrev pub row_at : Shape → ℕ → Shown
row_at s start = unlabelled (start + s.skip) s.size

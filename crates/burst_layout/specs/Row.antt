-- How the fields fill a row (source document 000, section 8.1: "An SBDR record is 1272 bytes long"; document 02, item 1: "a
-- whole record of 1,272 bytes").
use Rattle.std.specs.Prelude.{ℕ, ◌+◌, ◌≤◌, ◌<◌, ◌≡◌, List, [], ◌∷◌}
use Rattle.answer.specs.Outcome.{Outcome, answer}
use Rattle.bursts.specs.Rows.{record_size}
use Rattle.burst_layout.specs.declared.Storage.{Storage}
use Rattle.burst_layout.specs.declared.Storage.TheVariants.{Unsigned, Signed, Float4, Float8, Text}
use Rattle.burst_layout.specs.declared.Field.{Field}

-- a number of bytes fits a type: 4 or 8 for a number, by its type's name; text may have any but 0
abbrev pub SizeFits : Storage → ℕ → Type 0
SizeFits Unsigned n = n ≡ 4
SizeFits Signed n = n ≡ 4
SizeFits Float4 n = n ≡ 4
SizeFits Float8 n = n ≡ 8
SizeFits Text n = 0 < n

-- fields end to end, up to the row's end: their positions count up from n to 255, the first begins at `at` and each next
-- one where the one before ends, and each size fits its type
abbrev pub EndToEnd : (n at : ℕ) → List Field → Type 0
EndToEnd n at [] = (n ≡ 256) × (at ≡ record_size)
EndToEnd n at (f ∷ fs) = (f.position ≡ n) × (f.place ≡ at) × SizeFits f.stored f.size × EndToEnd (n + 1) (at + f.size) fs

-- byte `at` of a row lies in a field
pub record Within (f : Field) (at : ℕ) : Type 0 where
  pub from : f.place ≤ at
  pub to : at < f.place + f.size

-- of the fields that a definition answers by their numbers, exactly one has byte `at`
pub record OneField (fields : ℕ → Outcome Field) (at : ℕ) : Type 0 where
  pub number : ℕ
  pub it : Field
  pub is_answered : fields number ≡ answer it
  pub has_the_byte : Within it at
  pub alone : (n : ℕ) (f : Field) → fields n ≡ answer f → Within f at → n ≡ number

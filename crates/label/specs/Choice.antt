-- What the choice of versions changes (document 02, item 11: "if not, it is refusal 2 and every old answer stands"; "Item 2's
-- spaces and refusal 3 hold for version 1 only; in version 2 the reader answers 0 spaces"). All that is above reads labels by
-- `read_label` alone, so that these equations hold for it too.
use Rattle.std.specs.Prelude.{ℕ, ◌≡◌, ◌&&◌, List, length, get_or, take, drop, leb, eqb}
use Rattle.answer.specs.Outcome.{Outcome, answer, need}
use Rattle.label.specs.declared.Version.TheVariants.{One, Two}
use Rattle.label.specs.declared.Versions.TheVariants as choice
use Rattle.label.specs.declared.Label.{Label}
use Rattle.label.specs.Head.{label_size, head_size, is_capital, is_agency, is_description, head_good, four_at}
use Rattle.label.specs.Length.{spaces_in, number_in, after, binary}
use Rattle.label.specs.Label.{labelled, with_length, read_label}

-- the reader as it was while there was one version, of twenty bytes: the agency, `1` (49), the class, `00`, the description;
-- then spaces and digits
abbrev pub only_version1 : List ℕ → Outcome Label
only_version1 b =
    need (is_agency (four_at b 0) && ((eqb (get_or b 4 0) 49 && is_capital (get_or b 5 0) && (eqb (get_or b 6 0) 48 && eqb (get_or b 7 0) 48)) && is_description (four_at b 8))) 2
    (with_length One b (after (spaces_in (drop head_size b)) (number_in (drop (spaces_in (drop head_size b)) (drop head_size b)))))

-- a version 2 label of twenty bytes: 2, and no other refusal; 0 spaces
abbrev pub only_version2 : List ℕ → Outcome Label
only_version2 b = need (head_good Two b) 2 (answer (labelled Two b (binary 0 (drop head_size b)) 0))

-- bytes of which a label's twenty are read so; 1 where they are fewer
abbrev pub read_by : (List ℕ → Outcome Label) → List ℕ → Outcome Label
read_by of s = need (leb label_size (length s)) 1 (of (take label_size s))

pub record Choice (s : List ℕ) : Type 0 where
  -- told version 1 only, every answer and every refusal is the old one: byte 4 equal to `2` is 2, as every byte but `1` is
  pub old_answers : read_label choice.One s ≡ read_by only_version1 s
  -- told both, bytes with byte 4 equal to `2` are read as version 2, and all others as before
  pub version_2 : get_or s 4 0 ≡ 50 → read_label choice.OneAndTwo s ≡ read_by only_version2 s
  pub others : (get_or s 4 0 ≡ 50 → ⊥) → read_label choice.OneAndTwo s ≡ read_by only_version1 s

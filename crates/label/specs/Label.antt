-- The label reader (document 01, "The label"; the table of refusals, 1, 2 and 3: "gives 1, 2, 3 in that order and no other
-- refusal, at place 0"; document 02, item 2: "also says how many spaces it found", and item 11: it is told which versions are
-- allowed, and says which one it found).
use Rattle.std.specs.Prelude.{ℕ, List, length, get_or, take, drop, leb, Option, None, Some}
use Rattle.answer.specs.Outcome.{Outcome, answer, refuse, need}
use Rattle.label.specs.Version.{version_for}
use Rattle.label.specs.Head.{label_size, head_size, head_good, four_at}
use Rattle.label.specs.Length.{length_of}
use Rattle.label.specs.declared.Length.{Length}
use Rattle.label.specs.declared.Version.{Version}
use Rattle.label.specs.declared.Versions.{Versions}
use Rattle.label.specs.declared.Label.{Label}

-- the label of this version with these first bytes, this length and so many spaces
abbrev pub labelled : Version → List ℕ → ℕ → ℕ → Label
labelled version b n spaces =
    record { agency = four_at b 0; version = version; class = get_or b 5 0; description = four_at b 8; length = n; spaces = spaces }

abbrev pub with_length : Version → List ℕ → Option Length → Outcome Label
with_length version b (Some l) = answer (labelled version b l.bytes l.spaces)
with_length version b None = refuse 3 0

-- twenty bytes as a label of this version: 2, then 3
abbrev pub label_as : Version → List ℕ → Outcome Label
label_as version b = need (head_good version b) 2 (with_length version b (length_of version (drop head_size b)))

-- the label that twenty bytes are, by the version that they have
abbrev pub label_of : Versions → List ℕ → Outcome Label
label_of versions b = label_as (version_for versions (get_or b 4 0)) b

-- the label at the front of these bytes: 1, 2, 3
unfoldable pub read_label : Versions → List ℕ → Outcome Label
read_label versions s = need (leb label_size (length s)) 1 (label_of versions (take label_size s))

-- The label writer (document 01: "The label writer is lent bytes 0-11 (a count other than twelve is 2) and told the length:
-- 2, 15, 8; it fills the first 20 bytes of its buffer only"; document 02, item 11: "The writer is told the version, and its byte 4
-- must agree, else 2"; "15 stays for version 1 only").
use Rattle.std.specs.Prelude.{ℕ, Bool, true, List, ◌++◌, leb}
use Rattle.answer.specs.Outcome.{Outcome, answer, need}
use Rattle.text.specs.Digits.{digits_in, digits_of}
use Rattle.label.specs.declared.Version.{Version}
use Rattle.label.specs.declared.Version.TheVariants.{One, Two}
use Rattle.label.specs.Head.{label_size, is_head}

-- the largest length that eight digits write (refusal 15: "a label to be written for more than 99,999,999 bytes")
abbrev pub longest : ℕ
longest = 99999999

-- a label of this version can hold this length: eight bytes hold every 64-bit number
abbrev pub holds : Version → ℕ → Bool
holds One n = leb n longest
holds Two n = true

-- the last w bytes of n, most significant first
abbrev pub bytes_of : ℕ → ℕ → List ℕ
bytes_of w n = digits_in 256 0 w n

-- the length field as the writer writes it: eight digits, or a binary number
abbrev pub field_of : Version → ℕ → List ℕ
field_of One n = digits_of 8 n
field_of Two n = bytes_of 8 n

-- what the writer writes into `room` bytes: bytes 0-11 as lent, which must be those of a label of this version, then the length
unfoldable pub write_label : Version → List ℕ → ℕ → ℕ → Outcome (List ℕ)
write_label version head n room =
    need (is_head version head) 2
    (need (holds version n) 15 (need (leb label_size room) 8 (answer (head ++ field_of version n))))

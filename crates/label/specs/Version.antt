-- The versions of the label and the choice of them (document 02, item 11: "CCSDS version 2 has byte 4 equal to `2`"; "Every call
-- that reads labels is told whether version 2 is allowed"). Byte 4 is a character: `1` is 49, `2` is 50.
use Rattle.std.specs.Prelude.{ℕ, Bool, true, false, ◌&&◌, cond, eqb}
use Rattle.answer.specs.Outcome.{Outcome, answer, refuse}
use Rattle.label.specs.declared.Version.{Version}
use Rattle.label.specs.declared.Version.TheVariants.{One, Two}
use Rattle.label.specs.declared.Versions.{Versions}
use Rattle.label.specs.declared.Versions.TheVariants as choice

-- the document's number of a version
abbrev pub version_number : Version → ℕ
version_number One = 1
version_number Two = 2

-- the version with this number; with any other number no byte 4 agrees, which is 2 (document 02, item 11: "The writer is told the
-- version, and its byte 4 must agree, else 2")
abbrev pub numbered_version : ℕ → Outcome Version
numbered_version n = cond (eqb n 1) (answer One) (cond (eqb n 2) (answer Two) (refuse 2 0))

-- byte 4 of a label of this version
abbrev pub version_byte : Version → ℕ
version_byte One = 49
version_byte Two = 50

-- the choice allows this version
abbrev pub allows : Versions → Version → Bool
allows choice.One One = true
allows choice.One Two = false
allows choice.OneAndTwo One = true
allows choice.OneAndTwo Two = true

abbrev pub two_if : Bool → Version
two_if true = Two
two_if false = One

-- the version as which a label with this byte 4 is read: 2 where the byte says so and the choice allows it. Else 1, whose rule
-- refuses every other byte
abbrev pub version_for : Versions → ℕ → Version
version_for versions byte = two_if (eqb byte 50 && allows versions Two)

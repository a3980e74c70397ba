-- Numbers of the boundary that stand for a choice or a version of the label (document 02, item 11: "Every call that reads labels is
-- told whether version 2 is allowed"; "The writer is told the version, and its byte 4 must agree, else 2").
use Rattle.std.specs.Prelude.{ℕ, Bool, true, false, List}
use Rattle.answer.specs.Outcome.{Outcome, and_then}
use Rattle.label.specs.Version.{numbered_version}
use Rattle.label.specs.declared.Versions.{Versions}
use Rattle.label.specs.declared.Versions.TheVariants as choice
use Rattle.label_writer.specs.Write.{write_label}

-- the choice, from whether version 2 is allowed
abbrev pub choice_of : Bool → Versions
choice_of true = choice.OneAndTwo
choice_of false = choice.One

-- the label writer, told the version by its number
unfoldable pub write_numbered : ℕ → List ℕ → ℕ → ℕ → Outcome (List ℕ)
write_numbered number head n room = and_then (numbered_version number) (λ version. write_label version head n room)

-- `text::decimal` meets its contract. The loop's invariant is `Spelling`, and zeros in front of the digits; the measure is what is
-- left of the number.
use mathlib.Core.Path.{◌≡◌}
use lib.ListN.{take, replicate}
use Rattle.text.proofs.Spelling.{Spelling}
use Rattle.text.proofs.decimal.Given as goal

abbrev pub invariant-loop-rest : goal.invariant-loop-rest
invariant-loop-rest l = Spelling l.n l.digits l.first l.rest × (take l.first l.digits ≡ replicate l.first 48)

abbrev pub decreases-loop-rest : goal.decreases-loop-rest
decreases-loop-rest l = l.rest

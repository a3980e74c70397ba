-- `label::spaces_in` meets its contract: the place of the first byte that is no space, or of the end, is how many stand before it.
use Prim.Native.Nat.{ℕ}
use mathlib.Core.Path.{◌∙◌, ap}
use lib.ListN.{length}
use Rattle.std.specs.Prelude.{Option, unwrap_or}
use Rattle.label.proofs.Spaces.{spaces_to_first_other}
use Rattle.label.proofs.spaces_in.Goals as goal

pub returns-clause-value : goal.returns-clause-value
returns-clause-value c =
    let xs = c.args.field.now in
    c.unwrap_or.ensures ∙ ap (λ (o : Option ℕ). unwrap_or o (length xs)) c.first_other.ensures ∙ spaces_to_first_other xs

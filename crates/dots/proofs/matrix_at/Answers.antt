-- `dots::matrix_at` meets its contract: the code's numbers are those that the rule grows.
use Rattle.std.proofs.Common.{◌∙◌}
use Rattle.dots.proofs.Levels.{level_is, level_small}
use Rattle.dots.proofs.matrix_at.Goals as goal

pub returns : goal.returns
returns c =
    let is = c.from.ensures ∙ level_is c.args.y c.args.x in
    (is, rw is (level_small c.args.y c.args.x))

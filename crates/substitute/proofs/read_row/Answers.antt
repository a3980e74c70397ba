-- `substitute::read_row` meets its contract: by whether the substitute has the row.
use mathlib.Core.Path.{◌∙◌, sym}
use Rattle.reader.specs.declared.Kind.TheVariants.{Labelled}
use Rattle.substitute.proofs.Rows.{found_is_row}
use Rattle.substitute.proofs.Serving.{substitute_has_it, substitute_refused}
use Rattle.substitute.proofs.read_row.Goals as goal

pub returns-in-Ok : goal.returns-in-Ok
returns-in-Ok c = sym (substitute_has_it _ _ _ _ _ (found_is_row (Labelled _) _ _ c.in-Ok.ensures))

pub returns-in-Err : goal.returns-in-Err
returns-in-Err c =
    c.read_original.ensures
    ∙ sym (substitute_refused _ _ _ _ _ _ (found_is_row (Labelled _) _ _ c.in-Err.ensures))

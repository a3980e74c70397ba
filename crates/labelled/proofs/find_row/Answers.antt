-- `labelled::find_row` meets its contract: the row that the search of the file has marked, or what it has met.
use mathlib.Core.Path.{◌∙◌, ap}
use Rattle.std.proofs.lemmas.Result.{err_from_is_err_and}
use Rattle.answer.specs.Outcome.{answer}
use Rattle.sfdu.specs.Check.{rows_of_file}
use Rattle.sfdu.specs.Find.{find_row}
use Rattle.labelled.proofs.Seen.{finds_the_row, finds_no_row, meets_the_fault}
use Rattle.labelled.proofs.find_row.Goals as goal

pub returns-in_err-seen : goal.returns-in_err-seen
unfolding find_row
returns-in_err-seen c =
    let p = err_from_is_err_and c.from_residual.result c.from_residual.ensures.1 in
    rw (p.1, p.2) (meets_the_fault _ (rows_of_file c.args.versions c.args.file.now) _ _ _ c.in_err-seen.ensures.sees)

pub returns-in-Some : goal.returns-in-Some
unfolding find_row
returns-in-Some c =
    ap answer c.marked_row.ensures
    ∙ finds_the_row _ (rows_of_file c.args.versions c.args.file.now) _ c.in_ok-seen.ensures.sees c.in-Some.mark c.in-Some.is

pub returns-in-None : goal.returns-in-None
unfolding find_row
returns-in-None c = finds_no_row _ (rows_of_file c.args.versions c.args.file.now) _ c.in_ok-seen.ensures.sees c.in-None.is

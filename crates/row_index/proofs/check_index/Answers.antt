-- `row_index::check_index` meets its contract: it answers where the rows are told behind the same check.
use mathlib.Core.Path.{sym}
use Rattle.std.proofs.lemmas.Result.{err_from_is_err_and}
use Rattle.row_index.proofs.Building.{counted_is_checked, refused_is_checked}
use Rattle.row_index.proofs.check_index.Goals as goal

pub returns-in_err-rows_indexed : goal.returns-in_err-rows_indexed
returns-in_err-rows_indexed c =
    let p = err_from_is_err_and c.from_residual.result c.from_residual.ensures.1 in
    rw (p.1, p.2) (sym (refused_is_checked c.args.versions c.args.file.now c.args.list.now _ _ (sym c.in_err-rows_indexed.ensures)))

pub returns : goal.returns
returns c = sym (counted_is_checked c.args.versions c.args.file.now c.args.list.now _ (sym c.in_ok-rows_indexed.ensures)).0

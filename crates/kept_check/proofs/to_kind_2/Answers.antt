-- `kept_check::to_kind_2` meets its contract: the entries of a record of kind 1 that is borne out stand behind the front of kind 2.
use Rattle.std.proofs.Common.{rules, arith}
use Rattle.kept_check.proofs.Borne.{sizes_there, put_there}
use Rattle.kept_check.proofs.to_kind_2.Goals as goal

pub overflow_add-follows : goal.overflow_add-follows
overflow_add-follows c =
    omega (arith, c.number_at-follows.ensures, sizes_there c.args.versions c.args.file.now c.args.kept.now _ c.in_ok-rows.ensures)

pub overflow_cast-rows : goal.overflow_cast-rows
overflow_cast-rows c = omega (arith, sizes_there c.args.versions c.args.file.now c.args.kept.now _ c.in_ok-rows.ensures)

pub slice_bounds-put-count : goal.slice_bounds-put-count
slice_bounds-put-count c = omega (arith, sizes_there c.args.versions c.args.file.now c.args.kept.now _ c.in_ok-rows.ensures)

pub slice_bounds-put-start : goal.slice_bounds-put-start
slice_bounds-put-start c = omega (arith, sizes_there c.args.versions c.args.file.now c.args.kept.now _ c.in_ok-rows.ensures)

pub returns : goal.returns
returns c =
    let a = c.args in
    put_there a.versions _ c.number_at-follows.result _ a.file.now a.kept.now a.out.now _ _ c.in_ok-rows.ensures
    (λ i. omega (arith, c.type_inv.kept i)) c.number_at-follows.ensures (search rules) c.put.ensures

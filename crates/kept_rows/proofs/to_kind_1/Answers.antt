-- `kept_rows::to_kind_1` meets its contract: the entries of a record of kind 2 stand behind the front of kind 1.
use Rattle.std.proofs.Common.{rules, arith, sym, ◌∙◌}
use Rattle.kept_rows.proofs.Kind2.{put_back}
use Rattle.kept_rows.proofs.to_kind_1.Goals as goal

pub returns : goal.returns
returns c =
    put_back c.number_at-follows.result c.front-front.result c.args.kept.now c.args.out.now _ _ (sym c.is_record.ensures ∙ c.if-not-is_record.false)
    (λ i. omega (arith, c.type_inv.kept i)) c.number_at-follows.ensures (search rules) c.put.ensures

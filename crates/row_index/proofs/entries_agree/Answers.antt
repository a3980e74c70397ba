-- `row_index::entries_agree` meets its contract: the entry that the walk came to is `entry`.
use native.Mathlib.Omega.{arith}
use mathlib.Core.Path.{◌≡◌, ◌∙◌, sym, ap, subst}
use mathlib.Core.Bool.{not}
use lib.ListN.{get_or}
use lib.Dec.{eqb}
use borrow.Author.Tests.{clash, eq-eqb, eqb-true, not-false}
use Rattle.std.specs.Prelude.{ℕ, Option, Some}
use Rattle.std.specs.Option.{option_eq}
use Rattle.row_index.proofs.Entries.{Entry, entry_found}
use Rattle.row_index.proofs.Building.{nothing_compared, compared, entry_agrees, entry_differs, all_compared}
use Rattle.row_index.proofs.entries_agree.Goals as goal
use Rattle.row_index.proofs.entries_agree.Given.{Over}
use Rattle.row_index.proofs.entries_agree.Goals.{After-entry_from-place, After-ne}

entry : (g : Over) (c : After-entry_from-place g) → Entry c.args.versions c.args.file.now c.loop-i.i c.entry_from-place.result
entry g c =
    let v = c.args.versions in
    let f = c.args.file.now in
    let w = c.loop-i in
    subst (Entry v f w.i) (sym c.entry_from-place.ensures.0)
    (entry_found v f w.i w.from w.leaves w.invariant.at (omega (arith, c.requires, c.count-i-end.ensures, c.loop-i-test.true)))

-- the test of the code is of entry i and the place
entry_met : (g : Over) (c : After-ne g) → not (option_eq eqb c.entry.result (Some c.entry_from-place.result)) ≡ not (eqb (get_or (g.E.IndexList.entries c.args.list) c.loop-i.i 0) c.entry_from-place.result)
entry_met g c =
    ap (λ (o : Option ℕ). not (option_eq eqb o (Some c.entry_from-place.result))) c.entry.ensures
    ∙ ap not (compared (g.E.IndexList.entries c.args.list) c.loop-i.i c.entry_from-place.result (omega (arith, c.count-i-end.ensures, c.loop-i-test.true)))

pub loop-i-init : goal.loop-i-init
loop-i-init g c = nothing_compared c.args.versions c.args.file.now (g.E.IndexList.entries c.args.list)

pub returns-then-ne : goal.returns-then-ne
returns-then-ne g c =
    let w = c.loop-i in
    sym (entry_differs c.args.versions c.args.file.now (g.E.IndexList.entries c.args.list) w.i w.from w.leaves _ w.invariant c.requires
    (omega (arith, c.count-i-end.ensures, c.loop-i-test.true)) (entry g (goal.at.returns-then-ne g c).After-entry_from-place)
    (λ e. clash (sym (sym c.if-ne.true ∙ c.ne.ensures ∙ entry_met g (goal.at.returns-then-ne g c).After-ne ∙ ap not (eq-eqb _ _ e)))))

pub loop-i-preserved : goal.loop-i-preserved
loop-i-preserved g c =
    let w = c.loop-i in
    entry_agrees c.args.versions c.args.file.now (g.E.IndexList.entries c.args.list) w.i w.from w.leaves _ w.invariant c.requires
    (omega (arith, c.count-i-end.ensures, c.loop-i-test.true)) (entry g (goal.at.loop-i-preserved g c).After-entry_from-place)
    (eqb-true _ _ (not-false _ (sym (sym c.if-ne.false ∙ c.ne.ensures ∙ entry_met g (goal.at.loop-i-preserved g c).After-ne))))

pub returns : goal.returns
returns g c =
    let w = c.loop-i in
    sym (all_compared c.args.versions c.args.file.now (g.E.IndexList.entries c.args.list) w.i w.from w.leaves w.invariant c.requires
    (omega (arith, c.count-i-end.ensures, c.loop-i-test.false)))

-- `sfdu::search_part` meets its contract: each arm is one law of `Nested`, and what an arm knows of its object is `leaf` or `group`.
use Prim.Native.Nat.{ℕ, ◌+◌, ◌-◌}
use native.Mathlib.Omega.{arith}
use mathlib.Core.Path.{◌∙◌, ap, sym, subst}
use mathlib.Core.Bool.{true, false}
use Rattle.std.specs.Prelude.{Ok}
use Rattle.std.proofs.lemmas.Result.{err_from_is_err_and}
use Rattle.sfdu.specs.Private.{ObjectAt, Stands}
use Rattle.sfdu.specs.Row.{Row}
use Rattle.sfdu.specs.declared.Seen.{Seen}
use Rattle.sfdu.proofs.Seeing.{row_is_seen, row_is_passed}
use Rattle.sfdu.proofs.Nested.{Sofar, starts, no_bytes, deepest, ends, faulty, leaf_more, group_passed, group_faulty}
use Rattle.sfdu.proofs.+search_part.Goals as goal
use Rattle.sfdu.proofs.+search_part.Goals.{In-Ok-Group, In-Ok-Leaf, else-seen-k, then-seen-k}

leaf : (t : ℕ) (c : In-Ok-Leaf t)
    → ObjectAt c.args.versions c.args.part.now c.loop-at.at false c.in-Ok-Leaf.next
leaf t c = subst (Stands c.args.versions c.args.part.now c.loop-at.at) (ap Ok c.in-Ok-Leaf.field-0-is) (c.in-Ok-Leaf.ensures)

group : (t : ℕ) (c : In-Ok-Group t)
    → ObjectAt c.args.versions c.args.part.now c.loop-at.at true c.in-Ok-Group.end
group t c = subst (Stands c.args.versions c.args.part.now c.loop-at.at) (ap Ok c.in-Ok-Group.field-0-is) (c.in-Ok-Group.ensures)

pub returns-then-part-eq0 : goal.returns-then-part-eq0
returns-then-part-eq0 t c = no_bytes c.args.versions c.args.part.now _ _ _ _ _ c.if-part-eq0.true c.requires.2 c.requires.3

pub returns-then-left-eq0 : goal.returns-then-left-eq0
returns-then-left-eq0 t c = deepest c.args.versions c.args.part.now _ _ _ _ _ c.if-left-eq0.true c.if-part-eq0.false

pub loop-at-init : goal.loop-at-init
loop-at-init t c = starts c.args.versions c.args.part.now _ _ _ _ _ (omega (arith, c.if-left-eq0.false)) c.requires.2 c.requires.3

pub returns-in-Err : goal.returns-in-Err
returns-in-Err t c =
    let P = c.args.part.now in
    let w = c.loop-at in
    let (place, e) = subst (Stands c.args.versions P w.at) c.in-Err.is c.object_at.ensures in
    faulty c.args.versions P _ _ _ _ _ w.at _ w.invariant c.loop-at-test.true _ place e

pub loop-at-preserved-in-Ok-Leaf : goal.loop-at-preserved-in-Ok-Leaf
loop-at-preserved-in-Ok-Leaf t c =
    let w = c.loop-at in
    let a = c.args in
    let row : Row = record { label = a.base + w.at; size = c.in-Ok-Leaf.next - w.at - 20; depth = 9 - a.left; outermost = c.unwrap_or-top.result } in
    let more = leaf_more a.versions a.part.now _ _ _ a.k _ w.at w.seen w.invariant c.loop-at-test.true _
    (leaf t (goal.at.loop-at-preserved-in-Ok-Leaf t c).In-Ok-Leaf) row
    (ap (λ (top : ℕ). record { label = a.base + w.at; size = c.in-Ok-Leaf.next - w.at - 20; depth = 9 - a.left; outermost = top }) c.unwrap_or-top.ensures) in
    let one_more : Seen → Seen = λ s. record { rows = s.rows + 1; mark = s.mark } in
    elim c.if-seen-k.branch [
      | then-seen-k b ↦ subst (Sofar a.versions a.part.now _ _ _ _ _ c.in-Ok-Leaf.next) (sym (row_is_seen a.k w.seen row b.if-seen-k.true) ∙ ap one_more (sym b.seen-is)) more
      | else-seen-k b ↦ subst (Sofar a.versions a.part.now _ _ _ _ _ c.in-Ok-Leaf.next) (sym (row_is_passed a.k w.seen row b.if-seen-k.false) ∙ ap one_more (sym b.seen-is)) more
    ]

pub returns-in_err-seen-in-Ok-Group : goal.returns-in_err-seen-in-Ok-Group
returns-in_err-seen-in-Ok-Group t c =
    let w = c.loop-at in
    let p = err_from_is_err_and c.from_residual.result c.from_residual.ensures.1 in
    rw (p.1, p.2) (group_faulty c.args.versions c.args.part.now _ _ _ _ _ w.at _ w.invariant c.loop-at-test.true _ _
    (group t (goal.at.returns-in_err-seen-in-Ok-Group t c).In-Ok-Group) c.unwrap_or-top.ensures
    (omega (arith, c.if-left-eq0.false)) c.requires.1 _ _ (c.in_err-seen-in-Ok-Group.ensures))

pub loop-at-preserved : goal.loop-at-preserved
loop-at-preserved t c =
    let w = c.loop-at in
    group_passed c.args.versions c.args.part.now _ _ _ _ _ w.at _ w.invariant c.loop-at-test.true _ _
    (group t (goal.at.loop-at-preserved t c).In-Ok-Group) c.unwrap_or-top.ensures
    (omega (arith, c.if-left-eq0.false)) c.requires.1 _ (c.in_ok-seen-in-Ok-Group.ensures)

pub returns : goal.returns
returns t c =
    let w = c.loop-at in
    ends c.args.versions c.args.part.now _ _ _ _ _ w.at _ w.invariant c.loop-at-test.false

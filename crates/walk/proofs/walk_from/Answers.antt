-- `walk::walk_from` meets its contract. The measure is what is left of the file; the invariant is `OnTheWay`, each arm is one
-- law of `WalkLoop`, and what an arm knows of its step is `opened` or `leaf`.
use Prim.Native.Nat.{◌+◌, ◌≤◌}
use native.Mathlib.Omega.{arith}
use mathlib.Core.Path.{◌≡◌, ◌∙◌, sym, ap}
use Rattle.std.specs.Prelude.{Some}
use lib.ListN.{length, drop}
use Rattle.answer.specs.Outcome.{answer}
use Rattle.walk.specs.Walk.{step_at}
use Rattle.walk.proofs.WalkLoop.{too_big_to_walk, place_beyond, step_seen, OnTheWay, sets_out, comes_to_the_end, meets_a_fault, steps_in, leaf_inside, arrives, steps_over}
use Rattle.walk.proofs.walk_from.Goals as goal
use Rattle.walk.proofs.walk_from.Goals.{In-Ok-None, In-Ok-Some}

opened : (c : In-Ok-None)
    → OnTheWay c.args.versions c.args.file.now c.args.from c.args.leaves (c.loop-at.at + 20) c.loop-at.left
opened c =
    let a = c.args in
    let f = a.file.now in
    let w = c.loop-at in
    steps_in a.versions f _ _ w.at w.left w.invariant c.loop-at-test.true
    (step_seen a.versions f w.at (ap (λ o. answer o) (sym c.in-Ok-None.field-0-is) ∙ c.in-Ok-None.ensures))

leaf : (c : In-Ok-Some) → step_at c.args.versions (drop c.loop-at.at c.args.file.now) ≡ answer (Some c.in-Ok-Some.found)
leaf c =
    step_seen c.args.versions c.args.file.now c.loop-at.at
    (ap (λ o. answer o) (sym c.in-Ok-Some.field-0-is) ∙ c.in-Ok-Some.ensures)

inside : (c : In-Ok-Some) → c.loop-at.at + 20 + c.in-Ok-Some.found.length ≤ length c.args.file.now
inside c =
    let w = c.loop-at in
    leaf_inside c.args.versions c.args.file.now _ _ w.at w.left w.invariant c.loop-at-test.true _ (leaf c)

pub returns-then-file-gt-LARGEST_FILE : goal.returns-then-file-gt-LARGEST_FILE
returns-then-file-gt-LARGEST_FILE c = sym (too_big_to_walk c.args.versions c.args.file.now _ _ c.if-file-gt-LARGEST_FILE.true)

pub returns-then-file-from : goal.returns-then-file-from
returns-then-file-from c = sym (place_beyond c.args.versions c.args.file.now _ _ c.if-file-gt-LARGEST_FILE.false c.if-file-from.true)

pub loop-at-init : goal.loop-at-init
loop-at-init c = sets_out c.args.versions c.args.file.now _ _ c.if-file-gt-LARGEST_FILE.false c.if-file-from.false

pub returns-in-Err : goal.returns-in-Err
returns-in-Err c =
    let a = c.args in
    let f = a.file.now in
    let w = c.loop-at in
    sym (meets_a_fault a.versions f _ _ w.at w.left w.invariant c.loop-at-test.true _ _
    (step_seen a.versions f w.at c.in-Err.ensures))

pub loop-at-preserved-in-Ok-None : goal.loop-at-preserved-in-Ok-None
loop-at-preserved-in-Ok-None c = opened c

pub returns-then-left-eq0 : goal.returns-then-left-eq0
returns-then-left-eq0 c =
    let w = c.loop-at in
    sym (arrives c.args.versions c.args.file.now _ _ w.at w.left w.invariant c.loop-at-test.true _ (leaf (goal.at.returns-then-left-eq0 c).In-Ok-Some) c.if-left-eq0.true)

pub overflow_add-at-in-Ok-Some : goal.overflow_add-at-in-Ok-Some
overflow_add-at-in-Ok-Some c = omega (arith, inside (goal.at.overflow_add-at-in-Ok-Some c).In-Ok-Some)

pub overflow_add-at-in-Ok-Some-2 : goal.overflow_add-at-in-Ok-Some-2
overflow_add-at-in-Ok-Some-2 c = omega (arith, inside (goal.at.overflow_add-at-in-Ok-Some-2 c).In-Ok-Some)

pub loop-at-preserved : goal.loop-at-preserved
loop-at-preserved c =
    let w = c.loop-at in
    steps_over c.args.versions c.args.file.now _ _ w.at w.left w.invariant c.loop-at-test.true _ (leaf (goal.at.loop-at-preserved c).In-Ok-Some) c.if-left-eq0.false

pub returns : goal.returns
returns c =
    let w = c.loop-at in
    sym (comes_to_the_end c.args.versions c.args.file.now _ _ w.at w.left w.invariant c.loop-at-test.false)

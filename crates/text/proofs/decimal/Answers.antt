-- `text::decimal` meets its contract. The loop's invariant is `Spelling`, and zeros in front of the digits; the measure is what is
-- left of the number.
use Prim.Native.Nat.{ℕ, ◌+◌, ◌-◌, ◌/◌, ◌%◌}
use native.Mathlib.Omega.{arith}
use mathlib.Core.Path.{refl, sym, subst}
use lib.ListN.{set, replicate}
use Rattle.text.proofs.Spelling.{Spelling, last_digit_first, room_in_front, digit_in_front, nothing_left}
use Rattle.text.proofs.InFront.{zeros_before}
use Rattle.text.proofs.decimal.Goals as goal

pub loop-rest-init : goal.loop-rest-init
loop-rest-init c = (
  subst (λ (b : ℕ). Spelling c.args.n (set (replicate 20 48) 19 b) 19 (c.args.n / 10)) (sym c.last_digit.ensures)
      (last_digit_first c.args.n (replicate 20 48) c.ranges.n.fits refl),
  zeros_before (replicate 20 48) 19 20 (48 + c.args.n % 10) (omega arith) refl,
)

pub overflow_sub-first : goal.overflow_sub-first
overflow_sub-first c = let l = c.loop-rest in room_in_front _ l.digits l.first l.rest l.invariant.0 c.loop-rest-test.true

pub loop-rest-preserved : goal.loop-rest-preserved
loop-rest-preserved c =
    let l = c.loop-rest in (
      rw c.last_digit-in-loop-rest.ensures (digit_in_front _ l.digits l.first l.rest l.invariant.0 c.loop-rest-test.true),
      zeros_before l.digits (l.first - 1) l.first _ (omega arith) l.invariant.1,
    )

pub returns : goal.returns
returns c = let l = c.loop-rest in nothing_left _ l.digits l.first l.rest l.invariant.0 (omega arith)

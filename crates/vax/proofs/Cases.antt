-- The cases of `by_exponent` and `reading`, as equations from what a test showed; what is answered; where a refusal stands.
use Prim.Native.Nat.{ℕ, ◌≤◌}
use native.Mathlib.Omega.{arith}
use mathlib.Core.Path.{◌≡◌, sym, subst}
use mathlib.Core.Bool.{Bool, true, false, not, ◌&&◌, cond}
use mathlib.Core.List.{List}
use lib.ListN.{length}
use lib.Dec.{leb, eqb}
use lib.Ieee.{Float}
use borrow.Author.Tests.{le-leb}
use Rattle.answer.specs.Outcome.{Outcome, answer, refuse, need}
use Rattle.vax.specs.Fields.{negative, exponent}
use Rattle.vax.specs.Numbers.{zero_float, by_exponent, reading}

module _ (x : Float) (s : List ℕ) where
  pub long_enough : (size : ℕ) → size ≤ length s → reading size x s ≡ by_exponent x s
  long_enough size h = simp (le-leb size (length s) h)

  pub refused_at_0 : (size n p : ℕ) → reading size x s ≡ refuse n p → p ≡ 0
  refused_at_0 size n p = go (leb size (length s)) (not (negative s && eqb (exponent s) 0))
    where
      go : (long number : Bool) → need long 1 (need number 9 (answer (cond (eqb (exponent s) 0) zero_float x))) ≡ refuse n p → p ≡ 0
      go false number e = cc
      go true false e = cc
      go true true e = let z : ◌≡◌ {A = ℕ} 0 1 = cc in absurd (omega arith)

-- what holds of a number's float, and of zero, holds of the float that is answered
same_answer : (x y : Float) → answer x ≡ answer y → x ≡ y
same_answer x y e = cc

pub never : {X : Type 0} (n p : ℕ) (y : Float) → refuse n p ≡ answer y → X
never n p y e = let z : ◌≡◌ {A = ℕ} 0 1 = cc in absurd (omega arith)

pub reading_has : (P : Float → Bool → ℕ → Type 0) (size : ℕ) (x : Float) (s : List ℕ) (m : ℕ) → P x (negative s) m → P zero_float false 0
    → (y : Float) → reading size x s ≡ answer y → P y (negative s) (cond (eqb (exponent s) 0) 0 m)
reading_has P size x s m has none = go (leb size (length s)) (negative s) (eqb (exponent s) 0) has
  where
    go : (long sign zero : Bool) → P x sign m → (y : Float)
        → need long 1 (need (not (sign && zero)) 9 (answer (cond zero zero_float x))) ≡ answer y → P y sign (cond zero 0 m)
    go false sign zero v y e = never 1 0 y e
    go true true true v y e = never 9 0 y e
    go true true false v y e = subst (λ (z : Float). P z true m) (same_answer x y e) v
    go true false true v y e = subst (λ (z : Float). P z false 0) (same_answer zero_float y e) none
    go true false false v y e = subst (λ (z : Float). P z false m) (same_answer x y e) v

-- both clauses of a promise, from the first
pub both_clauses : (Q : Outcome Float → Type 0) (w : Outcome Float) → Q w → (o : Outcome Float) → o ≡ w → (o ≡ w) × Q o
both_clauses Q w h o e = (e, subst Q (sym e) h)

-- What an answer says of the tests before it: a definition that answers passed each of its `need`s.
use Prim.Native.Nat.{ℕ}
use native.Mathlib.Omega.{arith}
use mathlib.Core.Path.{◌≡◌, refl, sym, ap}
use mathlib.Core.Bool.{Bool, true, false}
use Rattle.answer.specs.Outcome.{Outcome, answer, refuse, need_at, and_then, mapped}

-- an answer is no refusal
pub answer_is_no_refusal : {A : Type 0} {a : A} {n p : ℕ} → answer a ≡ refuse n p → ⊥
answer_is_no_refusal e = let z : ◌≡◌ {A = ℕ} 0 1 = cc in omega arith

pub answer_injective : {A : Type 0} {a b : A} → answer a ≡ answer b → a ≡ b
answer_injective e = cc

-- behind a test that was passed stands what was answered
pub passed : {A : Type 0} (place : ℕ) (test : Bool) (number : ℕ) (o : Outcome A) (a : A) → need_at place test number o ≡ answer a
    → (test ≡ true) × (o ≡ answer a)
passed place true number o a e = (refl, e)
passed place false number o a e = absurd (answer_is_no_refusal (sym e))

-- a chain that answers has an answer in its first link
pub first_answered : {A B : Type 0} (o : Outcome A) (f : A → Outcome B) (b : B) → and_then o f ≡ answer b
    → (a : A) × (o ≡ answer a) × (f a ≡ answer b)
first_answered (answer a) f b e = (a, refl, e)
first_answered (refuse n p) f b e = absurd (answer_is_no_refusal (sym e))

-- what follows may be replaced by what agrees with it on every answer
pub and_then_agrees : {A B : Type 0} (o : Outcome A) (f g : A → Outcome B) → ((a : A) → f a ≡ g a) → and_then o f ≡ and_then o g
and_then_agrees (answer a) f g h = h a
and_then_agrees (refuse n p) f g h = refl

-- a chain whose links after the first only answer is refused where the first is
pub refused_first : {A B : Type 0} (o : Outcome A) (f : A → B) {n p : ℕ} → mapped f o ≡ refuse n p → o ≡ refuse n p
refused_first (answer a) f e = absurd (answer_is_no_refusal e)
refused_first (refuse n p) f e = cc

-- something of an answer was given: the answer that it is of
pub mapped_answer : {A B : Type 0} (f : A → B) (o : Outcome A) (b : B) → mapped f o ≡ answer b → (a : A) × (o ≡ answer a) × (f a ≡ b)
mapped_answer f (answer a) b e = (a, refl, answer_injective e)
mapped_answer f (refuse n p) b e = absurd (answer_is_no_refusal (sym e))

-- what follows may be replaced where it agrees on the answer that was given
pub and_then_agrees_where : {A B : Type 0} (o : Outcome A) (f g : A → Outcome B) → ((a : A) → o ≡ answer a → f a ≡ g a) → and_then o f ≡ and_then o g
and_then_agrees_where (answer a) f g h = h a refl
and_then_agrees_where (refuse n p) f g h = refl

-- chains in a row are one chain
pub and_then_assoc : {A B C : Type 0} (o : Outcome A) (f : A → Outcome B) (g : B → Outcome C) → and_then (and_then o f) g ≡ and_then o (λ a. and_then (f a) g)
and_then_assoc (answer a) f g = refl
and_then_assoc (refuse n p) f g = refl

-- an answer as it is
pub mapped_same : {A : Type 0} (o : Outcome A) → mapped (λ a. a) o ≡ o
mapped_same (answer a) = refl
mapped_same (refuse n p) = refl

-- something of something of an answer
pub mapped_twice : {A B C : Type 0} (o : Outcome A) (f : A → B) (g : B → C) → mapped g (mapped f o) ≡ mapped (λ a. g (f a)) o
mapped_twice (answer a) f g = refl
mapped_twice (refuse n p) f g = refl

-- what follows an answer, and what follows a refusal
module _ {A B : Type 0} (o : Outcome A) (next : A → Outcome B) where
  pub after_answer : (a : A) → o ≡ answer a → and_then o next ≡ next a
  after_answer a e = ap (λ (x : Outcome A). and_then x next) e

  pub after_refusal : (n p : ℕ) → o ≡ refuse n p → and_then o next ≡ refuse n p
  after_refusal n p e = ap (λ (x : Outcome A). and_then x next) e

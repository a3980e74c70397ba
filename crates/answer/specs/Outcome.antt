-- The one shape of every call's definition: an answer, or a refusal with its number and its place (document 01: "Every
-- refusal carries its number and a place"). `need` and `and_then` let a definition read like the call's line in the
-- table of refusals: the first test that fails refuses, and what follows it is not looked at.
use Rattle.std.specs.Prelude.{ℕ, Bool, true, false}

pub data Outcome (A : Type 0) : Type 0 where
  answer : A → Outcome A
  refuse : (number place : ℕ) → Outcome A

module _ {A : Type 0} where
  -- refusal `number` at `place` unless the test holds
  abbrev pub need_at : ℕ → Bool → ℕ → Outcome A → Outcome A
  need_at place true number o = o
  need_at place false number o = refuse number place

  -- the same at place 0, where most calls refuse
  abbrev pub need : Bool → ℕ → Outcome A → Outcome A
  need test number o = need_at 0 test number o

-- what follows an answer; a refusal stays as it is
abbrev pub and_then : {A B : Type 0} → Outcome A → (A → Outcome B) → Outcome B
and_then (answer a) f = f a
and_then (refuse n p) f = refuse n p

-- something of an answer; a refusal stays as it is
abbrev pub mapped : {A B : Type 0} → (A → B) → Outcome A → Outcome B
mapped f o = and_then o (λ a. answer (f a))

-- When two answers are the same: an answer and itself, and an answer and what is left of it without its depth.
use Rattle.std.specs.Prelude.{ℕ, Option, Some, None}
use mathlib.Core.Path.{refl}
use Rattle.answer.specs.Outcome.{Outcome, answer, refuse, mapped}
use Rattle.answer.specs.Address.{without_depth, label_in, depth_in, outermost_in, SameWhereBoth, SameAnswer}
use Rattle.answer.specs.declared.Shown.{Shown}

same_as_itself : (o : Option ℕ) → SameWhereBoth o o
same_as_itself (Some x) = refl
same_as_itself None = tt

pub same_answer : (o : Outcome Shown) → SameAnswer o o
same_answer (answer x) = record {
  part = refl;
  label = same_as_itself (label_in x.address);
  depth = same_as_itself (depth_in x.address);
  outermost = same_as_itself (outermost_in x.address);
}
same_answer (refuse n p) = (refl, refl)

pub same_without_depth : (o : Outcome Shown) → SameAnswer (mapped without_depth o) o
same_without_depth (answer x) = record { part = refl; label = refl; depth = tt; outermost = tt }
same_without_depth (refuse n p) = (refl, refl)

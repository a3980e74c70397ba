-- No refusal has the number 0, so that 0 can stand for an answer where a call's result is a number.
use Prim.Native.Nat.{◌<◌}
use native.Mathlib.Omega.{arith}
use Rattle.answer.specs.Refusal.{number_of}
use Rattle.answer.specs.declared.Refusal.{Refusal}
use Rattle.answer.specs.declared.Refusal.TheVariants.{Short, BadLabel, BadLength, Overrun, Deep, NoRow, NoPart, Small, Reserved, Unknown, BadIndex, Ragged, BadKept, TooBig, TooLong, BadStart}

pub numbers_are_not_0 : (why : Refusal) → 0 < number_of why
numbers_are_not_0 Short = omega arith
numbers_are_not_0 BadLabel = omega arith
numbers_are_not_0 BadLength = omega arith
numbers_are_not_0 Overrun = omega arith
numbers_are_not_0 Deep = omega arith
numbers_are_not_0 NoRow = omega arith
numbers_are_not_0 NoPart = omega arith
numbers_are_not_0 Small = omega arith
numbers_are_not_0 Reserved = omega arith
numbers_are_not_0 Unknown = omega arith
numbers_are_not_0 BadIndex = omega arith
numbers_are_not_0 Ragged = omega arith
numbers_are_not_0 BadKept = omega arith
numbers_are_not_0 TooBig = omega arith
numbers_are_not_0 TooLong = omega arith
numbers_are_not_0 BadStart = omega arith

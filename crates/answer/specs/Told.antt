-- What a call's result stands for: its answer, or its refusal's number and place.
use Rattle.std.specs.Prelude.{Result, Ok, Err}
use Rattle.answer.specs.Outcome.{Outcome, answer, refuse}
use Rattle.answer.specs.Refusal.{number_of}
use Rattle.answer.specs.declared.Refused.{Refused}

abbrev pub told : {A : Type 0} → Result A Refused → Outcome A
told (Ok x) = answer x
told (Err e) = refuse (number_of e.0) e.1

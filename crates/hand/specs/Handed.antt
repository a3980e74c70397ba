-- What a call hands over across the boundary: its status by value, and what each pointer holds afterwards. Both come from the
-- call's own definition, an `Outcome`.
use Rattle.std.specs.Prelude.{ℕ}
use Rattle.answer.specs.Outcome.{Outcome, answer, refuse}
use Rattle.hand.specs.declared.Status.{Status}

-- the status of a call that answered
abbrev pub done : Status
done = record { refusal = 0; place = 0 }

-- the status of a call that refused
abbrev pub refused_as : ℕ → ℕ → Status
refused_as number place = record { refusal = number; place = place }

-- the status: 0 at place 0 for an answer, else the refusal's number and place
abbrev pub status_of : {A : Type 0} → Outcome A → Status
status_of (answer a) = done
status_of (refuse n p) = refused_as n p

-- what a pointer holds afterwards: this part of the answer, or what it held before
abbrev pub handed : {A N : Type 0} → (A → N) → Outcome A → N → N
handed part (answer a) old = part a
handed part (refuse n p) old = old

-- What a call that writes answers and what the lent memory holds afterwards (document 01: "A call that writes fills the
-- front of what it is lent, answers how much, and changes nothing after that"; on a refusal "lent memory stays
-- unchanged"). Both come from one definition of the call, an `Outcome` of what it writes.
use Rattle.std.specs.Prelude.{ℕ, ◌≡◌, List, ◌++◌, length, drop}
use Rattle.answer.specs.Outcome.{Outcome, answer, refuse, mapped}

-- how much is written
abbrev pub amount : Outcome (List ℕ) → Outcome ℕ
amount x = mapped length x

-- the lent memory after the call, from what it held before
abbrev pub filled : Outcome (List ℕ) → List ℕ → List ℕ
filled (answer w) old = w ++ drop (length w) old
filled (refuse n p) old = old

-- the promise of every call that writes: `x` is its definition, `result` what it answered, and the lent memory went
-- from `old` to `new`
pub record Writes (x : Outcome (List ℕ)) (old : List ℕ) (result : Outcome ℕ) (new : List ℕ) : Type 0 where
  pub answers : result ≡ amount x
  pub leaves : new ≡ filled x old

-- The one with this number of a list, counted from 0; past the last there is none (document 01, the table of refusals, 6 NOROW).
use Rattle.std.specs.Prelude.{ℕ, zero, suc, List, [], ◌∷◌}
use Rattle.answer.specs.Outcome.{Outcome, answer, refuse}

abbrev pub nth : {A : Type 0} → List A → ℕ → Outcome A
nth [] k = refuse 6 0
nth (x ∷ xs) zero = answer x
nth (x ∷ xs) (suc k) = nth xs k

-- What is printed of a refusal: its number and its place.
use Rattle.std.specs.Prelude.{ℕ, List, ◌∷◌, ◌++◌, codes}
use Rattle.std.specs.Fmt.{decimal}
use Rattle.answer.specs.Refusal.{number_of}
use Rattle.answer.specs.declared.Refused.{Refused}

abbrev pub refused_text : Refused → List ℕ
refused_text e = codes "refused " ++ decimal (number_of e.0) ++ 32 ∷ decimal e.1

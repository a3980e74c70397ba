-- The numbers of the refusals (document 01, the table of refusals, column "No."; document 02, item 1: 16 BADSTART).
use Rattle.std.specs.Prelude.{ℕ}
use Rattle.answer.specs.declared.Refusal.{Refusal}
use Rattle.answer.specs.declared.Refusal.TheVariants.{Short, BadLabel, BadLength, Overrun, Deep, NoRow, NoPart, Small, Reserved, Unknown, BadIndex, Ragged, BadKept, TooBig, TooLong, BadStart}

abbrev pub number_of : Refusal → ℕ
number_of Short = 1
number_of BadLabel = 2
number_of BadLength = 3
number_of Overrun = 4
number_of Deep = 5
number_of NoRow = 6
number_of NoPart = 7
number_of Small = 8
number_of Reserved = 9
number_of Unknown = 10
number_of BadIndex = 11
number_of Ragged = 12
number_of BadKept = 13
number_of TooBig = 14
number_of TooLong = 15
number_of BadStart = 16

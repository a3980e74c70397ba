-- `label::number_from` meets its contract. The invariant: the digits' reading is the reading of what is left with the number so far,
-- which has no more digits than the place that is come to.
use Prim.Native.Nat.{ℕ, ◌<◌, ◌^◌}
use mathlib.Core.Path.{◌≡◌}
use mathlib.Core.List.{List}
use lib.ListN.{drop}
use Rattle.text.specs.Digits.{decimal}
use Rattle.label.specs.Length.{number_in}
use Rattle.label.proofs.number_from.Given as goal

pub record Inv (field : List ℕ) (from n i : ℕ) : Type 0 where
  pub small : n < 10 ^ i
  pub same : number_in (drop from field) ≡ decimal n (drop i field)

abbrev pub invariant-loop-i : goal.invariant-loop-i
invariant-loop-i l = Inv l.field l.from l.n l.i

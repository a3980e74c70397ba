-- `label_writer::eight_digits` meets its contract. The invariant: the last digits are written, and those of the rest stand before them.
use Prim.Native.Nat.{ℕ, ◌-◌}
use mathlib.Core.Path.{◌≡◌}
use mathlib.Core.List.{List, ◌++◌}
use lib.ListN.{length, drop}
use Rattle.text.specs.Digits.{digits_of}
use Rattle.label_writer.proofs.eight_digits.Given as goal

pub record Inv (n : ℕ) (digits : List ℕ) (i rest : ℕ) : Type 0 where
  pub eight : length digits ≡ 8
  pub whole : digits_of 8 n ≡ digits_of (8 - i) rest ++ drop (8 - i) digits

abbrev pub invariant-loop-i : goal.invariant-loop-i
invariant-loop-i l = Inv l.n l.digits l.i l.rest

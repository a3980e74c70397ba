-- A row's address (document 02, item 8: "The record a row is answered in gains the place of its label, its depth, and the place of the
-- outermost object it lies in (itself at depth 1)"), and when two answers are the same.
use Rattle.std.specs.Prelude.{ℕ, ◌≡◌, Option, Some, None}
use Rattle.answer.specs.Outcome.{Outcome, answer, refuse}
use Rattle.answer.specs.declared.Nesting.{Nesting}
use Rattle.answer.specs.declared.Address.{Address}
use Rattle.answer.specs.declared.Shown.{Shown}

-- a row of so many bytes that has no label ("Waveform and SBDR rows .. give depth 0 and the place of the row's first byte as both")
abbrev pub unlabelled : (place count : ℕ) → Shown
unlabelled place count = record {
  part = record { place = place; count = count };
  address = record { label = place; nesting = Some (record { depth = 0; outermost = place }) };
}

-- a row as it is known to who keeps no depth ("it fills only the label's place and says that the other two are absent")
abbrev pub without_depth : Shown → Shown
without_depth s = record { part = s.part; address = record { label = s.address.label; nesting = None } }

-- the three parts of an address, each filled or absent
abbrev pub label_in : Address → Option ℕ
label_in a = Some a.label

abbrev pub depth_of : Option Nesting → Option ℕ
depth_of (Some nesting) = Some nesting.depth
depth_of None = None

abbrev pub outermost_of : Option Nesting → Option ℕ
outermost_of (Some nesting) = Some nesting.outermost
outermost_of None = None

abbrev pub depth_in : Address → Option ℕ
depth_in a = depth_of a.nesting

abbrev pub outermost_in : Address → Option ℕ
outermost_in a = outermost_of a.nesting

-- a part is filled, or it is absent
abbrev pub IsFilled : Option ℕ → Type 0
IsFilled (Some x) = Unit
IsFilled None = ⊥

abbrev pub IsAbsent : Option ℕ → Type 0
IsAbsent (Some x) = ⊥
IsAbsent None = Unit

-- "the parts that both fill" are the same: a part that is absent on one side is not compared
abbrev pub SameWhereBoth : Option ℕ → Option ℕ → Type 0
SameWhereBoth (Some x) (Some y) = x ≡ y
SameWhereBoth (Some x) None = Unit
SameWhereBoth None y = Unit

-- two rows that are shown: the same part of the file, and an address that is the same in the parts that both fill
pub record SameRow (x y : Shown) : Type 0 where
  pub part : x.part ≡ y.part
  pub label : SameWhereBoth (label_in x.address) (label_in y.address)
  pub depth : SameWhereBoth (depth_in x.address) (depth_in y.address)
  pub outermost : SameWhereBoth (outermost_in x.address) (outermost_in y.address)

-- two answers: the same row, or the same refusal with the same place
abbrev pub SameAnswer : Outcome Shown → Outcome Shown → Type 0
SameAnswer (answer x) (answer y) = SameRow x y
SameAnswer (answer x) (refuse n p) = ⊥
SameAnswer (refuse n p) (answer y) = ⊥
SameAnswer (refuse n p) (refuse m q) = (n ≡ m) × (p ≡ q)

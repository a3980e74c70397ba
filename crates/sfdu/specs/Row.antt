-- A row of a labelled file and its address (document 01: "The rows of a labelled file are its leaves in file order,
-- numbered from 0; the bytes of a row are the leaf's value").
use Rattle.std.specs.Prelude.{ℕ, ◌+◌, ◌≤◌, ◌≡◌, ◌↔◌, List, Some}
use Rattle.answer.specs.Window.{bytes_at}
use Rattle.answer.specs.declared.Part.{Part}
use Rattle.answer.specs.declared.Shown.{Shown}
use Rattle.label.specs.Head.{label_size}

pub record Row : Type 0 where
  -- the place of its label, counted from the file's first byte
  pub label : ℕ
  -- how many bytes its value has
  pub size : ℕ
  -- how deep its label stands: 1 at the outermost level
  pub depth : ℕ
  -- the place of the label of the outermost object that it lies in; its own at depth 1
  pub outermost : ℕ

-- the place of a row's first byte: its value stands after the twenty bytes of its label
abbrev pub value_at : Row → ℕ
value_at r = r.label + label_size

-- the bytes of a row of this file
abbrev pub row_bytes : List ℕ → Row → List ℕ
row_bytes f r = bytes_at f (value_at r) r.size

-- a row as a part of the file: the leaf's value
abbrev pub value_of : Row → Part
value_of r = record { place = value_at r; count = r.size }

-- a row as it is answered, whole and with its address (document 02, item 8: "the place of its label, its depth, and the place of the
-- outermost object it lies in")
abbrev pub whole : Row → Shown
whole r = record { part = value_of r; address = record { label = r.label; nesting = Some (record { depth = r.depth; outermost = r.outermost }) } }

-- what an address says of a row of an accepted file (document 02, item 8: "the place of the outermost object it lies in (itself at depth
-- 1)"; document 01: "labels of any class may stand at depths 1 to 8")
pub record WellAddressed (r : Row) : Type 0 where
  pub shallowest : 1 ≤ r.depth
  pub deepest : r.depth ≤ 8
  -- the outermost object begins in front of the row's label, or at it: it is the row itself at depth 1 and at no other
  pub around : r.outermost ≤ r.label
  pub itself : (r.depth ≡ 1) ↔ (r.outermost ≡ r.label)

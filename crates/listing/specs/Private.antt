-- Cited only by promises of private functions: the line of a leaf, and a text put at a place of lent memory.
use Rattle.std.specs.Prelude.{ℕ, ◌+◌, ◌≡◌, List, ◌++◌, length, take, drop}
use Rattle.label.specs.Head.{label_size}
use Rattle.walk.specs.declared.Leaf.{Leaf}
use Rattle.listing.specs.Line.{row_text}

-- the line of a leaf, whose value stands behind its label
abbrev pub leaf_text : ℕ → Leaf → List ℕ
leaf_text number leaf =
    row_text number (leaf.place + label_size) leaf.label.length leaf.label.description leaf.label.spaces

-- a text put at place `at` of lent memory: where it ends, and all else as it was
pub record Puts (at : ℕ) (text old : List ℕ) (end : ℕ) (new : List ℕ) : Type 0 where
  pub ends : end ≡ at + length text
  pub leaves : new ≡ take at old ++ (text ++ drop end old)

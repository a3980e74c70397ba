-- The forward walk, with no memory of depth (document 01, "The index and the jump": it steps over the label of an opened
-- class by 20 bytes, whatever its length field says, and over a leaf by 20 plus its length; a leaf must end inside the
-- file; 1 to 4 as met, and 6 where the file ends). It is defined for any bytes, from any place. It is told which versions of the
-- label are allowed (document 02, item 11), and reads labels as the scan does.
use Rattle.std.specs.Prelude.{ℕ, zero, suc, ◌+◌, ◌-◌, Bool, true, false, List, [], ◌∷◌, length, drop, leb, Option, Some, None}
use Rattle.answer.specs.Outcome.{Outcome, answer, refuse, need, and_then}
use Rattle.answer.specs.Size.{of_file}
use Rattle.answer.specs.declared.Shown.{Shown}
use Rattle.label.specs.declared.Label.{Label}
use Rattle.label.specs.declared.Versions.{Versions}
use Rattle.label.specs.Head.{label_size}
use Rattle.label.specs.Label.{read_label}
use Rattle.label.specs.Opened.{is_opened}
use Rattle.walk.specs.declared.Leaf.{Leaf}

-- the row that stands at a leaf, whole: its value, and its label's place; how deep it stands the walk does not know (document 02, item
-- 8: "it fills only the label's place and says that the other two are absent")
abbrev pub row_at_leaf : Leaf → Outcome Shown
row_at_leaf leaf =
    answer (record {
      part = record { place = leaf.place + label_size; count = leaf.label.length };
      address = record { label = leaf.place; nesting = None };
    })

-- how a walk takes a label with so many bytes after it: nothing where its class is opened, else the leaf, whose value
-- must end inside the file
abbrev pub take_label : Bool → Label → ℕ → Outcome (Option Label)
take_label true l after = answer None
take_label false l after = need (leb l.length after) 4 (answer (Some l))

-- what a step at `at` means with k leaves still to pass; `go` walks on with so many leaves and so many bytes to pass
abbrev pub on_step : ℕ → ℕ → Outcome (Option Label) → (ℕ → ℕ → Outcome Leaf) → Outcome Leaf
on_step at k (refuse n p) go = refuse n at
on_step at k (answer None) go = go k 19
on_step at zero (answer (Some l)) go = answer (record { place = at; label = l })
on_step at (suc k) (answer (Some l)) go = go k (19 + l.length)

-- which versions of the label are allowed
module _ (versions : Versions) where
  -- the label at the front of these bytes, as a walk takes it: 1, 2, 3, 4
  unfoldable pub step_at : List ℕ → Outcome (Option Label)
  step_at s = and_then (read_label versions s) (λ l. take_label (is_opened l.class) l (length s - label_size))

  -- from the byte at place `at` on: k leaves and so many bytes are passed before the leaf that is looked for
  unfoldable pub walk : ℕ → ℕ → ℕ → List ℕ → Outcome Leaf
  walk at k passed [] = refuse 6 0
  walk at k (suc passed) (b ∷ bs) = walk (suc at) k passed bs
  walk at k zero (b ∷ bs) = on_step at k (step_at (b ∷ bs)) (λ j n. walk (suc at) j n bs)

  -- the walk of a file from a place: 14, then 6 for a place past the file's end (docs/DECISIONS.md, "Going on")
  unfoldable pub walk_from : List ℕ → ℕ → ℕ → Outcome Leaf
  walk_from f from k = of_file f (need (leb from (length f)) 6 (walk from k 0 (drop from f)))

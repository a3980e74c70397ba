-- What a reader finds who goes through the labels of a file in order, an object's inside before what follows it: the rows,
-- or the first fault (document 01: "Labels are checked in file order, an object's inside before what follows it, and the
-- first fault is reported. At each place where bytes remain, the order is 5, 1, 2, 3, 4"). It is told which versions of the
-- label are allowed (document 02, item 11), and hands that on to the label reader: what a label says is known to it alone.
use Prim.Native.Nat.{ℕ, zero, suc, ◌+◌, ◌-◌}
use Rattle.std.specs.Prelude.{Bool, true, false, length, take, drop, leb}
use mathlib.Core.List.{List, [], ◌∷◌, ◌++◌}
use Rattle.answer.specs.Outcome.{Outcome, answer, refuse, need, and_then}
use Rattle.label.specs.declared.Label.{Label}
use Rattle.label.specs.declared.Versions.{Versions}
use Rattle.label.specs.Head.{label_size}
use Rattle.label.specs.Label.{read_label}
use Rattle.label.specs.Opened.{is_opened}
use Rattle.sfdu.specs.Row.{Row}

-- a fault of the label at `at` is reported there; else go on with what it says
abbrev pub on_label : {A : Type 0} → ℕ → Outcome Label → (Label → Outcome A) → Outcome A
on_label at (answer l) f = f l
on_label at (refuse n p) f = refuse n at

-- how an opened value is scanned: the outermost object's place, the value's own place, its bytes
abbrev pub Inside : Type 0
Inside = ℕ → ℕ → List ℕ → Outcome (List Row)

-- the rows of one object at `at` with this value: those inside it where it is opened, else itself
abbrev pub rows_of : Inside → ℕ → ℕ → ℕ → Bool → ℕ → List ℕ → Outcome (List Row)
rows_of inside depth outermost at true size value = inside outermost (at + label_size) value
rows_of inside depth outermost at false size value =
    answer (record { label = at; size = size; depth = depth; outermost = outermost } ∷ [])

-- which versions of the label are allowed
module _ (versions : Versions) where
  -- the label at the front of these bytes, whose value they hold: 1, 2, 3, 4
  unfoldable pub object : List ℕ → Outcome Label
  object s = and_then (read_label versions s) (λ l. need (leb l.length (length s - label_size)) 4 (answer l))

  -- Objects side by side: `at` is the place of the next byte, `found` the rows so far, and so many bytes are passed before
  -- the next label. `outermost` gives the outermost object's place from a label's own.
  unfoldable pub level : Inside → ℕ → (ℕ → ℕ) → ℕ → List Row → ℕ → List ℕ → Outcome (List Row)
  level inside depth outermost at found passed [] = answer found
  level inside depth outermost at found (suc passed) (b ∷ bs) = level inside depth outermost (suc at) found passed bs
  level inside depth outermost at found zero (b ∷ bs) =
      on_label at (object (b ∷ bs))
      λ l. and_then (rows_of inside depth (outermost at) at (is_opened l.class) l.length (take l.length (drop label_size (b ∷ bs))))
      λ rows. level inside depth outermost (suc at) (found ++ rows) (19 + l.length) bs

  -- Objects with `left` more depths allowed: none where a label would stand one too deep (refusal 5).
  unfoldable pub objects : ℕ → ℕ → (ℕ → ℕ) → ℕ → List ℕ → Outcome (List Row)
  unfolding level
  objects zero depth outermost at [] = answer []
  objects zero depth outermost at (b ∷ bs) = refuse 5 at
  objects (suc left) depth outermost at s =
      level (λ top place value. objects left (suc depth) (λ _. top) place value) depth outermost at [] 0 s

  -- The whole file: labels stand at depths 1 to 8, and an object at depth 1 is its own outermost.
  unfoldable pub scan : List ℕ → Outcome (List Row)
  unfolding objects
  scan f = objects 8 1 (λ at. at) 0 f

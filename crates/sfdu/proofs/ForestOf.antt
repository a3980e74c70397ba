-- The forest of a file as a function of its bytes: what a reader builds who goes through the labels in order. On an accepted
-- file it is the forest that divides it (`Exact`); on any other bytes it means nothing.
use Prim.Native.Nat.{ℕ, zero, suc, ◌+◌}
use mathlib.Core.Bool.{Bool, true, false}
use mathlib.Core.List.{List, [], ◌∷◌}
use lib.ListN.{take, drop}
use Rattle.answer.specs.Outcome.{Outcome, answer, refuse}
use Rattle.label.specs.declared.Versions.{Versions}
use Rattle.label.specs.declared.Label.{Label}
use Rattle.label.specs.Label.{read_label}
use Rattle.label.specs.Opened.{is_opened}
use Rattle.sfdu.specs.Forest.{Forest, done, leaf, group}

abbrev pub node : Bool → List ℕ → List ℕ → Forest → Forest → Forest
node true label value inside rest = group label inside rest
node false label value inside rest = leaf label value rest

abbrev pub on_tree : Outcome Label → (Label → Forest) → Forest
on_tree (answer l) f = f l
on_tree (refuse n p) f = done

-- which versions of the label are allowed
module _ (versions : Versions) where
  -- the objects side by side, after so many bytes that are passed
  unfoldable pub trees : (List ℕ → Forest) → ℕ → List ℕ → Forest
  trees inside passed [] = done
  trees inside (suc passed) (b ∷ bs) = trees inside passed bs
  trees inside zero (b ∷ bs) =
      on_tree (read_label versions (b ∷ bs))
      λ l. node (is_opened l.class) (take 20 (b ∷ bs)) (take l.length (drop 20 (b ∷ bs)))
      (inside (take l.length (drop 20 (b ∷ bs)))) (trees inside (19 + l.length) bs)

  unfoldable pub forest_of : ℕ → List ℕ → Forest
  unfolding trees
  forest_of zero s = done
  forest_of (suc left) s = trees (forest_of left) 0 s

-- What an object's class decides: whether it is opened, and nothing else (document 02, item 3: "A U or F value that does not
-- divide is refused as a Z value is"); and what its version decides: how its length is written, and nothing else (item 11: "Both may
-- be mixed in one file"). Here the reader stands in front of a label, at any place and depth; `behind` is all that stands behind the
-- label, its value and what follows. Another label takes its place, of any version that is allowed and with any class that is
-- opened alike.
use Rattle.std.specs.Prelude.{ℕ, ◌≡◌, Bool, true, List, ◌++◌}
use Rattle.label.specs.declared.Versions.{Versions}
use Rattle.sfdu.specs.Row.{Row}
use Rattle.sfdu.specs.Scan.{Inside, level}
use Rattle.sfdu.specs.Forest.{IsLabel}
use Rattle.walk.specs.Walk.{walk}

pub record LabelsAlike (versions : Versions) (behind : List ℕ) : Type 0 where
  -- the check, and all that is said of its rows: the same rows, or the same refusal at the same place
  pub scanned : (opened : Bool) (size : ℕ) (label other : List ℕ) → IsLabel versions label opened size → IsLabel versions other opened size
      → (inside : Inside) (depth : ℕ) (outermost : ℕ → ℕ) (at : ℕ) (found : List Row)
      → level versions inside depth outermost at found 0 (label ++ behind) ≡ level versions inside depth outermost at found 0 (other ++ behind)
  -- the walk, so the jump: past an opened label it comes to the same leaf or refusal, whatever length the label says
  pub walked : (size another : ℕ) (label other : List ℕ) → IsLabel versions label true size → IsLabel versions other true another
      → (at leaves : ℕ) → walk versions at leaves 0 (label ++ behind) ≡ walk versions at leaves 0 (other ++ behind)

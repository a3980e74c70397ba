-- An object's class decides whether it is opened and its version how its length is written, and both nothing else: each side of
-- `LabelsAlike` is brought to a form in which the label does not occur.
use Prim.Native.Nat.{ℕ, ◌+◌, ◌≤◌, ◌<◌}
use native.Mathlib.Nat.{lt_of_not-le}
use native.Mathlib.Decide.{dec_le}
use native.Mathlib.Omega.{arith}
use mathlib.Core.Path.{◌≡◌, ◌∙◌, sym, ap}
use mathlib.Core.Bool.{Bool, true}
use mathlib.Core.List.{List, ◌++◌}
use lib.ListN.{length, take, drop, length-append}
use lib.Seq.{drop_at, drop-drop}
use Rattle.answer.specs.Outcome.{answer, refuse, and_then}
use Rattle.label.specs.declared.Versions.{Versions}
use Rattle.label.specs.Label.{read_label}
use Rattle.label.proofs.Reading.{read_depends_on_20_bytes}
use Rattle.sfdu.specs.Row.{Row}
use Rattle.sfdu.specs.Scan.{Inside, rows_of, level}
use Rattle.sfdu.specs.Forest.{IsLabel}
use Rattle.sfdu.proofs.Steps.{takes, value_too_long, bad_object, one_object}
use Rattle.walk.specs.Walk.{walk}
use Rattle.walk.proofs.Walking.{step_opened, walk_opened}
use Rattle.walk.specs.Alike.{LabelsAlike}

-- which versions of the label are allowed
module _ (versions : Versions) where
  module _ (behind label : List ℕ) (opened : Bool) (size : ℕ) (is : IsLabel versions label opened size) where
    reads : read_label versions (label ++ behind) ≡ answer is.label
    reads = read_depends_on_20_bytes versions label behind (omega (arith, is.twenty)) ∙ is.reads

    long : length (label ++ behind) ≡ 20 + length behind
    long = length-append label behind ∙ omega (arith, is.twenty)

    value : drop 20 (label ++ behind) ≡ behind
    value = drop_at label behind 20 is.twenty

    rest : drop (20 + size) (label ++ behind) ≡ drop size behind
    rest = sym (drop-drop size 20 (label ++ behind)) ∙ ap (drop size) value

    module _ (inside : Inside) (depth : ℕ) (outermost : ℕ → ℕ) (at : ℕ) (found : List Row) where
      -- the rows of a value that fits, and of what follows it
      fitting : size ≤ length behind
          → level versions inside depth outermost at found 0 (label ++ behind)
          ≡ and_then (rows_of inside depth (outermost at) at opened size (take size behind))
          (λ rows. level versions inside depth outermost (at + (20 + size)) (found ++ rows) 0 (drop size behind))
      fitting h =
          one_object versions inside depth outermost at found (label ++ behind) (omega (arith, long)) is.label
          (takes versions (label ++ behind) is.label reads (omega (arith, long, is.follows)))
          ∙ rw (is.class, is.follows, value, rest)

      too_long : length behind < size → level versions inside depth outermost at found 0 (label ++ behind) ≡ refuse 4 at
      too_long h =
          bad_object versions inside depth outermost at found (label ++ behind) (omega (arith, long)) 4 0
          (value_too_long versions (label ++ behind) is.label reads (omega (arith, long, is.follows)))

  passed : (behind label : List ℕ) (size : ℕ) (is : IsLabel versions label true size) (at leaves : ℕ)
      → walk versions at leaves 0 (label ++ behind) ≡ walk versions (at + 20) leaves 0 behind
  passed behind label size is at leaves =
      walk_opened versions at (label ++ behind) (omega (arith, long behind label true size is)) leaves
      (step_opened versions (label ++ behind) is.label (reads behind label true size is) is.class)
      ∙ ap (walk versions (at + 20) leaves 0) (value behind label true size is)

  pub labels_alike : (behind : List ℕ) → LabelsAlike versions behind
  labels_alike behind =
      record {
        scanned = λ opened size label other is too inside depth outermost at found.
            elim (dec_le size (length behind)) [
              | yes h ↦ fitting behind label opened size is inside depth outermost at found h
                  ∙ sym (fitting behind other opened size too inside depth outermost at found h)
              | no h ↦ too_long behind label opened size is inside depth outermost at found (lt_of_not-le h)
                  ∙ sym (too_long behind other opened size too inside depth outermost at found (lt_of_not-le h))
            ];
        walked = λ size another label other is too at leaves.
            passed behind label size is at leaves ∙ sym (passed behind other another too at leaves);
      }

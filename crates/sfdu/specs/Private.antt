-- Cited only by promises of private functions: the object at a place of a part, and the nested search of a part.
use Rattle.std.specs.Prelude.{ℕ, ◌+◌, ◌-◌, ◌≤◌, ◌≡◌, Bool, true, false, List, length, drop, Result, Ok, Err}
use Rattle.answer.specs.Outcome.{Outcome, answer, refuse, mapped}
use Rattle.answer.specs.Refusal.{number_of}
use Rattle.answer.specs.declared.Refusal.{Refusal}
use Rattle.label.specs.declared.Label.{Label}
use Rattle.label.specs.declared.Versions.{Versions}
use Rattle.label.specs.Head.{label_size}
use Rattle.label.specs.Opened.{is_opened}
use Rattle.sfdu.specs.Scan.{object, objects}
use Rattle.sfdu.specs.Search.{MarkedBy, see_all}
use Rattle.sfdu.specs.declared.Object.{Object}
use Rattle.sfdu.specs.declared.Object.TheVariants.{Leaf, Group}
use Rattle.sfdu.specs.declared.Seen.{Seen}

-- which versions of the label are allowed
module _ (versions : Versions) where
  -- the object at place `at` of a part: its label as the scan takes it, whether its class is opened, and where it ends
  pub record ObjectAt (part : List ℕ) (at : ℕ) (opened : Bool) (end : ℕ) : Type 0 where
    pub label : Label
    pub is : object versions (drop at part) ≡ answer label
    pub class : is_opened label.class ≡ opened
    pub ends : end ≡ at + label_size + label.length
    pub inside : end ≤ length part

  -- what is said of place `at` of a part: an object, or why there is none
  abbrev pub Stands : List ℕ → ℕ → Result Object Refusal → Type 0
  Stands part at (Ok (Leaf end)) = ObjectAt part at false end
  Stands part at (Ok (Group end)) = ObjectAt part at true end
  Stands part at (Err why) = (place : ℕ) × (object versions (drop at part) ≡ refuse (number_of why) place)

  -- the nested search of a part of the file from place `base` on, with `left` more depths allowed: it has seen the scan's rows, or
  -- met its fault; and there are no more rows than bytes, and none is marked behind them
  pub record Searched (part : List ℕ) (base left : ℕ) (outermost : ℕ → ℕ) (k : ℕ) (earlier : Seen) (result : Outcome Seen) : Type 0 where
    pub sees : result ≡ mapped (see_all k earlier) (objects versions left (9 - left) outermost base part)
    pub few : (s : Seen) → result ≡ answer s → (s.rows ≤ base + length part) × MarkedBy (base + length part) s.mark

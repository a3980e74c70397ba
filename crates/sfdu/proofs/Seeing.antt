-- What a search has seen, one row more and rows in turn.
use Prim.Native.Nat.{ℕ, ◌+◌, ◌≤◌}
use native.Mathlib.Omega.{arith}
use mathlib.Core.Path.{◌≡◌, refl, sym, ap}
use mathlib.Core.Bool.{Bool, true, false, cond}
use mathlib.Core.List.{List, [], ◌∷◌, ◌++◌}
use borrow.Author.Tests.{eq-eqb, ne_eqb}
use Rattle.std.specs.Prelude.{Option, Some, None}
use Rattle.sfdu.specs.Row.{Row}
use Rattle.sfdu.specs.Search.{mark_of, MarkedBy, see_row, see_all}
use Rattle.sfdu.specs.declared.Mark.{Mark}
use Rattle.sfdu.specs.declared.Seen.{Seen}

-- a row that was marked by one place is marked by a later one
pub marked_later : (m : Option Mark) (a b : ℕ) → a ≤ b → MarkedBy a m → MarkedBy b m
marked_later (Some m) a b h marked = omega arith
marked_later None a b h marked = tt

-- whichever of two rows it is
pub marked_either : (t : Bool) (r : Row) (m : Option Mark) (end : ℕ) → r.label ≤ end → MarkedBy end m → MarkedBy end (cond t (Some (mark_of r)) m)
marked_either true r m end h marked = h
marked_either false r m end h marked = marked

-- some rows and then more are all of them
pub seen_in_turn : (k : ℕ) (xs ys : List Row) (s : Seen) → see_all k s (xs ++ ys) ≡ see_all k (see_all k s xs) ys
seen_in_turn k [] ys s = refl
seen_in_turn k (x ∷ xs) ys s = seen_in_turn k xs ys (see_row k s x)

-- one row more: the one that is looked for, or another
pub row_is_seen : (k : ℕ) (s : Seen) (r : Row) → s.rows ≡ k → record { rows = s.rows + 1; mark = Some (mark_of r) } ≡ see_row k s r
row_is_seen k s r h = sym (ap (λ t. record { rows = s.rows + 1; mark = cond t (Some (mark_of r)) s.mark }) (eq-eqb s.rows k h))

pub row_is_passed : (k : ℕ) (s : Seen) (r : Row) → (s.rows ≡ k → ⊥) → record { rows = s.rows + 1; mark = s.mark } ≡ see_row k s r
row_is_passed k s r h = sym (ap (λ t. record { rows = s.rows + 1; mark = cond t (Some (mark_of r)) s.mark }) (ne_eqb s.rows k h))

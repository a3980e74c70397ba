-- The walk in its loop's own terms. `OnTheWay` is the loop's invariant: the walk asked for is the walk from here with what
-- is still to pass. Each arm of the loop is one law.
use Prim.Native.Nat.{ℕ, suc, ◌+◌, ◌-◌, ◌≤◌, ◌<◌}
use native.Mathlib.Omega.{arith}
use mathlib.Core.Path.{◌≡◌, ◌∙◌, sym, ap, ap₂}
use mathlib.Core.List.{List}
use Rattle.std.specs.Prelude.{Option, None, Some}
use lib.ListN.{length, take, drop, length-drop, drop_of_length-le}
use lib.Seq.{drop-drop}
use borrow.Author.Tests.{le-leb, lt-leb}
use Rattle.answer.specs.Outcome.{Outcome, answer, refuse}
use Rattle.answer.specs.Size.{largest_file}
use Rattle.answer.proofs.Parts.{all_that_is_left}
use Rattle.label.specs.declared.Versions.{Versions}
use Rattle.label.specs.declared.Label.{Label}
use Rattle.walk.specs.Walk.{step_at, walk, walk_from}
use Rattle.walk.proofs.Walking.{walk_ends, walk_faulty, walk_opened, walk_arrives, walk_leaf, step_is_a_leaf, opened_has_20_bytes}

-- which versions of the label are allowed
module _ (versions : Versions) where
  pub too_big_to_walk : (f : List ℕ) (from k : ℕ) → largest_file < length f → walk_from versions f from k ≡ refuse 14 0
  unfolding walk_from
  too_big_to_walk f from k h = rw (lt-leb (length f) largest_file h)

  -- of a file that is not too big
  module _ (f : List ℕ) (from k : ℕ) (small : length f ≤ largest_file) where
    pub place_beyond : length f < from → walk_from versions f from k ≡ refuse 6 0
    unfolding walk_from
    place_beyond h = rw (le-leb (length f) largest_file small, lt-leb from (length f) h)

    pub place_inside : from ≤ length f → walk_from versions f from k ≡ walk versions from k 0 (drop from f)
    unfolding walk_from
    place_inside h = rw (le-leb (length f) largest_file small, le-leb from (length f) h)

  -- what was read of `&file[at..]` is what stands at that place of the file
  pub step_seen : (f : List ℕ) (at : ℕ) {o : Outcome (Option Label)} → o ≡ step_at versions (take (length f - at) (drop at f)) → step_at versions (drop at f) ≡ o
  step_seen f at e = ap (step_at versions) (sym (all_that_is_left f at)) ∙ sym e

  pub record OnTheWay (f : List ℕ) (from leaves at k : ℕ) : Type 0 where
    pub within : at ≤ length f
    pub same : walk_from versions f from leaves ≡ walk versions at k 0 (drop at f)

  pub sets_out : (f : List ℕ) (from leaves : ℕ) → length f ≤ largest_file → from ≤ length f → OnTheWay f from leaves from leaves
  sets_out f from leaves small h = record { within = h; same = place_inside f from leaves small h }

  module _ (f : List ℕ) (from leaves at k : ℕ) (way : OnTheWay f from leaves at k) where
    pub comes_to_the_end : length f ≤ at → walk_from versions f from leaves ≡ refuse 6 0
    comes_to_the_end h = way.same ∙ ap (walk versions at k 0) (drop_of_length-le f h) ∙ walk_ends versions at k 0

    module _ (more : at < length f) where
      left_over : 0 < length (drop at f)
      left_over = omega (arith, length-drop at f)

      pub meets_a_fault : (n p : ℕ) → step_at versions (drop at f) ≡ refuse n p → walk_from versions f from leaves ≡ refuse n at
      meets_a_fault n p e = way.same ∙ walk_faulty versions at (drop at f) left_over k n p e

      pub steps_in : step_at versions (drop at f) ≡ answer None → OnTheWay f from leaves (at + 20) k
      steps_in e = record {
        within = omega (arith, length-drop at f, opened_has_20_bytes versions (drop at f) e);
        same = way.same ∙ walk_opened versions at (drop at f) left_over k e ∙ ap (walk versions (at + 20) k 0) (drop-drop 20 at f);
      }

      module _ (l : Label) (e : step_at versions (drop at f) ≡ answer (Some l)) where
        pub leaf_inside : at + 20 + l.length ≤ length f
        leaf_inside = let h = step_is_a_leaf versions (drop at f) l e in omega (arith, length-drop at f, h.long, h.fits)

        pub arrives : k ≡ 0 → walk_from versions f from leaves ≡ answer (record { place = at; label = l })
        arrives h = way.same ∙ ap (λ (j : ℕ). walk versions at j 0 (drop at f)) h ∙ walk_arrives versions at (drop at f) left_over l e

        pub steps_over : (k ≡ 0 → ⊥) → OnTheWay f from leaves (at + 20 + l.length) (k - 1)
        steps_over h = record {
          within = leaf_inside;
          same =
              way.same ∙ ap (λ (j : ℕ). walk versions at j 0 (drop at f)) one_less ∙ walk_leaf versions at (drop at f) left_over (k - 1) l e
              ∙ ap₂ (λ (p : ℕ) (t : List ℕ). walk versions p (k - 1) 0 t) end_is (drop-drop (20 + l.length) at f ∙ ap (λ (p : ℕ). drop p f) end_is);
        }
          where
            one_less : k ≡ suc (k - 1)
            one_less = omega arith

            end_is : at + (20 + l.length) ≡ at + 20 + l.length
            end_is = omega arith

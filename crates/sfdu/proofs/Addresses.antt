-- The addresses of the rows of an accepted file: depths 1 to 8, and an outermost object that is the row itself at depth 1 and begins in
-- front of it at every other. Over the leaves of a forest, at the outermost level and inside it.
use Prim.Native.Nat.{ℕ, zero, suc, ◌+◌, ◌≤◌, ◌<◌}
use native.Mathlib.Omega.{arith}
use mathlib.Core.Path.{◌≡◌, refl, sym, subst}
use mathlib.Core.List.{List, [], ◌∷◌, ◌++◌}
use lib.ListN.{length}
use Rattle.answer.specs.Outcome.{answer}
use Rattle.answer.specs.Nth.{nth}
use Rattle.answer.proofs.Outcomes.{answer_injective, answer_is_no_refusal}
use Rattle.label.specs.declared.Versions.{Versions}
use Rattle.sfdu.specs.Row.{Row, WellAddressed}
use Rattle.sfdu.specs.Forest.{Forest, done, leaf, group, encode, Valid, leaves}
use Rattle.sfdu.specs.Check.{rows_of_file}
use Rattle.sfdu.proofs.Exact.{accepted_exactly}

-- all rows of a list
abbrev All : (Row → Type 0) → List Row → Type 0
All P [] = Unit
All P (r ∷ rs) = P r × All P rs

all_of_both : (P : Row → Type 0) (xs ys : List Row) → All P xs → All P ys → All P (xs ++ ys)
all_of_both P [] ys p q = q
all_of_both P (x ∷ xs) ys p q = (p.0, all_of_both P xs ys p.1 q)

all_so : (P Q : Row → Type 0) → ((r : Row) → P r → Q r) → (xs : List Row) → All P xs → All Q xs
all_so P Q f [] p = tt
all_so P Q f (x ∷ xs) p = (f x p.0, all_so P Q f xs p.1)

all_nth : (P : Row → Type 0) (xs : List Row) (k : ℕ) (r : Row) → All P xs → nth xs k ≡ answer r → P r
all_nth P [] k r p e = absurd (answer_is_no_refusal (sym e))
all_nth P (x ∷ xs) zero r p e = subst P (answer_injective e) p.0
all_nth P (x ∷ xs) (suc k) r p e = all_nth P xs k r p.1 e

-- a row inside the outermost object at a place
record Within (top : ℕ) (r : Row) : Type 0 where
  pub deeper : 2 ≤ r.depth
  pub deepest : r.depth ≤ 8
  pub outermost : r.outermost ≡ top
  pub behind : top < r.label

well_within : (top : ℕ) (r : Row) → Within top r → WellAddressed r
well_within top r w = record {
  shallowest = omega (arith, w.deeper);
  deepest = w.deepest;
  around = omega (arith, w.outermost, w.behind);
  itself = ((λ e. absurd (omega (arith, e, w.deeper))), (λ e. absurd (omega (arith, e, w.outermost, w.behind))));
}

-- which versions of the label are allowed
module _ (versions : Versions) where
  inside : (left depth top at : ℕ) (F : Forest) → Valid versions left F → 2 ≤ depth → depth + left ≤ 9 → top < at → All (Within top) (leaves depth (λ _. top) at F)
  inside zero depth top at done v d m h = tt
  inside zero depth top at (leaf label value rest) v d m h = absurd v
  inside zero depth top at (group label within rest) v d m h = absurd v
  inside (suc left) depth top at done v d m h = tt
  inside (suc left) depth top at (leaf label value rest) v d m h = (
    record { deeper = d; deepest = omega arith; outermost = refl; behind = h },
    inside (suc left) depth top (at + (20 + length value)) rest v.1 d m (omega arith),
  )
  inside (suc left) depth top at (group label within rest) v d m h =
      all_of_both (Within top) (leaves (suc depth) (λ _. top) (at + 20) within) (leaves depth (λ _. top) (at + (20 + length (encode within))) rest)
      (inside left (suc depth) top (at + 20) within v.1 (omega arith) (omega arith) (omega arith))
      (inside (suc left) depth top (at + (20 + length (encode within))) rest v.2 d m (omega arith))

  outside : (left at : ℕ) (F : Forest) → Valid versions (suc left) F → left ≤ 7 → All WellAddressed (leaves 1 (λ p. p) at F)
  outside left at done v m = tt
  outside left at (leaf label value rest) v m = (
    record { shallowest = omega arith; deepest = omega arith; around = omega arith; itself = ((λ e. refl), (λ e. refl)) },
    outside left (at + (20 + length value)) rest v.1 m,
  )
  outside left at (group label within rest) v m =
      all_of_both WellAddressed (leaves 2 (λ _. at) (at + 20) within) (leaves 1 (λ p. p) (at + (20 + length (encode within))) rest)
      (all_so (Within at) WellAddressed (well_within at) (leaves 2 (λ _. at) (at + 20) within)
      (inside left 2 at (at + 20) within v.1 (omega arith) (omega arith) (omega arith)))
      (outside left (at + (20 + length (encode within))) rest v.2 m)

  -- the theorem: every row of an accepted file
  pub rows_are_well_addressed : (f : List ℕ) (rows : List Row) → rows_of_file versions f ≡ answer rows → (k : ℕ) (r : Row) → nth rows k ≡ answer r → WellAddressed r
  rows_are_well_addressed f rows e k r is =
      let (small, (F, d)) = (accepted_exactly versions f rows).0 e in
      all_nth WellAddressed rows k r (subst (All WellAddressed) d.rows_are (outside 7 0 F d.valid (omega arith))) is

-- The forward walk one label at a time, and going on from a leaf that was found. Everything about walks is proved from the
-- laws of one step and from `walk_passed`.
use Prim.Native.Nat.{ℕ, zero, suc, ◌+◌, ◌-◌, ◌≤◌, ◌<◌}
use native.Mathlib.Nat.{add-zero, not-suc-le-zero}
use native.Mathlib.Omega.{arith}
use mathlib.Core.Path.{◌≡◌, refl, ◌∙◌, sym, ap, ap₂, subst}
use mathlib.Core.Bool.{Bool, true, false}
use mathlib.Core.List.{List, [], ◌∷◌}
use Rattle.std.specs.Prelude.{None, Some}
use lib.ListN.{length, drop}
use lib.Dec.{leb}
use borrow.Author.Tests.{le-leb, lt-leb, leb-true}
use Rattle.answer.specs.Outcome.{answer, refuse}
use Rattle.answer.proofs.Outcomes.{first_answered, passed, answer_injective}
use Rattle.label.specs.declared.Versions.{Versions}
use Rattle.label.specs.declared.Label.{Label}
use Rattle.label.specs.Label.{read_label}
use Rattle.label.specs.Opened.{is_opened}
use Rattle.label.proofs.Reading.{read_has_20_bytes}
use Rattle.walk.specs.Walk.{take_label, step_at, walk}
use Rattle.sfdu.proofs.Steps.{one_more}

took_leaf : (t : Bool) (m : Label) (after : ℕ) (l : Label) → take_label t m after ≡ answer (Some l) → (t ≡ false) × (m ≡ l) × (m.length ≤ after)
took_leaf true m after l e = absurd (let z : ◌≡◌ {A = ℕ} 0 1 = cc (answer_injective e) in omega arith)
took_leaf false m after l e =
    let (h, is) = passed 0 (leb m.length after) 4 (answer (Some m)) (Some l) e in (refl, some_injective (answer_injective is), leb-true _ _ h)
  where
    some_injective : {a b : Label} → Some a ≡ Some b → a ≡ b
    some_injective q = cc

-- which versions of the label are allowed
module _ (versions : Versions) where
  -- ---- one step

  pub step_not_read : (s : List ℕ) (n p : ℕ) → read_label versions s ≡ refuse n p → step_at versions s ≡ refuse n p
  unfolding step_at
  step_not_read s n p e = rw e

  module _ (s : List ℕ) (l : Label) (e : read_label versions s ≡ answer l) where
    pub step_opened : is_opened l.class ≡ true → step_at versions s ≡ answer None
    unfolding step_at
    step_opened o = rw e (ap (λ (t : Bool). take_label t l (length s - 20)) o)

    module _ (o : is_opened l.class ≡ false) where
      pub step_too_long : length s - 20 < l.length → step_at versions s ≡ refuse 4 0
      unfolding step_at
      step_too_long h = rw e (ap (λ (t : Bool). take_label t l (length s - 20)) o ∙ rw (lt-leb l.length (length s - 20) h))

      pub step_leaf : l.length ≤ length s - 20 → step_at versions s ≡ answer (Some l)
      unfolding step_at
      step_leaf h = rw e (ap (λ (t : Bool). take_label t l (length s - 20)) o ∙ rw (le-leb l.length (length s - 20) h))

  -- what a step says of the bytes it was taken at
  pub record LeafStep (s : List ℕ) (l : Label) : Type 0 where
    pub reads : read_label versions s ≡ answer l
    pub long : 20 ≤ length s
    pub fits : l.length ≤ length s - 20
    pub closed : is_opened l.class ≡ false

  pub step_is_a_leaf : (s : List ℕ) (l : Label) → step_at versions s ≡ answer (Some l) → LeafStep s l
  unfolding step_at
  step_is_a_leaf s l e =
      let (m, reads, took) = first_answered (read_label versions s) (λ k. take_label (is_opened k.class) k (length s - 20)) (Some l) e in
      let (closed, same, fits) = took_leaf (is_opened m.class) m (length s - 20) l took in
      record {
        reads = reads ∙ ap answer same;
        long = read_has_20_bytes versions s m reads;
        fits = subst (λ (k : Label). k.length ≤ length s - 20) same fits;
        closed = subst (λ (k : Label). is_opened k.class ≡ false) same closed;
      }

  pub opened_has_20_bytes : (s : List ℕ) → step_at versions s ≡ answer None → 20 ≤ length s
  unfolding step_at
  opened_has_20_bytes s e =
      let (m, reads, took) = first_answered (read_label versions s) (λ k. take_label (is_opened k.class) k (length s - 20)) None e in
      read_has_20_bytes versions s m reads

  -- ---- the walk

  pub walk_ends : (at k passed : ℕ) → walk versions at k passed [] ≡ refuse 6 0
  unfolding walk
  walk_ends at k passed = refl

  -- bytes that are passed are dropped
  pub walk_passed : (at k n : ℕ) (s : List ℕ) → walk versions at k n s ≡ walk versions (at + n) k 0 (drop n s)
  unfolding walk
  walk_passed at k zero s = ap (λ (p : ℕ). walk versions p k 0 s) (sym (add-zero at))
  walk_passed at k (suc n) [] = refl
  walk_passed at k (suc n) (b ∷ bs) = walk_passed (suc at) k n bs ∙ ap (λ (p : ℕ). walk versions p k 0 (drop n bs)) {x = suc at + n} {y = at + suc n} (omega arith)

  module _ (at : ℕ) where
    pub walk_faulty : (s : List ℕ) → 0 < length s → (k n p : ℕ) → step_at versions s ≡ refuse n p → walk versions at k 0 s ≡ refuse n at
    unfolding walk
    walk_faulty [] h k n p e = absurd (not-suc-le-zero h)
    walk_faulty (b ∷ bs) h k n p e = rw e

    -- over an opened label by 20 bytes
    pub walk_opened : (s : List ℕ) → 0 < length s → (k : ℕ) → step_at versions s ≡ answer None → walk versions at k 0 s ≡ walk versions (at + 20) k 0 (drop 20 s)
    unfolding walk
    walk_opened [] h k e = absurd (not-suc-le-zero h)
    walk_opened (b ∷ bs) h k e = rw e (walk_passed (suc at) k 19 bs ∙ ap (λ (p : ℕ). walk versions p k 0 (drop 19 bs)) {x = suc at + 19} {y = at + 20} (omega arith))

    -- no leaf to pass: this is the one
    pub walk_arrives : (s : List ℕ) → 0 < length s → (l : Label) → step_at versions s ≡ answer (Some l) → walk versions at 0 0 s ≡ answer (record { place = at; label = l })
    unfolding walk
    walk_arrives [] h l e = absurd (not-suc-le-zero h)
    walk_arrives (b ∷ bs) h l e = rw e

    -- over a leaf by 20 plus its length
    pub walk_leaf : (s : List ℕ) → 0 < length s → (k : ℕ) (l : Label) → step_at versions s ≡ answer (Some l)
        → walk versions at (suc k) 0 s ≡ walk versions (at + (20 + l.length)) k 0 (drop (20 + l.length) s)
    unfolding walk
    walk_leaf [] h k l e = absurd (not-suc-le-zero h)
    walk_leaf (b ∷ bs) h k l e =
        rw e
        (walk_passed (suc at) k (19 + l.length) bs
        ∙ ap₂ (λ (p : ℕ) (t : List ℕ). walk versions p k 0 t) {x = suc at + (19 + l.length)} {y = at + (20 + l.length)} (omega arith)
        (ap (λ (n : ℕ). drop n (b ∷ bs)) (one_more l.length)))

-- The tone curve, over the whole of the code's table: a test is computed once for its 256 entries, that each is as the rule says and not below the one
-- before it; what the test says of an entry is its rule and its order.
use Prim.Native.Nat.{ℕ, zero, suc, ◌+◌, ◌-◌, ◌*◌, ◌≤◌, ◌<◌}
use native.Mathlib.Nat.{le_of_eq, le_trans}
use native.Mathlib.Omega.{arith}
use mathlib.Core.Path.{◌≡◌, refl, sym, ap, subst, subst₂, ◌∙◌}
use mathlib.Core.Bool.{Bool, true, ◌&&◌}
use lib.ListN.{get_or}
use lib.Dec.{leb, ltb}
use borrow.Author.Tests.{leb-true, ltb-true}
use Rattle.answer.proofs.Tests.{both_hold}
use Rattle.dots.specs.declared.TheConstants.{TONES}
use Rattle.dots.specs.Tone.{tone, IsTone, ToneCurve}
use Rattle.dots.proofs.Tables.{all_below, below}
use Rattle.dots.proofs.Squares.{only_one_tone}

-- what is tested of entry i
as_rule : ℕ → Bool
as_rule i = let t = get_or TONES i 0 in leb (t * t) (255 * i) && ltb (255 * i) ((t + 1) * (t + 1))

in_order : ℕ → Bool
in_order i = leb (get_or TONES (i - 1) 0) (get_or TONES i 0)

tested : all_below 256 (λ i. as_rule i && in_order i) ≡ true
unfolding as_rule in_order
tested = refl

module _ (i : ℕ) (h : i < 256) where
  both_tested : (as_rule i ≡ true) × (in_order i ≡ true)
  both_tested = both_hold (as_rule i) (in_order i) (below (λ k. as_rule k && in_order k) 256 tested i h)

  entry_is_tone : IsTone i (get_or TONES i 0)
  unfolding as_rule
  entry_is_tone =
      let t = get_or TONES i 0 in
      let q = both_hold (leb (t * t) (255 * i)) (ltb (255 * i) ((t + 1) * (t + 1))) both_tested.0 in
      record { reached = leb-true (t * t) (255 * i) q.0; largest = ltb-true (255 * i) ((t + 1) * (t + 1)) q.1 }

  pub entry_is : tone i ≡ get_or TONES i 0
  entry_is = only_one_tone i (get_or TONES i 0) h entry_is_tone

  not_below_previous : get_or TONES (i - 1) 0 ≤ get_or TONES i 0
  unfolding in_order
  not_below_previous = leb-true (get_or TONES (i - 1) 0) (get_or TONES i 0) both_tested.1

-- each entry is no larger than those behind it
later_not_below : (i k : ℕ) → i + k < 256 → get_or TONES i 0 ≤ get_or TONES (i + k) 0
later_not_below i zero h = le_of_eq (ap (λ (m : ℕ). get_or TONES m 0) {x = i} {y = i + 0} (omega arith))
later_not_below i (suc k) h =
    le_trans (later_not_below i k (omega arith))
    (le_trans (le_of_eq (ap (λ (m : ℕ). get_or TONES m 0) {x = i + k} {y = i + suc k - 1} (omega arith))) (not_below_previous (i + suc k) h))

-- the lightest tone
pub tone_of_255 : tone 255 ≡ 255
tone_of_255 = entry_is 255 (omega arith)

-- the theorem
pub tone_curve : ToneCurve
tone_curve = record {
  rule = λ i h. subst (IsTone i) (sym (entry_is i h)) (entry_is_tone i h);
  never_falls = λ i j h k.
      subst₂ ◌≤◌ (sym (entry_is i (omega arith))) (ap (λ (m : ℕ). get_or TONES m 0) {x = i + (j - i)} {y = j} (omega arith) ∙ sym (entry_is j k))
      (later_not_below i (j - i) (omega arith));
  of_1 = entry_is 1 (omega arith);
  of_64 = entry_is 64 (omega arith);
}

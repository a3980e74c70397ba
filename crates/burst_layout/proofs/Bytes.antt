-- Each byte of a row lies in exactly one field: fields that stand end to end leave no gap and do not overlap.
use Prim.Native.Nat.{ℕ, zero, suc, ◌+◌, ◌≤◌, ◌<◌}
use native.Mathlib.Omega.{arith}
use mathlib.Core.Path.{◌≡◌, refl, sym, ap, ◌∙◌}
use mathlib.Core.Bool.{Bool, true, false}
use mathlib.Core.List.{List, [], ◌∷◌}
use lib.Dec.{ltb}
use borrow.Author.Tests.{ltb-true, ltb-false}
use Rattle.answer.specs.Outcome.{Outcome, answer}
use Rattle.answer.proofs.Outcomes.{answer_is_no_refusal, answer_injective}
use Rattle.burst_layout.specs.declared.Field.{Field}
use Rattle.burst_layout.specs.Layout.{layout, line_in, field_at}
use Rattle.bursts.specs.Rows.{record_size}
use Rattle.burst_layout.specs.Row.{EndToEnd, Within, OneField}
use Rattle.burst_layout.proofs.EndToEnd.{fields_stand_end_to_end, stands}

-- one number more in front, for which no field with that byte is answered
later : (fields more : ℕ → Outcome Field) (at : ℕ) → OneField fields at → ((f : Field) → more zero ≡ answer f → Within f at → ⊥)
    → ((n : ℕ) → more (suc n) ≡ fields n) → OneField more at
later fields more at o none same =
    record {
      number = suc o.number;
      it = o.it;
      is_answered = same o.number ∙ o.is_answered;
      has_the_byte = o.has_the_byte;
      alone = alone;
    }
  where
    alone : (n : ℕ) (f : Field) → more n ≡ answer f → Within f at → n ≡ suc o.number
    alone zero f q w = absurd (none f q w)
    alone (suc n) f q w = ap suc (o.alone n f (sym (same n) ∙ q) w)

-- by a test of whether the byte lies before the end of the first field: there, or in one of the rest
one_more : (n from : ℕ) (f : Field) (fs : List Field) → EndToEnd n from (f ∷ fs) → (at : ℕ) → from ≤ at → (test : Bool) → ltb at (from + f.size) ≡ test
    → (from + f.size ≤ at → OneField (line_in fs) at) → OneField (line_in (f ∷ fs)) at
one_more n from f fs e at l true t rest =
    record {
      number = 0;
      it = f;
      is_answered = refl;
      has_the_byte = record { from = omega arith; to = omega (arith, ltb-true at (from + f.size) t) };
      alone = alone;
    }
  where
    alone : (k : ℕ) (g : Field) → line_in (f ∷ fs) k ≡ answer g → Within g at → k ≡ 0
    alone zero g q w = refl
    alone (suc k) g q w =
        let it = stands (n + 1) (from + f.size) fs e.3 k g q in
        absurd (omega (arith, ltb-true at (from + f.size) t))
one_more n from f fs e at l false t rest =
    later (line_in fs) (line_in (f ∷ fs)) at (rest (ltb-false at (from + f.size) t)) not_the_first (λ k. refl)
  where
    not_the_first : (g : Field) → answer f ≡ answer g → Within g at → ⊥
    not_the_first g q w = omega (arith, ltb-false at (from + f.size) t, ap (λ x. x.place) (answer_injective q), ap (λ x. x.size) (answer_injective q))

one_of : (n from : ℕ) (fs : List Field) → EndToEnd n from fs → (at : ℕ) → from ≤ at → at < record_size → OneField (line_in fs) at
one_of n from [] e at l h = absurd (omega arith)
one_of n from (f ∷ fs) e at l h =
    one_more n from f fs e at l (ltb at (from + f.size)) refl (λ b. one_of (n + 1) (from + f.size) fs e.3 at b h)

pub each_byte_is_in_one_field : (at : ℕ) → at < record_size → OneField field_at at
each_byte_is_in_one_field at h =
    later (line_in layout) field_at at (one_of 1 0 layout fields_stand_end_to_end at (omega arith) h) (λ f q w. absurd (answer_is_no_refusal (sym q))) (λ k. refl)

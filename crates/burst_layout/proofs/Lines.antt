-- The list of fields, read by an index: what stands at a place of it, and what is the same of every line.
use Rattle.std.proofs.Common.{◌≡◌, ℕ, zero, suc, ◌+◌, ◌<◌, ◌≤◌, Bor, List, [], ◌∷◌, length, get_or, map, Option, Some, None, refl, sym, ap, ◌∙◌, arith}
use Rattle.std.specs.List.{HoldsAt}
use Rattle.std.specs.Option.{MatchOption, ok_or, option_copied}
use Rattle.answer.specs.Told.{told}
use Rattle.answer.specs.declared.Refusal.TheVariants.{Unknown}
use Rattle.answer.specs.Outcome.{answer, refuse}
use Rattle.answer.proofs.Outcomes.{answer_injective, answer_is_no_refusal}
use Rattle.burst_layout.specs.declared.Field.{Field}
use Rattle.burst_layout.specs.Layout.{layout, line_in, field_at}

-- what a look-up in a list says, as the line that the list has there
pub read_or_refused : (fs : List Field) (i : ℕ) (r : Option (Bor Field)) → MatchOption r (length fs ≤ i) (λ x. (i < length fs) × HoldsAt (λ y. x.now ≡ y) fs i)
    → told (ok_or (option_copied r) (Unknown, 0)) ≡ line_in fs i
read_or_refused fs i (Some x) there = line_there fs i x.now there.0 (there.1 x.now)
  where
    line_there : (fs : List Field) (i : ℕ) (f : Field) → i < length fs → f ≡ get_or fs i f → answer f ≡ line_in fs i
    line_there [] i f h e = absurd (omega arith)
    line_there (g ∷ fs) zero f h e = ap answer e
    line_there (g ∷ fs) (suc i) f h e = line_there fs i f (omega arith) e
read_or_refused fs i None past = none_there fs i past
  where
    none_there : (fs : List Field) (i : ℕ) → length fs ≤ i → refuse 10 0 ≡ line_in fs i
    none_there [] i h = refl
    none_there (g ∷ fs) zero h = absurd (omega arith)
    none_there (g ∷ fs) (suc i) h = none_there fs i (omega arith)

-- a position is the place of its line, counted from 1
pub field_at_place : (n i : ℕ) → n ≡ i + 1 → line_in layout i ≡ field_at n
field_at_place zero i e = absurd (omega arith)
field_at_place (suc n) i e = ap (line_in layout) (omega arith)

-- what is the same of every line is the same of each
pub of_each : {A : Type 0} (p q : Field → A) (fs : List Field) → map p fs ≡ map q fs → (i : ℕ) (f : Field) → line_in fs i ≡ answer f → p f ≡ q f
of_each p q [] e i f h = absurd (answer_is_no_refusal (sym h))
of_each p q (g ∷ fs) e zero f h = ap p (sym (answer_injective h)) ∙ cc (e) ∙ ap q (answer_injective h)
of_each p q (g ∷ fs) e (suc i) f h = of_each p q fs (cc) i f h

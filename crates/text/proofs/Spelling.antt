-- What a numeral's loop keeps: the digits written so far, from `first` on, are the end of the text, and those of `rest`
-- stand before them. Nothing is left to write when `rest` is 0.
use Prim.Native.Nat.{ℕ, zero, suc, ◌+◌, ◌-◌, ◌/◌, ◌%◌, ◌^◌, ◌<◌}
use native.Mathlib.Nat.{pow-zero, pow-suc}
use native.Mathlib.Omega.{arith}
use mathlib.Core.Path.{◌≡◌, ◌∙◌, sym, ap, subst}
use mathlib.Core.List.{List, [], ◌∷◌, ◌++◌, append_assoc}
use lib.ListN.{length, set, drop, length-set, drop_of_length-le}
use Rattle.text.specs.Digits.{digits_of}
use Rattle.text.specs.Decimal.{unpadded, decimal_text}
use Rattle.text.proofs.Unpadded.{no_digits_of_nought, tens_then_last, set_in_front}

pub record Spelling (n : ℕ) (digits : List ℕ) (first rest : ℕ) : Type 0 where
  pub twenty : length digits ≡ 20
  pub within : first < 20
  pub small : rest < 10 ^ first
  pub text : decimal_text n ≡ unpadded (digits_of first rest) ++ drop first digits

pub last_digit_first : (n : ℕ) (digits : List ℕ) → n < 2 ^ 64 → length digits ≡ 20 → Spelling n (set digits 19 (48 + n % 10)) 19 (n / 10)
unfolding decimal_text
last_digit_first n digits h twenty = record {
  twenty = length-set digits 19 (48 + n % 10) ∙ twenty;
  within = omega arith;
  small = omega arith;
  text =
      ap (λ (xs : List ℕ). unpadded (digits_of 19 (n / 10)) ++ xs)
      (sym (set_in_front digits 19 (48 + n % 10) (omega arith) ∙ ap (λ (xs : List ℕ). (48 + n % 10) ∷ xs) (drop_of_length-le digits {i = 20} (omega arith))));
}

module _ (n : ℕ) (digits : List ℕ) where
  pub nothing_left : (first rest : ℕ) → Spelling n digits first rest → rest ≡ 0 → drop first digits ≡ decimal_text n
  nothing_left first rest s e =
      sym (s.text ∙ ap (λ (xs : List ℕ). xs ++ drop first digits) (ap (λ (m : ℕ). unpadded (digits_of first m)) e ∙ no_digits_of_nought first))

  -- one digit more, before those that are written
  before_those : (f rest : ℕ) → Spelling n digits (suc f) rest → 0 < rest → Spelling n (set digits f (48 + rest % 10)) f (rest / 10)
  before_those f rest s h =
      let b = 48 + rest % 10 in
      record {
        twenty = length-set digits f b ∙ s.twenty;
        within = omega (arith, s.within);
        small = omega (arith, s.small, pow-suc 10 f);
        text =
            s.text
            ∙ ap (λ (xs : List ℕ). xs ++ drop (suc f) digits) (tens_then_last f rest h s.small)
            ∙ append_assoc (unpadded (digits_of f (rest / 10))) (b ∷ []) (drop (suc f) digits)
            ∙ ap (λ (xs : List ℕ). unpadded (digits_of f (rest / 10)) ++ xs) (sym (set_in_front digits f b (omega (arith, s.within, s.twenty))));
      }

  module _ (first rest : ℕ) (s : Spelling n digits first rest) (more : 0 < rest) where
    pub room_in_front : 0 < first
    room_in_front = room first s.small
      where
        room : (k : ℕ) → rest < 10 ^ k → 0 < k
        room zero h = omega (arith, pow-zero 10)
        room (suc k) h = omega arith

    pub digit_in_front : Spelling n (set digits (first - 1) (48 + rest % 10)) (first - 1) (rest / 10)
    digit_in_front =
        let one_less : first ≡ suc (first - 1) = omega (arith, room_in_front) in
        before_those (first - 1) rest (subst (λ (k : ℕ). Spelling n digits k rest) one_less s) more

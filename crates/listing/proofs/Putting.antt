-- Two texts put one after the other into lent memory are one text put.
use Prim.Native.Nat.{ℕ, ◌+◌, ◌≤◌}
use native.Mathlib.Omega.{arith}
use mathlib.Core.Path.{◌≡◌, ◌∙◌, sym, ap, ap₂}
use mathlib.Core.List.{List, ◌++◌, append_assoc}
use lib.ListN.{length, take, drop, length-append}
use lib.Seq.{take_at, drop_at, length-take-le, drop-drop}
use Rattle.listing.specs.Private.{Puts}

module _ {at end last : ℕ} {s t old mid new : List ℕ} (h : at ≤ length old) (p : Puts at s old end mid) (q : Puts end t mid last new) where
  front_length : length (take at old ++ s) ≡ end
  front_length = length-append (take at old) s ∙ ap (λ (k : ℕ). k + length s) (length-take-le at old h) ∙ sym p.ends

  between_is : mid ≡ (take at old ++ s) ++ drop end old
  between_is = p.leaves ∙ sym (append_assoc (take at old) s (drop end old))

  rest_as_before : drop last mid ≡ drop last old
  rest_as_before =
      ap (λ (k : ℕ). drop k mid) q.ends
      ∙ sym (drop-drop (length t) end mid)
      ∙ ap (drop (length t)) (ap (drop end) between_is ∙ drop_at (take at old ++ s) (drop end old) end front_length)
      ∙ drop-drop (length t) end old
      ∙ ap (λ (k : ℕ). drop k old) (sym q.ends)

  pub puts_on : Puts at (s ++ t) old last new
  puts_on = record {
    ends = omega (arith, p.ends, q.ends, length-append s t);
    leaves =
        q.leaves
        ∙ ap₂ (λ (a b : List ℕ). a ++ (t ++ b)) (ap (take end) between_is ∙ take_at (take at old ++ s) (drop end old) end front_length) rest_as_before
        ∙ simp append_assoc;
  }

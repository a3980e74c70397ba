-- Windows that fit: what they say of their numbers, and that a window of a row is a part of the row's bytes.
use Prim.Native.Nat.{ℕ, zero, suc, ◌+◌, ◌-◌, ◌≤◌}
use native.Mathlib.Omega.{arith}
use mathlib.Core.Path.{◌≡◌, refl, ◌∙◌, sym, ap}
use mathlib.Core.Bool.{Bool, true, false, ◌&&◌}
use mathlib.Core.List.{List, [], ◌∷◌}
use lib.ListN.{take, drop}
use lib.Seq.{take-take, drop-drop}
use lib.Dec.{leb}
use borrow.Author.Tests.{leb-true}
use Rattle.answer.proofs.Outcomes.{answer_injective, answer_is_no_refusal}
use Rattle.answer.specs.Outcome.{Outcome, answer, refuse, need, and_then, mapped}
use Rattle.answer.specs.Address.{without_depth}
use Rattle.answer.specs.Window.{fits, window_at, window_in, bytes_at}
use Rattle.answer.specs.declared.Shown.{Shown}

-- the window begins in the row or at its end, and ends in it
pub record Inside (r a c : ℕ) : Type 0 where
  pub begins : a ≤ r
  pub ends : c ≤ r - a

pub fitting_is_inside : (r a c : ℕ) → fits r a c ≡ true → Inside r a c
fitting_is_inside r a c e = go (leb a r) (leb c (r - a)) refl refl e
  where
    go : (p q : Bool) → leb a r ≡ p → leb c (r - a) ≡ q → (p && q) ≡ true → Inside r a c
    go true true x y z = record { begins = leb-true a r x; ends = leb-true c (r - a) y }
    go true false x y z = let w : ◌≡◌ {A = ℕ} 0 1 = cc z in absurd (omega arith)
    go false q x y z = let w : ◌≡◌ {A = ℕ} 0 1 = cc z in absurd (omega arith)

-- a window that is shown: it fits, it is the part that was asked for, and it has the row's address
pub record Shows (row : Shown) (a c : ℕ) (window : Shown) : Type 0 where
  pub inside : Inside row.part.count a c
  pub place : window.part.place ≡ row.part.place + a
  pub count : window.part.count ≡ c
  pub address : window.address ≡ row.address

pub shown_is_inside : (row : Shown) (a c : ℕ) (window : Shown) → window_in a c row ≡ answer window → Shows row a c window
shown_is_inside row a c window e = go (fits row.part.count a c) refl e
  where
    go : (b : Bool) → fits row.part.count a c ≡ b → need b 7 (answer (window_at a c row)) ≡ answer window → Shows row a c window
    go true t q =
        let p : window_at a c row ≡ window = answer_injective q in
        record {
          inside = fitting_is_inside row.part.count a c t;
          place = sym (ap (λ (x : Shown). x.part.place) p);
          count = sym (ap (λ (x : Shown). x.part.count) p);
          address = sym (ap (λ (x : Shown). x.address) p);
        }
    go false t q = absurd (answer_is_no_refusal (sym q))

-- a window of a row without its depth is the row's window without it
pub window_without_depth : (a c : ℕ) (o : Outcome Shown) → and_then (mapped without_depth o) (window_in a c) ≡ mapped without_depth (and_then o (window_in a c))
window_without_depth a c (answer row) = go (fits row.part.count a c)
  where
    go : (t : Bool) → need t 7 (answer (without_depth (window_at a c row))) ≡ mapped without_depth (need t 7 (answer (window_at a c row)))
    go true = refl
    go false = refl
window_without_depth a c (refuse n p) = refl

-- bytes from a on, within the first r, are bytes of those r
within_the_first : (a c r : ℕ) (l : List ℕ) → a ≤ r → c ≤ r - a → take c (drop a (take r l)) ≡ take c (drop a l)
within_the_first zero c r l h g = take-take c r l (omega arith)
within_the_first (suc a) c zero l h g = absurd (omega arith)
within_the_first (suc a) c (suc r) [] h g = refl
within_the_first (suc a) c (suc r) (b ∷ bs) h g = within_the_first a c r bs (omega arith) (omega arith)

-- the window's bytes in the file are the window's bytes in the row
pub window_of_the_row : (f : List ℕ) (first r a c : ℕ) → Inside r a c
    → bytes_at f (first + a) c ≡ bytes_at (bytes_at f first r) a c
window_of_the_row f first r a c w =
    ap (take c) (sym (drop-drop a first f)) ∙ sym (within_the_first a c r (drop first f) w.begins w.ends)

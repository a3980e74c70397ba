-- `label::has_agency` meets its contract: four characters are these where the numbers that they make are the same.
use Prim.Native.Nat.{ℕ, ◌<◌}
use native.Mathlib.Omega.{arith}
use mathlib.Core.Path.{◌≡◌, refl, ◌∙◌, sym, ap, ap₂}
use mathlib.Core.Bool.{Bool, true, false, ◌&&◌, ◌||◌}
use mathlib.Core.List.{[], ◌∷◌}
use lib.ListN.{get_or}
use lib.Dec.{eqb}
use borrow.Author.Tests.{eq-eqb, ne_eqb, eqb-true}
use Rattle.std.specs.Int.{w32, from_le_bytes}
use Rattle.answer.proofs.Tests.{both_hold, hold_together}
use Rattle.label.specs.Head.{spells}
use Rattle.label.proofs.has_agency.Goals as goal

module _ (w x y z : ℕ) (byte_w : w < 256) (byte_x : x < 256) (byte_y : y < 256) (byte_z : z < 256)
    (a b c d : ℕ) (byte_a : a < 256) (byte_b : b < 256) (byte_c : c < 256) (byte_d : d < 256) where
  same : from_le_bytes w32 (w ∷ x ∷ y ∷ z ∷ []) ≡ from_le_bytes w32 (a ∷ b ∷ c ∷ d ∷ []) → spells (w ∷ x ∷ y ∷ z ∷ []) a b c d ≡ true
  same e =
      hold_together (hold_together (eq-eqb w a (omega (arith, e))) (eq-eqb x b (omega (arith, e))))
      (hold_together (eq-eqb y c (omega (arith, e))) (eq-eqb z d (omega (arith, e))))

  compared : (n m : ℕ) → n ≡ from_le_bytes w32 (w ∷ x ∷ y ∷ z ∷ []) → m ≡ from_le_bytes w32 (a ∷ b ∷ c ∷ d ∷ [])
      → eqb n m ≡ spells (w ∷ x ∷ y ∷ z ∷ []) a b c d
  compared n m one other = cases (spells (w ∷ x ∷ y ∷ z ∷ []) a b c d) refl
    where
      cases : (t : Bool) → spells (w ∷ x ∷ y ∷ z ∷ []) a b c d ≡ t → eqb n m ≡ t
      cases true e =
          let (ab, cd) = both_hold (eqb w a && eqb x b) (eqb y c && eqb z d) e in
          let (is-a, is_b) = both_hold (eqb w a) (eqb x b) ab in
          let (is_c, is-d) = both_hold (eqb y c) (eqb z d) cd in
          eq-eqb n m (omega (arith, one, other, eqb-true w a is-a, eqb-true x b is_b, eqb-true y c is_c, eqb-true z d is-d))
      cases false e = ne_eqb n m (λ h. let z : ◌≡◌ {A = ℕ} 0 1 = cc (sym (same (sym one ∙ h ∙ other)) ∙ e) in omega arith)

pub returns : goal.returns
returns c =
    let s = c.args.s.now in
    let w : get_or s 0 0 < 256 = omega (arith, c.type_inv.s 0) in
    let x : get_or s 1 0 < 256 = omega (arith, c.type_inv.s 1) in
    let y : get_or s 2 0 < 256 = omega (arith, c.type_inv.s 2) in
    let z : get_or s 3 0 < 256 = omega (arith, c.type_inv.s 3) in
    let n = c.from_le_bytes-n.ensures ∙ ap (from_le_bytes w32) c.four_at.ensures in
    ap₂ ◌||◌
    (compared _ _ _ _ w x y z 78 74 80 76 (omega arith) (omega arith) (omega arith) (omega arith) _ _ n c.from_le_bytes.ensures)
    (compared _ _ _ _ w x y z 67 67 83 68 (omega arith) (omega arith) (omega arith) (omega arith) _ _ n c.from_le_bytes-2.ensures)

-- Floats of one sign have patterns of bits in the order of their sizes. So of two floats whose patterns follow one another no float's size
-- is in between.
use Prim.Native.Nat.{ℕ, suc, ◌+◌, ◌-◌, ◌*◌, ◌/◌, ◌^◌, ◌≤◌, ◌<◌}
use native.Mathlib.Nat.{le_of_eq, le_of_lt, lt_of_le_of_lt, eq-or-lt_of_le, add_assoc, mul_assoc, mul_right_comm, mul-le-mul_right, le_of_mul-le-mul_right, lt_of_mul-lt-mul_right, mul-lt-mul_of_pos_right, mul-div_cancel, pow-succ', suc-mul}
use native.Mathlib.Omega.{arith}
use mathlib.Core.Path.{◌≡◌, ◌∙◌, sym, ap, subst}
use mathlib.Core.Bool.{Bool, true, false, not, cond}
use mathlib.Core.Logic.{inl, inr}
use lib.Dec.{T, ltb, ltb→lt, nltb→le}
use lib.Pow.{pow-add, pow_pos, shl_lt}
use lib.Ieee.{Float, nan, inf, fin, Format, prec, low, hid, top, size, fits, to_bits}
use lib.Ieee.Digits.{size-lt, size-le, size_reaches}
use lib.Ieee.Fits.{two, two-le_pos, kept-lt}
use lib.Ieee.Scale.{finite}
use lib.Ieee.Positive.{num, den, den_pos}
use Rattle.rounding.specs.Nearest.{sign_in, NextToZero}
use Rattle.rounding.proofs.Floats.{Units, in_units}
use Rattle.rounding.proofs.Patterns.{bits_in_units}

-- ---- the pattern below the sign, of n units
abbrev below : ℕ → ℕ → ℕ
below p n = (size n - p) * 2 ^ (p - 1) + n / 2 ^ (size n - p)

-- a number whose dropped digits are all 0
abbrev Whole : ℕ → ℕ → Type 0
Whole p n = n / 2 ^ (size n - p) * 2 ^ (size n - p) ≡ n

whole : (p m j : ℕ) → m < 2 ^ p → Whole p (m * 2 ^ j)
whole p m j h =
    let n = m * 2 ^ j in
    let k = size n - p in
    let less : k ≤ j = spare (size n) (size-le n (p + j) (shl_lt p j h)) in
    let e : j - k + k ≡ j = back k less in
    let is : m * 2 ^ (j - k) * 2 ^ k ≡ n = mul_assoc m (2 ^ (j - k)) (2 ^ k) ∙ ap (λ (x : ℕ). m * x) (sym (pow-add 2 (j - k) k) ∙ ap (λ (x : ℕ). 2 ^ x) e) in
    ap (λ (x : ℕ). x / 2 ^ k * 2 ^ k) (sym is) ∙ ap (λ (x : ℕ). x * 2 ^ k) (mul-div_cancel (m * 2 ^ (j - k)) (pow_pos k)) ∙ is
  where
    spare : (z : ℕ) → z ≤ p + j → z - p ≤ j
    spare z a = omega arith

    back : (k : ℕ) → k ≤ j → j - k + k ≡ j
    back k a = omega arith

-- a·2^k and b·2^l of p digits each, or fewer where none is dropped: the smaller has the smaller pattern
order : (p a b k l : ℕ) → 0 < p → k ≤ l → a < 2 ^ p → (0 < l → 2 ^ (p - 1) ≤ b) → a * 2 ^ k < b * 2 ^ l → k * 2 ^ (p - 1) + a < l * 2 ^ (p - 1) + b
order p a b k l P kl short full less = elim (eq-or-lt_of_le kl) [
  | inl e ↦
      let same : a < b = lt_of_mul-lt-mul_right (2 ^ k) (subst (λ (x : ℕ). a * 2 ^ k < b * 2 ^ x) (sym e) less) in
      let fields : k * 2 ^ (p - 1) ≡ l * 2 ^ (p - 1) = ap (λ (x : ℕ). x * 2 ^ (p - 1)) e in
      omega arith
  | inr h ↦
      let twice : 2 ^ p ≡ 2 * 2 ^ (p - 1) = ap (λ (x : ℕ). 2 ^ x) up_one ∙ pow-succ' 2 (p - 1) in
      let field : suc k * 2 ^ (p - 1) ≤ l * 2 ^ (p - 1) = mul-le-mul_right (2 ^ (p - 1)) h in
      let next : suc k * 2 ^ (p - 1) ≡ k * 2 ^ (p - 1) + 2 ^ (p - 1) = suc-mul k (2 ^ (p - 1)) in
      let digits : 2 ^ (p - 1) ≤ b = full (some h) in
      omega arith
]
  where
    up_one : p ≡ suc (p - 1)
    up_one = omega arith

    some : k < l → 0 < l
    some h = omega arith

below_lt : (p m n : ℕ) → 0 < p → Whole p m → Whole p n → m < n → below p m < below p n
below_lt p m n P wm wn h =
    order p (m / 2 ^ (size m - p)) (n / 2 ^ (size n - p)) (size m - p) (size n - p) P (fewer (size m) (size n) (size-le m (size n) (lt_of_le_of_lt (le_of_lt h) (size-lt n))))
    (kept-lt p m) full
    (subst (λ (x : ℕ). x < n / 2 ^ (size n - p) * 2 ^ (size n - p)) (sym wm) (subst (λ (x : ℕ). m < x) (sym wn) h))
  where
    fewer : (y z : ℕ) → y ≤ z → y - p ≤ z - p
    fewer y z a = omega arith

    all : (z : ℕ) → 0 < z - p → p - 1 + (z - p) < z
    all z a = omega arith

    full : 0 < size n - p → 2 ^ (p - 1) ≤ n / 2 ^ (size n - p)
    full a =
        le_of_mul-le-mul_right
        (subst (λ (x : ℕ). x ≤ n / 2 ^ (size n - p) * 2 ^ (size n - p)) (pow-add 2 (p - 1) (size n - p))
        (subst (λ (x : ℕ). 2 ^ (p - 1 + (size n - p)) ≤ x) (sym wn) (size_reaches n (p - 1 + (size n - p)) (all (size n) a))))
        (pow_pos (size n - p))

-- ---- floats
abbrev Bits : Format → Float → Type 0
Bits f x = (n : ℕ) × Units f x n × Whole (prec f) n × (to_bits f x ≡ cond (sign_in x) (top f) 0 + below (prec f) n)

bits_of : (f : Format) (x : Float) → T (finite x) → T (fits f x) → Bits f x
bits_of f nan h t = absurd h
bits_of f (inf s) h t = absurd h
bits_of f (fin s m e) h t =
    let w = in_units f (fin s m e) h t in
    let n = w.0 * 2 ^ w.1 in (
      n,
      w.3,
      whole (prec f) w.0 w.1 w.2,
      bits_in_units f s m e n w.3 ∙ add_assoc (cond s (top f) 0) ((size n - prec f) * hid f) (n / 2 ^ (size n - prec f)),
    )

module _ (f : Format) (x z : Float) (nx nz : ℕ) (ux : Units f x nx) (uz : Units f z nz) where
  left : num x * den z * 2 ^ low f ≡ nx * den x * den z
  left = mul_right_comm (num x) (den z) (2 ^ low f) ∙ ap (λ (y : ℕ). y * den z) ux

  right : num z * den x * 2 ^ low f ≡ nz * den x * den z
  right = mul_right_comm (num z) (den x) (2 ^ low f) ∙ ap (λ (y : ℕ). y * den x) uz ∙ mul_right_comm nz (den z) (den x)

  in_units_lt : num x * den z < num z * den x → nx < nz
  in_units_lt h =
      lt_of_mul-lt-mul_right (den x)
      (lt_of_mul-lt-mul_right (den z)
      (subst (λ (y : ℕ). y < nz * den x * den z) left
      (subst (λ (y : ℕ). num x * den z * 2 ^ low f < y) right (mul-lt-mul_of_pos_right h (pow_pos (low f))))))

  in_size_lt : nx < nz → num x * den z < num z * den x
  in_size_lt h =
      lt_of_mul-lt-mul_right (2 ^ low f)
      (subst (λ (y : ℕ). y < num z * den x * 2 ^ low f) (sym left)
      (subst (λ (y : ℕ). nx * den x * den z < y) (sym right) (mul-lt-mul_of_pos_right (mul-lt-mul_of_pos_right h (den_pos x)) (den_pos z))))

module _ (f : Format) (x y : Float) (bx : Bits f x) (by : Bits f y) (sign : sign_in x ≡ sign_in y) (next : to_bits f y ≡ suc (to_bits f x)) where
  positive : 0 < prec f
  positive = two-le_pos (prec f) (two f)

  step : below (prec f) by.0 ≡ suc (below (prec f) bx.0)
  step =
      cancel (cond (sign_in x) (top f) 0) (below (prec f) by.0) (below (prec f) bx.0)
      (ap (λ (s : Bool). cond s (top f) 0 + below (prec f) by.0) sign ∙ sym by.3 ∙ next ∙ ap suc bx.3)
    where
      cancel : (s a b : ℕ) → s + a ≡ suc (s + b) → a ≡ suc b
      cancel s a b e = omega arith

  ordered : (m n : ℕ) → Whole (prec f) m → Whole (prec f) n → m < n → below (prec f) m < below (prec f) n
  ordered m n wm wn h = below_lt (prec f) m n positive wm wn h

  smaller : bx.0 < by.0
  smaller = go (ltb bx.0 by.0) (ltb→lt bx.0 by.0) (nltb→le bx.0 by.0)
    where
      not_less : below (prec f) by.0 ≤ below (prec f) bx.0 → ⊥
      not_less h = omega (arith, step)

      at_most : by.0 ≤ bx.0 → below (prec f) by.0 ≤ below (prec f) bx.0
      at_most h = elim (eq-or-lt_of_le h) [
        | inl e ↦ le_of_eq (ap (λ (n : ℕ). below (prec f) n) e)
        | inr l ↦ le_of_lt (ordered by.0 bx.0 by.2 bx.2 l)
      ]

      go : (b : Bool) → (T b → bx.0 < by.0) → (T (not b) → by.0 ≤ bx.0) → bx.0 < by.0
      go true h k = h tt
      go false h k = absurd (not_less (at_most (k tt)))

  between : (z : Float) → Bits f z → num x * den z < num z * den x → num z * den y < num y * den z → ⊥
  between z bz h g =
      let low_side = ordered bx.0 bz.0 bx.2 bz.2 (in_units_lt f x z bx.0 bz.0 bx.1 bz.1 h) in
      let high_side = ordered bz.0 by.0 bz.2 by.2 (in_units_lt f z y bz.0 by.0 bz.1 by.1 g) in
      omega (arith, step)

pub follows : (f : Format) (x y : Float) → T (finite x) → T (finite y) → T (fits f x) → T (fits f y) → sign_in x ≡ sign_in y
    → to_bits f y ≡ suc (to_bits f x) → NextToZero f x y
follows f x y fx fy tx ty sign next =
    let bx = bits_of f x fx tx in
    let by = bits_of f y fy ty in
    record {
      finite_both = (fx, fy);
      sign = sign;
      smaller = in_size_lt f x y bx.0 by.0 bx.1 by.1 (smaller f x y bx by sign next);
      none_between = λ z fz tz h g. between f x y bx by sign next z (bits_of f z fz tz) h g;
      patterns = next;
    }

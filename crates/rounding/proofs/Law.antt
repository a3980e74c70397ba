-- The rounding of the floats' arithmetic, `round f s a c`, gives the nearest float to ±a / c, a tie going to the even one, and no other float
-- is that.
use Prim.Native.Nat.{ℕ, suc, ◌+◌, ◌-◌, ◌*◌, ◌/◌, ◌%◌, ◌^◌, ◌≤◌, ◌<◌, compare}
use native.Mathlib.Nat.{le_trans, le_of_eq, le_antisymm, eq-zero-or-pos, zero-mul, mul_assoc, mul_right_comm, mul-le-mul_right, mul-lt-mul_of_pos_right, mul-pos, le_of_mul-le-mul_right, eq_of_mul-eq-mul_right, div-div-eq-div-mul, div-mul-le_self, le-div_iff_mul-le}
use native.Mathlib.Omega.{arith}
use mathlib.Core.Path.{◌≡◌, ◌∙◌, refl, sym, ap, subst}
use mathlib.Core.Bool.{Bool, true, false, not, beq, cond}
use mathlib.Core.Logic.{◌⊎◌, inl, inr}
use lib.Dec.{T, leb, ltb, leb→le, nleb→lt, ltb→lt}
use lib.Pow.{pow-add, pow_pos, shl_lt}
use lib.Ieee.{Float, nan, inf, fin, Format, prec, emax, low, size, odd, units, round, fits, to_bits}
use lib.Ieee.Digits.{size_reaches}
use lib.Ieee.Fits.{two, two-le_pos, kept-lt, nearest-le, round_is, round-fits}
use lib.Ieee.Exact.{HasValue, units_val}
use lib.Ieee.Nearest.{closest, nearest-ge}
use lib.Ieee.Scale.{finite}
use lib.Ieee.Positive.{num, den, den_pos}
use Rattle.rounding.specs.Nearest.{apart, off, IsNearest, TheNearest}
use Rattle.rounding.proofs.Multiples.{closest_is_least}
use Rattle.rounding.proofs.Floats.{Units, InUnits, in_units, MultipleOrSmall, multiple_or_small, zero_units, away, alike, off_in_units}
use Rattle.rounding.proofs.Patterns.{same_float, ends_in_0, ends_as_digits}

-- ---- what `round` gives, in units

beq_refl : (s : Bool) → beq s s ≡ true
beq_refl true = refl
beq_refl false = refl

of_value : (f : Format) (x : Float) (s : Bool) (n : ℕ) → HasValue x s n (2 ^ low f) → Units f x n × (alike x s ≡ true)
of_value f nan s n v = absurd v
of_value f (inf t) s n v = absurd v
of_value f (fin t m e) s n v = (v.1, ap (λ (z : Bool). beq z s) v.0 ∙ beq_refl s)

under : (f : Format) (s : Bool) (q k : ℕ) → T (finite (units f s q k)) → q * 2 ^ k < 2 ^ (low f + suc (emax f))
unfolding units
under f s q k = go (ltb (q * 2 ^ k) (2 ^ (low f + suc (emax f)))) (ltb→lt (q * 2 ^ k) (2 ^ (low f + suc (emax f))))
  where
    go : (b : Bool) → (T b → q * 2 ^ k < 2 ^ (low f + suc (emax f))) → T (finite (cond b (odd (suc (prec f)) s q k (low f)) (inf s)))
        → q * 2 ^ k < 2 ^ (low f + suc (emax f))
    go true h t = h tt
    go false h t = absurd t

module _ (f : Format) (s : Bool) (a c : ℕ) (C : 0 < c) where
  -- a / c in units is n / c; `round` drops k digits of its whole part and keeps q of the unit u / c
  abbrev n : ℕ
  n = a * 2 ^ low f

  abbrev k : ℕ
  k = size (n / c) - prec f

  abbrev u : ℕ
  u = c * 2 ^ k

  abbrev q : ℕ
  q = closest n u

  above : 0 < u
  above = mul-pos C (pow_pos k)

  positive : 0 < prec f
  positive = two-le_pos (prec f) (two f)

  kept : n / c / 2 ^ k ≡ n / u
  kept = div-div-eq-div-mul n c (2 ^ k)

  at_most : q ≤ 2 ^ prec f
  at_most = le_trans (nearest-le (n / u) (compare (n % u * 2) u)) (subst (λ (x : ℕ). x < 2 ^ prec f) kept (kept-lt (prec f) (n / c)))

  -- where digits are dropped, the whole part has more than `prec` of them
  reaches : 0 < k → 2 ^ (prec f - 1 + k) ≤ n / c
  reaches h = size_reaches (n / c) (prec f - 1 + k) (all (size (n / c)) (prec f) positive h)
    where
      all : (z p : ℕ) → 0 < p → 0 < z - p → p - 1 + (z - p) < z
      all z p P h = omega arith

  at_least : 0 < k → 2 ^ (prec f - 1) ≤ q
  at_least h =
      le_trans
      (subst (λ (x : ℕ). 2 ^ (prec f - 1) ≤ x) kept
      ((le-div_iff_mul-le (pow_pos k)).1 (subst (λ (x : ℕ). x ≤ n / c) (pow-add 2 (prec f - 1) k) (reaches h))))
      (nearest-ge (n / u) (compare (n % u * 2) u))

  -- r·2^k units are r·u
  in_u : (r : ℕ) → r * 2 ^ k * c ≡ r * u
  in_u r = mul_right_comm r (2 ^ k) c ∙ mul_assoc r c (2 ^ k)

  module _ (x : Float) (fine : T (finite x)) (float : T (fits f x)) (size_is : Units f x (q * 2 ^ k)) (sign_is : alike x s ≡ true) where
    -- a float that is as near as x and is another one: its last digit is 1, or both are zero
    abbrev Other : Float → Type 0
    Other y = (to_bits f y % 2 ≡ 1) ⊎ ((num y ≡ 0) × (num x ≡ 0))

    -- n / c and a float of m units: no nearer, and at a tie the same float or q is even
    abbrev Beside : Float → Bool → ℕ → Type 0
    Beside y b m = (apart (q * u) n ≤ away f b m a c) × (apart (q * u) n ≡ away f b m a c → (y ≡ x) ⊎ ((q % 2 ≡ 0) × Other y))

    -- a smaller float: 2^(prec - 1) of the unit is nearer
    small : (m : ℕ) → 0 < k → m < 2 ^ (prec f - 1 + k) → (apart (q * u) n ≤ apart (m * c) n) × (apart (q * u) n ≡ apart (m * c) n → ⊥)
    small m K h =
        let r = 2 ^ (prec f - 1) in
        let least : apart (q * u) n ≤ apart (r * u) n = (closest_is_least n u r above).0 in
        let is : 2 ^ (prec f - 1 + k) * c ≡ r * u = ap (λ (z : ℕ). z * c) (pow-add 2 (prec f - 1) k) ∙ in_u r in
        let under_r : m * c < r * u = subst (λ (z : ℕ). m * c < z) is (mul-lt-mul_of_pos_right h C) in
        let under_n : r * u ≤ n = le_trans (le_of_eq (sym is)) (le_trans (mul-le-mul_right c (reaches K)) (div-mul-le_self n c)) in
        farther (q * u) (r * u) (m * c) n least under_r under_n
      where
        farther : (x r y n : ℕ) → apart x n ≤ apart r n → y < r → r ≤ n → (apart x n ≤ apart y n) × (apart x n ≡ apart y n → ⊥)
        farther x r y n a b c = (omega arith, λ (e : apart x n ≡ apart y n). omega arith)

    -- r·2^k units, as near as x and r odd: these are the float's own digits
    ends_in_1 : (y : Float) (m r : ℕ) → T (finite y) → Units f y m → m ≡ r * 2 ^ k → (r % 2 ≡ 1 → r < 2 ^ prec f)
        → apart (q * u) n ≡ apart (m * c) n → r % 2 ≡ 1 → to_bits f y % 2 ≡ 1
    ends_in_1 y m r h units_of e short t o = ends_as_digits f y r k h (subst (λ (z : ℕ). Units f y z) e units_of) (short o) large ∙ o
      where
        go : (b : Bool) → (T b → 2 ^ (prec f - 1) ≤ r) → (T (not b) → r < 2 ^ (prec f - 1)) → 0 < k → 2 ^ (prec f - 1) ≤ r
        go true w v K = w tt
        go false w v K = absurd ((small m K (subst (λ (z : ℕ). z < 2 ^ (prec f - 1 + k)) (sym e) (shl_lt (prec f - 1) k (v tt)))).1 t)

        large : (k ≡ 0) ⊎ (2 ^ (prec f - 1) ≤ r)
        large = elim (eq-zero-or-pos k) [
          | inl z ↦ inl z
          | inr K ↦ inr (go (leb (2 ^ (prec f - 1)) r) (leb→le (2 ^ (prec f - 1)) r) (nleb→lt (2 ^ (prec f - 1)) r) K)
        ]

    -- a multiple of 2^k units
    multiple : (y : Float) (m r : ℕ) → T (finite y) → Units f y m → m ≡ r * 2 ^ k → (r % 2 ≡ 1 → r < 2 ^ prec f) → (r ≡ q → y ≡ x) → Beside y true m
    multiple y m r h units_of e short same =
        let least = closest_is_least n u r above in
        let is : m * c ≡ r * u = ap (λ (z : ℕ). z * c) e ∙ in_u r in (
          subst (λ (z : ℕ). apart (q * u) n ≤ apart z n) (sym is) least.0,
          λ (t : apart (q * u) n ≡ apart (m * c) n).
              elim (least.1 (t ∙ ap (λ (z : ℕ). apart z n) is)) [
                | inl p ↦ inl (same p)
                | inr p ↦ inr (p.0, inl (ends_in_1 y m r h units_of e short t p.1))
              ],
        )

    -- a float of the other sign: 0 is as near at least
    other_sign : (y : Float) (m : ℕ) → Units f y m → Beside y false m
    other_sign y m units_of =
        let least = closest_is_least n u 0 above in
        let zero_is : 0 * u ≡ 0 = zero-mul u in
        let near : apart (q * u) n ≤ apart 0 n = subst (λ (z : ℕ). apart (q * u) n ≤ apart z n) zero_is least.0 in (
          through (apart (q * u) n) (m * c) near,
          λ (t : apart (q * u) n ≡ m * c + n).
              let none : m ≡ 0 = eq_of_mul-eq-mul_right c C m 0 (nothing (apart (q * u) n) (m * c) near t ∙ sym (zero-mul c)) in
              elim (least.1 (level (apart (q * u) n) (m * c) near t ∙ ap (λ (z : ℕ). apart z n) (sym zero_is))) [
                | inl p ↦
                    inr (
                      ap (λ (z : ℕ). z % 2) (sym p),
                      inr (zero_units f y m units_of none, zero_units f x (q * 2 ^ k) size_is (ap (λ (z : ℕ). z * 2 ^ k) (sym p) ∙ zero-mul (2 ^ k))),
                    )
                | inr p ↦ let one : ◌≡◌ {A = ℕ} 0 1 = p.1 in absurd (omega arith)
              ],
        )
      where
        through : (d m : ℕ) → d ≤ apart 0 n → d ≤ m + n
        through d m h = omega arith

        level : (d m : ℕ) → d ≤ apart 0 n → d ≡ m + n → d ≡ apart 0 n
        level d m h e = omega arith

        nothing : (d m : ℕ) → d ≤ apart 0 n → d ≡ m + n → m ≡ 0
        nothing d m h e = omega arith

    -- any float
    beside : (y : Float) → T (finite y) → T (fits f y) → (m : ℕ) × Units f y m × Beside y (alike y s) m
    beside y h t = of_units (in_units f y h t)
      where
        of_units : InUnits f y → (m : ℕ) × Units f y m × Beside y (alike y s) m
        of_units w = (w.0 * 2 ^ w.1, w.3, go (alike y s) refl (multiple_or_small f k w.0 w.1 positive w.2))
          where
            go : (b : Bool) → alike y s ≡ b → MultipleOrSmall f k (w.0 * 2 ^ w.1) → Beside y b (w.0 * 2 ^ w.1)
            go false e cases = other_sign y (w.0 * 2 ^ w.1) w.3
            go true e cases = elim cases [
              | inl r ↦
                  multiple y (w.0 * 2 ^ w.1) r.0 h w.3 r.1 r.2
                  (λ (p : r.0 ≡ q). same_float f y x s (q * 2 ^ k) h fine t float e sign_is
                  (subst (λ (z : ℕ). Units f y z) (r.1 ∙ ap (λ (z : ℕ). z * 2 ^ k) p) w.3) size_is)
              | inr r ↦ let far = small (w.0 * 2 ^ w.1) r.0 r.1 in (far.0, λ t. absurd (far.1 t))
            ]

    -- both distances times what makes them whole numbers of the same unit
    x_scaled : (y : Float) → off x s a c * den y * 2 ^ low f ≡ apart (q * u) n * den x * den y
    x_scaled y =
        mul_right_comm (off x s a c) (den y) (2 ^ low f)
        ∙ ap (λ (z : ℕ). z * den y) (off_in_units f x s (q * 2 ^ k) a c size_is)
        ∙ ap (λ (b : Bool). away f b (q * 2 ^ k) a c * den x * den y) sign_is
        ∙ ap (λ (z : ℕ). apart z n * den x * den y) (in_u q)

    y_scaled : (y : Float) (m : ℕ) → Units f y m → off y s a c * den x * 2 ^ low f ≡ away f (alike y s) m a c * den x * den y
    y_scaled y m e =
        mul_right_comm (off y s a c) (den x) (2 ^ low f)
        ∙ ap (λ (z : ℕ). z * den x) (off_in_units f y s m a c e)
        ∙ mul_right_comm (away f (alike y s) m a c) (den y) (den x)

    nearer : (y : Float) → T (finite y) → T (fits f y) → off x s a c * den y ≤ off y s a c * den x
    nearer y h t =
        let b = beside y h t in
        le_of_mul-le-mul_right
        (le_trans (le_of_eq (x_scaled y)) (le_trans (mul-le-mul_right (den y) (mul-le-mul_right (den x) b.2.0)) (le_of_eq (sym (y_scaled y b.0 b.1)))))
        (pow_pos (low f))

    level_with : (y : Float) → T (finite y) → T (fits f y) → off x s a c * den y ≡ off y s a c * den x → (y ≡ x) ⊎ ((q % 2 ≡ 0) × Other y)
    level_with y h t e =
        let b = beside y h t in
        let far = away f (alike y s) b.0 a c in
        let level : apart (q * u) n * den x * den y ≡ far * den x * den y = sym (x_scaled y) ∙ ap (λ (z : ℕ). z * 2 ^ low f) e ∙ y_scaled y b.0 b.1 in
        b.2.1
        (eq_of_mul-eq-mul_right (den x) (den_pos x) (apart (q * u) n) far (eq_of_mul-eq-mul_right (den y) (den_pos y) (apart (q * u) n * den x) (far * den x) level))

    tie : (y : Float) → T (finite y) → T (fits f y) → off x s a c * den y ≡ off y s a c * den x → (y ≡ x) ⊎ (to_bits f x % 2 ≡ 0)
    tie y h t e = elim (level_with y h t e) [
      | inl p ↦ inl p
      | inr p ↦ inr (ends_in_0 f x q k (two f) fine size_is p.0 at_most (elim (eq-zero-or-pos k) [ inl z ↦ inl z | inr K ↦ inr (at_least K) ]))
    ]

    no_other : (y : Float) → IsNearest f y s a c → (y ≡ x) ⊎ ((num y ≡ 0) × (num x ≡ 0))
    no_other y as_near =
        let h = as_near.is_finite in
        let t = as_near.is_float in
        let e : off x s a c * den y ≡ off y s a c * den x = le_antisymm (nearer y h t) (as_near.none_nearer x fine float) in
        elim (level_with y h t e) [
          | inl p ↦ inl p
          | inr p ↦ elim p.1 [
            | inl one ↦ elim (as_near.tie_to_even x fine float (sym e)) [ inl same ↦ inl (sym same) | inr zero ↦ let w : ◌≡◌ {A = ℕ} 1 0 = sym one ∙ zero in absurd (omega arith) ]
            | inr zeros ↦ inr zeros
          ]
        ]

    pub the_nearest : TheNearest f x s a c
    the_nearest = record { is = record { is_finite = fine; is_float = float; none_nearer = nearer; tie_to_even = tie }; no_other = no_other }

-- for every fraction, whatever the format, the sign and the size: where the result is finite, it is the nearest float
pub round_is_nearest : (f : Format) (s : Bool) (a c : ℕ) → 0 < c → T (finite (round f s a c)) → TheNearest f (round f s a c) s a c
round_is_nearest f s a c C fine =
    let n = a * 2 ^ low f in
    let k = size (n / c) - prec f in
    let q = closest n (c * 2 ^ k) in
    let written : round f s a c ≡ units f s q k = round_is f s a c in
    let small = under f s q k (subst (λ (x : Float). T (finite x)) written fine) in
    let value = of_value f (round f s a c) s (q * 2 ^ k) (subst (λ (x : Float). HasValue x s (q * 2 ^ k) (2 ^ low f)) (sym written) (units_val f s q k small)) in
    the_nearest f s a c C (round f s a c) fine (round-fits f s a c) value.0 value.1

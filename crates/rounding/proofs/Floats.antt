-- A finite float of the format f is a whole number of the format's smallest value, 2^(−low): m·2^j of them, with m of `prec` digits
-- at most. How far it is from ±a / c, in those units.
use Prim.Native.Nat.{ℕ, zero, suc, ◌+◌, ◌-◌, ◌*◌, ◌%◌, ◌^◌, ◌≤◌, ◌<◌}
use native.Mathlib.Nat.{le_of_suc-le-suc, lt_of_lt_of_le, lt_of_not-le, lt_irrefl, mul-one, zero-mul, mul_comm, mul_assoc, mul_right_comm, add-mul, mul-sub, mul-mod_left, pow-suc, eq_of_mul-eq-mul_right}
use native.Mathlib.Omega.{arith}
use mathlib.Core.Path.{◌≡◌, ◌∙◌, sym, ap, subst}
use mathlib.Core.Bool.{Bool, true, false, not, ◌&&◌, beq, cond}
use mathlib.Core.Logic.{◌⊎◌, inl, inr}
use lib.Dec.{T, leb, ltb, eqb, leb→le, nleb→lt, ltb→lt}
use lib.IntN.{ℤ, pos, negsuc}
use lib.Pow.{pow-add, pow_pos, pow_mono, pow-lt, shl_lt}
use lib.Ieee.{Float, nan, inf, fin, Format, prec, emax, low, up, down, fits}
use lib.Ieee.Fits.{and_l, and_r}
use lib.Ieee.Scale.{finite}
use lib.Ieee.Positive.{num, den}
use Rattle.rounding.specs.Nearest.{apart, sign_in, off}

-- ---- in units

-- x is n units in size
abbrev pub Units : Format → Float → ℕ → Type 0
Units f x n = num x * 2 ^ low f ≡ n * den x

pow_le_back : (a l : ℕ) → 2 ^ a ≤ 2 ^ l → a ≤ l
pow_le_back a l h = le_of_suc-le-suc (lt_of_not-le (λ (g : suc l ≤ a). lt_irrefl (2 ^ l) (lt_of_lt_of_le (pow-lt g) h)))

-- m·2^e in units, where 2^e is one unit at least
whole : (l m : ℕ) (e : ℤ) → down e ≤ 2 ^ l → (j : ℕ) × (m * up e * 2 ^ l ≡ m * 2 ^ j * down e)
whole l m (pos i) h = (i + l, mul_assoc m (2 ^ i) (2 ^ l) ∙ ap (λ (x : ℕ). m * x) (sym (pow-add 2 i l)) ∙ sym (mul-one (m * 2 ^ (i + l))))
whole l m (negsuc i) h =
    let d : suc i ≤ l = pow_le_back (suc i) l h in
    let j : l - suc i + suc i ≡ l = omega arith in (
      l - suc i,
      ap (λ (x : ℕ). x * 2 ^ l) (mul-one m)
          ∙ ap (λ (x : ℕ). m * x) (ap (λ (x : ℕ). 2 ^ x) (sym j) ∙ pow-add 2 (l - suc i) (suc i))
          ∙ sym (mul_assoc m (2 ^ (l - suc i)) (2 ^ suc i)),
    )

abbrev pub InUnits : Format → Float → Type 0
InUnits f y = (m : ℕ) × (j : ℕ) × (m < 2 ^ prec f) × Units f y (m * 2 ^ j)

pub in_units : (f : Format) (y : Float) → T (finite y) → T (fits f y) → InUnits f y
unfolding fits
in_units f nan h t = absurd h
in_units f (inf s) h t = absurd h
in_units f (fin s zero e) h t =
    (0, 0, pow_pos (prec f), ap (λ (x : ℕ). x * 2 ^ low f) (zero-mul (up e)) ∙ zero-mul (2 ^ low f) ∙ sym (zero-mul (down e)))
in_units f (fin s (suc m) e) h t =
    let a : Bool = eqb (suc m % 2) 1 in
    let b : Bool = ltb (suc m) (2 ^ prec f) in
    let c : Bool = leb (down e) (2 ^ low f) in
    let d : Bool = ltb (suc m * up e) (2 ^ suc (emax f) * down e) in
    let abc = and_l (a && b && c) d t in
    let w = whole (low f) (suc m) e (leb→le (down e) (2 ^ low f) (and_r (a && b) c abc)) in
    (suc m, w.0, ltb→lt (suc m) (2 ^ prec f) (and_r a b (and_l (a && b) c abc)), w.1)

-- n units are a multiple of 2^k, an odd one having `prec` digits at most, or smaller than every number of `prec` digits that is one
abbrev pub MultipleOrSmall : Format → ℕ → ℕ → Type 0
MultipleOrSmall f k n = ((r : ℕ) × (n ≡ r * 2 ^ k) × (r % 2 ≡ 1 → r < 2 ^ prec f)) ⊎ ((0 < k) × (n < 2 ^ (prec f - 1 + k)))

odd_is_short : (p m i : ℕ) → m < 2 ^ p → m * 2 ^ i % 2 ≡ 1 → m * 2 ^ i < 2 ^ p
odd_is_short p m zero h o = subst (λ (x : ℕ). x < 2 ^ p) (sym (mul-one m)) h
odd_is_short p m (suc i) h o =
    let even : m * 2 ^ suc i % 2 ≡ 0 = ap (λ (x : ℕ). x % 2) (ap (λ (x : ℕ). m * x) (pow-suc 2 i) ∙ sym (mul_assoc m (2 ^ i) 2)) ∙ mul-mod_left (m * 2 ^ i) 2 in
    absurd (omega arith)

pub multiple_or_small : (f : Format) (k m j : ℕ) → 0 < prec f → m < 2 ^ prec f → MultipleOrSmall f k (m * 2 ^ j)
multiple_or_small f k m j P h = go (leb k j) (leb→le k j) (nleb→lt k j)
  where
    room : (p : ℕ) → j < k → p + j ≤ p - 1 + k
    room p more = omega arith

    go : (b : Bool) → (T b → k ≤ j) → (T (not b) → j < k) → MultipleOrSmall f k (m * 2 ^ j)
    go true x y =
        let less : k ≤ j = x tt in
        let e : j - k + k ≡ j = omega arith in
        inl (
          m * 2 ^ (j - k),
          ap (λ (z : ℕ). m * z) (ap (λ (z : ℕ). 2 ^ z) (sym e) ∙ pow-add 2 (j - k) k) ∙ sym (mul_assoc m (2 ^ (j - k)) (2 ^ k)),
          odd_is_short (prec f) m (j - k) h,
        )
    go false x y =
        let more : j < k = y tt in
        inr (omega arith, lt_of_lt_of_le (shl_lt (prec f) j h) (pow_mono (room (prec f) more)))

-- no units are zero
pub zero_units : (f : Format) (y : Float) (n : ℕ) → Units f y n → n ≡ 0 → num y ≡ 0
zero_units f y n e z =
    eq_of_mul-eq-mul_right (2 ^ low f) (pow_pos (low f)) (num y) 0
    (e ∙ ap (λ (x : ℕ). x * den y) z ∙ zero-mul (den y) ∙ sym (zero-mul (2 ^ low f)))

-- ---- how far, in units

apart_scaled : (a b k : ℕ) → apart (a * k) (b * k) ≡ apart a b * k
apart_scaled a b k =
    let left : (a - b) * k ≡ a * k - b * k = minus_scaled a b in
    let right : (b - a) * k ≡ b * k - a * k = minus_scaled b a in
    sym (add-mul (a - b) (b - a) k ∙ ap (λ (x : ℕ). x + (b - a) * k) left ∙ ap (λ (x : ℕ). a * k - b * k + x) right)
  where
    minus_scaled : (x y : ℕ) → (x - y) * k ≡ x * k - y * k
    minus_scaled x y = mul_comm (x - y) k ∙ mul-sub k x y ∙ ap (λ (z : ℕ). z - k * y) (mul_comm k x) ∙ ap (λ (z : ℕ). x * k - z) (mul_comm k y)

-- from ±a / c to n units: what the two are apart, or their sum
abbrev pub away : Format → Bool → ℕ → ℕ → ℕ → ℕ
away f alike n a c = cond alike (apart (n * c) (a * 2 ^ low f)) (n * c + a * 2 ^ low f)

abbrev pub alike : Float → Bool → Bool
alike x s = beq (sign_in x) s

pub off_in_units : (f : Format) (x : Float) (s : Bool) (n a c : ℕ) → Units f x n → off x s a c * 2 ^ low f ≡ away f (alike x s) n a c * den x
off_in_units f x s n a c e = go (alike x s)
  where
    left : num x * c * 2 ^ low f ≡ n * c * den x
    left = mul_right_comm (num x) c (2 ^ low f) ∙ ap (λ (y : ℕ). y * c) e ∙ mul_right_comm n (den x) c

    right : a * den x * 2 ^ low f ≡ a * 2 ^ low f * den x
    right = mul_right_comm a (den x) (2 ^ low f)

    go : (b : Bool) → cond b (apart (num x * c) (a * den x)) (num x * c + a * den x) * 2 ^ low f ≡ away f b n a c * den x
    go true =
        sym (apart_scaled (num x * c) (a * den x) (2 ^ low f))
        ∙ ap (λ (y : ℕ). apart y (a * den x * 2 ^ low f)) left
        ∙ ap (λ (y : ℕ). apart (n * c * den x) y) right
        ∙ apart_scaled (n * c) (a * 2 ^ low f) (den x)
    go false =
        add-mul (num x * c) (a * den x) (2 ^ low f)
        ∙ ap (λ (y : ℕ). y + a * den x * 2 ^ low f) left
        ∙ ap (λ (y : ℕ). n * c * den x + y) right
        ∙ sym (add-mul (n * c) (a * 2 ^ low f) (den x))

-- Document 02, item 5: "the nearest 64-bit float, a tie going to the even one". What "nearest" means, of any number ±a / c
-- and over whole numbers, with no division. A finite float is ±num / den in size, by `num` and `den`; `fits f y` says that y is a float
-- of the format f, and `to_bits f y` is its pattern of bits, the mantissa's last digit being the last bit.
use Rattle.std.specs.Prelude.{ℕ, suc, ◌+◌, ◌-◌, ◌*◌, ◌%◌, ◌≤◌, ◌<◌, ◌≡◌, Bool, false, cond, ◌⊎◌, T, Float}
use Rattle.std.specs.Bool.{beq}
use Rattle.std.specs.Float.{nan, inf, fin, Format}
use Rattle.std.specs.Float.Ieee.{fits, to_bits}
use Rattle.std.specs.Float.Ieee.Scale.{finite}
use Rattle.std.specs.Float.Ieee.Positive.{num, den}

-- how far two whole numbers are apart
abbrev pub apart : ℕ → ℕ → ℕ
apart a b = (a - b) + (b - a)

-- true for a negative float
abbrev pub sign_in : Float → Bool
sign_in nan = false
sign_in (inf s) = s
sign_in (fin s m e) = s

-- how far a finite float is from ±a / c, times c and times the float's own `den`: what the two are apart where the signs are alike, and
-- their sum where they are not; the sign s is true for a negative number
abbrev pub off : Float → Bool → ℕ → ℕ → ℕ
off x s a c = cond (beq (sign_in x) s) (apart (num x * c) (a * den x)) (num x * c + a * den x)

-- x is the finite float of the format f that is nearest to ±a / c: no other is nearer, and where another is as near, x is the
-- one that ends in 0
pub record IsNearest (f : Format) (x : Float) (s : Bool) (a c : ℕ) : Type 0 where
  pub is_finite : T (finite x)
  pub is_float : T (fits f x)
  pub none_nearer : (y : Float) → T (finite y) → T (fits f y) → off x s a c * den y ≤ off y s a c * den x
  pub tie_to_even : (y : Float) → T (finite y) → T (fits f y) → off x s a c * den y ≡ off y s a c * den x → (y ≡ x) ⊎ (to_bits f x % 2 ≡ 0)

-- and it is the only one, but that a number which becomes zero has both zeros
pub record TheNearest (f : Format) (x : Float) (s : Bool) (a c : ℕ) : Type 0 where
  pub is : IsNearest f x s a c
  pub no_other : (y : Float) → IsNearest f y s a c → (y ≡ x) ⊎ ((num y ≡ 0) × (num x ≡ 0))

-- x is the next float from y towards zero: one of the same sign and smaller, with no float's size in between. Their patterns of bits
-- follow one another
pub record NextToZero (f : Format) (x y : Float) : Type 0 where
  pub finite_both : T (finite x) × T (finite y)
  pub sign : sign_in x ≡ sign_in y
  pub smaller : num x * den y < num y * den x
  pub none_between : (z : Float) → T (finite z) → T (fits f z) → num x * den z < num z * den x → num z * den y < num y * den z → ⊥
  pub patterns : to_bits f y ≡ suc (to_bits f x)

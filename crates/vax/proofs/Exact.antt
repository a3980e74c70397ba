-- The definitions of F and of D's dropped form over whole numbers: `odd` has the value that it is given, and zero has the value 0 and
-- the positive sign.
use Prim.Native.Nat.{ℕ, ◌*◌, ◌^◌}
use native.Mathlib.Nat.{zero-mul}
use mathlib.Core.Path.{◌∙◌, refl, sym, ap}
use mathlib.Core.Bool.{Bool, false}
use mathlib.Core.List.{List}
use lib.Ieee.{Float}
use lib.Ieee.Exact.{HasValue, odd_sign}
use Rattle.vax.specs.Fields.{negative, exponent, mantissa_F, dropped_mantissa_D}
use Rattle.vax.specs.Numbers.{zero_float, exact_F, dropped_D, reading, vax_F, vax_D_dropped}
use Rattle.vax.specs.Exact.{Exactly, ExactF, ExactDroppedD}
use Rattle.vax.proofs.Cases.{reading_has}

pub zero_value : (e l : ℕ) → HasValue zero_float false (0 * 2 ^ e) (2 ^ l)
zero_value e l = (refl, zero-mul (2 ^ l) ∙ sym (ap (λ (n : ℕ). n * 1) (zero-mul (2 ^ e))))

-- whatever float stands for the exponents from 1 on, if it has its value
reading_exact : (size : ℕ) (x : Float) (s : List ℕ) (mantissa l : ℕ) → HasValue x (negative s) (mantissa * 2 ^ exponent s) (2 ^ l)
    → Exactly s mantissa l (reading size x s)
reading_exact size x s mantissa l v =
    reading_has (λ (y : Float) (sign : Bool) (m : ℕ). HasValue y sign (m * 2 ^ exponent s) (2 ^ l)) size x s mantissa v (zero_value (exponent s) l)

pub vax_F_exact : (s : List ℕ) → ExactF s (vax_F s)
vax_F_exact s = reading_exact 4 (exact_F s) s (mantissa_F s) 152 (odd_sign 24 (negative s) (mantissa_F s) (exponent s) 152)

pub vax_D_dropped_exact : (s : List ℕ) → ExactDroppedD s (vax_D_dropped s)
vax_D_dropped_exact s = reading_exact 8 (dropped_D s) s (dropped_mantissa_D s) 184 (odd_sign 56 (negative s) (dropped_mantissa_D s) (exponent s) 184)

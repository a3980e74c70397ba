-- Tests joined by `&&`, taken apart and put together.
use mathlib.Core.Path.{◌≡◌, refl}
use mathlib.Core.Bool.{Bool, true, false, ◌&&◌}

pub both_hold : (s t : Bool) → (s && t) ≡ true → (s ≡ true) × (t ≡ true)
both_hold true t e = (refl, e)
both_hold false true e = (e, refl)
both_hold false false e = (e, e)

pub hold_together : {s t : Bool} → s ≡ true → t ≡ true → (s && t) ≡ true
hold_together p q = cc

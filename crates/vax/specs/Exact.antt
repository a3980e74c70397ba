-- What an answered float is worth, over whole numbers (document 01: "a 64-bit float of exactly that value", "the rest is
-- exact in a 64-bit float", "positive zero for zero"). `HasValue x s a c` says that x is finite, has the sign s and is
-- a / c in size, with no division: where x is m·2^k, m·2^k·c ≡ a if k is not negative, and m·c ≡ a·2^(−k) if it is.
use Rattle.std.specs.Prelude.{ℕ, ◌*◌, ◌^◌, cond, List, ◌≡◌, eqb, Float}
use Rattle.std.specs.Float.Ieee.Exact.{HasValue}
use Rattle.answer.specs.Outcome.{Outcome, answer}
use Rattle.vax.specs.Fields.{negative, exponent, mantissa_F, dropped_mantissa_D}

-- an answered float has the number's sign and is mantissa·2^e / 2^l in size; exponent 0 makes the mantissa 0
abbrev pub Exactly : List ℕ → ℕ → ℕ → Outcome Float → Type 0
Exactly s mantissa l o =
    (x : Float) → o ≡ answer x → HasValue x (negative s) (cond (eqb (exponent s) 0) 0 mantissa * 2 ^ exponent s) (2 ^ l)

-- F: (2^23 + f)·2^e / 2^152
abbrev pub ExactF : List ℕ → Outcome Float → Type 0
ExactF s o = Exactly s (mantissa_F s) 152 o

-- D: (2^55 + f)·2^e / 2^184 with the three lowest bits of f dropped
abbrev pub ExactDroppedD : List ℕ → Outcome Float → Type 0
ExactDroppedD s o = Exactly s (dropped_mantissa_D s) 184 o

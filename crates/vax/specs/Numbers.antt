-- VAX F and D numbers as 64-bit floats (document 01, "Numbers"; document 02, item 5). `odd d s q e l` is the float of sign s and size
-- exactly q·2^e / 2^l, for a q of at most d binary digits, in the one way that a finite float is written. `round f s a c` is the float of
-- the format f that is nearest to a / c in size and has the sign s, a tie going to the even one: `TheNearest` (rounding/specs/Nearest.antt)
-- says what that means, and `round_is_nearest` (rounding/proofs/Law.antt) that it is so.
use Rattle.std.specs.Prelude.{ℕ, ◌*◌, ◌^◌, false, not, ◌&&◌, cond, List, length, leb, eqb, pos, Float}
use Rattle.std.specs.Float.{fin, binary64}
use Rattle.std.specs.Float.Ieee.{odd, round}
use Rattle.answer.specs.Outcome.{Outcome, answer, need}
use Rattle.vax.specs.Fields.{negative, exponent, mantissa_F, mantissa_D, dropped_mantissa_D}

-- positive zero
abbrev pub zero_float : Float
zero_float = fin false 0 (pos 0)

-- exponent 0: sign 1 is reserved, refusal 9, and sign 0 is zero, for any fraction; any other exponent: the float x
abbrev pub by_exponent : Float → List ℕ → Outcome Float
by_exponent x s = need (not (negative s && eqb (exponent s) 0)) 9 (answer (cond (eqb (exponent s) 0) zero_float x))

-- a number in the first `size` bytes, refusal 1 where there are fewer; x is its float where its exponent is not 0
abbrev pub reading : ℕ → Float → List ℕ → Outcome Float
reading size x s = need (leb size (length s)) 1 (by_exponent x s)

-- ±(2^23 + f)·2^(e−152)
abbrev pub exact_F : List ℕ → Float
exact_F s = odd 24 (negative s) (mantissa_F s) (exponent s) 152

-- ±(2^55 + f)·2^(e−184), to the nearest: document 02, item 5, "a D number shall become the nearest 64-bit float, a tie going to the even
-- one"
abbrev pub nearest_D : List ℕ → Float
nearest_D s = round binary64 (negative s) (mantissa_D s * 2 ^ exponent s) (2 ^ 184)

-- ±(2^55 + f)·2^(e−184), with the three lowest bits dropped
abbrev pub dropped_D : List ℕ → Float
dropped_D s = odd 56 (negative s) (dropped_mantissa_D s) (exponent s) 184

abbrev pub vax_F : List ℕ → Outcome Float
vax_F s = reading 4 (exact_F s) s

abbrev pub vax_D : List ℕ → Outcome Float
vax_D s = reading 8 (nearest_D s) s

-- document 02, item 5: "the dropped form under its own name for old jobs", as document 01 has it
abbrev pub vax_D_dropped : List ℕ → Outcome Float
vax_D_dropped s = reading 8 (dropped_D s) s

-- What is read of the first bytes alone, as an array of them, is what is read of all bytes.
use Prim.Native.Nat.{ℕ, ◌+◌, ◌*◌, ◌≤◌, ◌<◌}
use native.Mathlib.Omega.{arith}
use mathlib.Core.Path.{◌≡◌, ◌∙◌, ap, ap₂}
use mathlib.Core.List.{List}
use lib.ListN.{get_or}
use Rattle.std.proofs.lemmas.List.{get_or-take}
use Rattle.std.specs.Array.{IsFirstChunk}
use Rattle.vax.specs.Fields.{word_at}
use Rattle.vax.specs.Numbers.{by_exponent}
use Rattle.vax.specs.Private.{patterned, below_sign_F, below_sign_D, BitsF, BitsD}

module _ (n : ℕ) (s front : List ℕ) (is : IsFirstChunk s front n) where
  byte : (i : ℕ) → i < n → get_or front i 0 ≡ get_or s i 0
  byte i h = ap (λ (x : List ℕ). get_or x i 0) is.same ∙ get_or-take n s i 0 h

  pub word : (at : ℕ) → at + 1 < n → word_at front at ≡ word_at s at
  word at h = ap₂ (λ (a b : ℕ). a + 256 * b) (byte at (omega arith)) (byte (at + 1) h)

  -- the number with a first word and a size
  pub number_of : 2 ≤ n → (size : ℕ) → by_exponent (patterned size front) front ≡ by_exponent (patterned size s) s
  number_of h size = simp (byte 0 (omega arith), byte 1 (omega arith))

  pub bits_of_F : 4 ≤ n → (b : ℕ) → (b ≡ below_sign_F front) × BitsF front → (b ≡ below_sign_F s) × BitsF s
  bits_of_F h b bits =
      let first = word 0 (omega arith) in
      let second = word 2 (omega arith) in
      (omega (arith, bits.0), (omega (arith, bits.1.0), omega (arith, bits.1.1)))

  pub bits_of_D : 8 ≤ n → (b : ℕ) → (b ≡ below_sign_D front) × BitsD front → (b ≡ below_sign_D s) × BitsD s
  bits_of_D h b bits =
      let first = word 0 (omega arith) in
      let second = word 2 (omega arith) in
      let third = word 4 (omega arith) in
      let fourth = word 6 (omega arith) in
      (omega (arith, bits.0), (omega (arith, bits.1.0), omega (arith, bits.1.1)))

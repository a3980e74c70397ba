-- Bytes divided into rows, of 0 bytes too.
use Prim.Native.Nat.{ℕ, ◌/◌, ◌%◌}
use native.Mathlib.Nat.{mod-zero, div-zero}
use mathlib.Core.Path.{◌≡◌, ◌∙◌, ap}

pub none_taken : (step bytes : ℕ) → step ≡ 0 → bytes % step ≡ bytes
none_taken step bytes none = ap (λ (n : ℕ). bytes % n) none ∙ mod-zero bytes

pub no_rows : (step bytes : ℕ) → step ≡ 0 → bytes / step ≡ 0
no_rows step bytes none = ap (λ (n : ℕ). bytes / n) none ∙ div-zero bytes

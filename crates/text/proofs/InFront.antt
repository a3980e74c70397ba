-- In front of a numeral's digits all bytes are `0`, which is 48: what its loop keeps, so that the text gives all twenty bytes back.
use Prim.Native.Nat.{ℕ, ◌≤◌}
use mathlib.Core.Path.{◌≡◌, ◌∙◌, sym, ap}
use mathlib.Core.List.{List}
use lib.ListN.{take, replicate, set}
use Rattle.std.proofs.lemmas.List.{take-set, take-take, take-replicate}

-- a digit written right in front of those that are written leaves the zeros before it
pub zeros_before : (digits : List ℕ) (f k b : ℕ) → f ≤ k → take k digits ≡ replicate k 48 → take f (set digits f b) ≡ replicate f 48
zeros_before digits f k b h zeros =
    take-set digits f b ∙ sym (take-take f k digits h) ∙ ap (take f) zeros ∙ take-replicate f k 48 h

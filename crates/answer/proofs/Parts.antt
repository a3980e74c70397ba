-- Parts of a file as the code cuts them, `&f[a..e]`, and as the definitions name them, `bytes_at f place count`.
use Prim.Native.Nat.{ℕ, ◌-◌}
use native.Mathlib.Nat.{le_of_eq}
use mathlib.Core.Path.{◌≡◌}
use mathlib.Core.List.{List}
use lib.ListN.{length, take, drop, length-drop}
use lib.Seq.{take_all}

-- `&f[place..]` is all that is left
pub all_that_is_left : (f : List ℕ) (place : ℕ) → take (length f - place) (drop place f) ≡ drop place f
all_that_is_left f place = take_all _ (drop place f) (le_of_eq (length-drop place f))

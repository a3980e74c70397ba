-- Little-endian bytes and the number they are: each gives the other back. Then the bytes from a place on, one by
-- one, and lists whose numbers are all below a limit.
use Prim.Native.Nat.{ℕ, zero, suc, ◌+◌, ◌*◌, ◌/◌, ◌^◌, ◌≤◌, ◌<◌}
use native.Mathlib.Nat.{pow-zero}
use native.Mathlib.Omega.{arith}
use mathlib.Core.Path.{◌≡◌, refl, ◌∙◌, ap, ap₂}
use mathlib.Core.List.{List, [], ◌∷◌}
use lib.ListN.{length, get_or, take, drop}
use lib.Seq.{drop-cons}
use Rattle.answer.specs.Window.{bytes_at}
use Rattle.std.specs.Int.{from_le_bytes, w32}
use Rattle.little.specs.LittleEndian.{le, le_number, Below}

-- the bytes of a number are that number
pub number_of_bytes : (w n : ℕ) → n < 256 ^ w → le_number (le w n) ≡ n
number_of_bytes zero n h = omega (arith, pow-zero 256)
number_of_bytes (suc w) n h = omega (arith, number_of_bytes w (n / 256) (omega arith))

-- bytes are the bytes of their number
pub bytes_of_number : (bs : List ℕ) → Below 256 bs → le (length bs) (le_number bs) ≡ bs
bytes_of_number [] h = refl
bytes_of_number (b ∷ bs) h =
    ap₂ ◌∷◌ (omega (arith, h.0))
    (ap (le (length bs)) (omega (arith, h.0)) ∙ bytes_of_number bs h.1)

-- the library's number of four bytes is theirs
pub four_are_a_number : (bs : List ℕ) → length bs ≡ 4 → from_le_bytes w32 bs ≡ le_number bs
four_are_a_number [] h = absurd (omega arith)
four_are_a_number (a ∷ []) h = absurd (omega arith)
four_are_a_number (a ∷ b ∷ []) h = absurd (omega arith)
four_are_a_number (a ∷ b ∷ c ∷ []) h = absurd (omega arith)
four_are_a_number (a ∷ b ∷ c ∷ d ∷ []) h = omega arith
four_are_a_number (a ∷ b ∷ c ∷ d ∷ e ∷ bs) h = absurd (omega arith)

-- the bytes from a place on, one by one
one_byte : (s : List ℕ) (at next w : ℕ) → at + 1 ≡ next → at < length s → bytes_at s at (suc w) ≡ get_or s at 0 ∷ bytes_at s next w
one_byte s at next w e h =
    ap (take (suc w)) (drop-cons s at 0 h) ∙ ap (λ (n : ℕ). get_or s at 0 ∷ bytes_at s n w) {x = suc at} {y = next} (omega (arith, e))

pub two_bytes : (s : List ℕ) (at : ℕ) → at + 2 ≤ length s → bytes_at s at 2 ≡ get_or s at 0 ∷ get_or s (at + 1) 0 ∷ []
two_bytes s at h =
    one_byte s at (at + 1) 1 refl (omega arith)
    ∙ ap (λ (t : List ℕ). get_or s at 0 ∷ t) (one_byte s (at + 1) (at + 2) 0 (omega arith) (omega arith))

first_four : (s : List ℕ) (at v : ℕ) → at + 4 ≤ length s
    → bytes_at s at (suc (suc (suc (suc v)))) ≡ get_or s at 0 ∷ get_or s (at + 1) 0 ∷ get_or s (at + 2) 0 ∷ get_or s (at + 3) 0 ∷ bytes_at s (at + 4) v
first_four s at v h =
    one_byte s at (at + 1) (suc (suc (suc v))) refl (omega arith)
    ∙ ap (λ (t : List ℕ). get_or s at 0 ∷ t)
    (one_byte s (at + 1) (at + 2) (suc (suc v)) (omega arith) (omega arith)
    ∙ ap (λ (t : List ℕ). get_or s (at + 1) 0 ∷ t)
    (one_byte s (at + 2) (at + 3) (suc v) (omega arith) (omega arith)
    ∙ ap (λ (t : List ℕ). get_or s (at + 2) 0 ∷ t) (one_byte s (at + 3) (at + 4) v (omega arith) (omega arith))))

pub four_bytes : (s : List ℕ) (at : ℕ) → at + 4 ≤ length s
    → bytes_at s at 4 ≡ get_or s at 0 ∷ get_or s (at + 1) 0 ∷ get_or s (at + 2) 0 ∷ get_or s (at + 3) 0 ∷ []
four_bytes s at h = first_four s at 0 h

-- the second four bytes of eight weigh 2^32 times the first
pub eight_bytes : (s : List ℕ) (at : ℕ) → at + 4 ≤ length s
    → le_number (bytes_at s at 8) ≡ le_number (bytes_at s at 4) + 4294967296 * le_number (bytes_at s (at + 4) 4)
eight_bytes s at h = omega (arith, ap le_number (first_four s at 4 h), ap le_number (four_bytes s at h))

-- numbers that are below a limit wherever they stand: what is known of a lent slice, by its type
pub each_below : (m : ℕ) (xs : List ℕ) → ((i : ℕ) → i < length xs → get_or xs i 0 < m) → Below m xs
each_below m [] h = tt
each_below m (x ∷ xs) h = (h 0 (omega arith), each_below m xs (λ i k. h (suc i) (omega arith)))

pub below_in_the_front : (m : ℕ) (k : ℕ) (xs : List ℕ) → Below m xs → Below m (take k xs)
below_in_the_front m zero xs h = tt
below_in_the_front m (suc k) [] h = tt
below_in_the_front m (suc k) (x ∷ xs) h = (h.0, below_in_the_front m k xs h.1)

pub below_in_the_rest : (m : ℕ) (k : ℕ) (xs : List ℕ) → Below m xs → Below m (drop k xs)
below_in_the_rest m zero xs h = h
below_in_the_rest m (suc k) [] h = tt
below_in_the_rest m (suc k) (x ∷ xs) h = below_in_the_rest m k xs h.1

-- The bytes of a line: a sample behind the last one sets no dot, and eight samples' dots are a byte of the line, from which each bit
-- can be read again.
use Prim.Native.Nat.{ℕ, zero, suc, ◌+◌, ◌-◌, ◌*◌, ◌/◌, ◌%◌, ◌^◌, ◌≤◌, ◌<◌}
use native.Mathlib.Nat.{not-suc-le-zero, lt_of_not-le, le_of_eq}
use native.Mathlib.Decide.{dec_le}
use native.Mathlib.Omega.{arith}
use mathlib.Core.Path.{◌≡◌, refl, ◌∙◌, sym, ap}
use mathlib.Core.Bool.{Bool, true, false, cond}
use mathlib.Core.List.{List, [], ◌++◌}
use lib.ListN.{length, get_or, set, take, drop}
use lib.Seq.{take-length, drop-drop}
use Rattle.std.specs.Simd.{first_chunks}
use Rattle.std.proofs.lemmas.List.FromFn.{length-map-range_with_len, get_or-map-range_with_len}
use Rattle.std.proofs.lemmas.List.{get_or-take, get_or-drop, get_or_default, get_or_past}
use lib.Dec.{ltb}
use borrow.Author.Tests.{lt-ltb, le-ltb}
use Rattle.answer.proofs.Writers.{Putting, one_put, all_put}
use Rattle.dots.specs.Tone.{tone}
use Rattle.dots.specs.Matrix.{level}
use Rattle.dots.specs.Dot.{is_dot, bit}
use Rattle.dot_lines.specs.Line.{line_bytes, dot_bit, eight, line_byte, line}
use Rattle.dot_lines.specs.Private.{dots_of}
use Rattle.dots.proofs.Curve.{tone_of_255}
use Rattle.dots.proofs.Levels.{level_small, same_place}

-- a chunk of eight of a list
nth_chunk : (k j : ℕ) (xs : List ℕ) → j < k → get_or (first_chunks 8 k xs) j [] ≡ take 8 (drop (8 * j) xs)
nth_chunk zero j xs h = absurd (not-suc-le-zero h)
nth_chunk (suc k) zero xs h = refl
nth_chunk (suc k) (suc j) xs h =
    nth_chunk k j (drop 8 xs) (omega arith)
    ∙ ap (take 8) (drop-drop (8 * j) 8 xs ∙ ap (λ (n : ℕ). drop n xs) {x = 8 + 8 * j} {y = 8 * suc j} (omega arith))

-- the largest sample sets no dot
white : (x y : ℕ) → is_dot (tone 255) x y ≡ false
white x y = ap (λ (t : ℕ). ltb t (4 * level y x + 2)) tone_of_255 ∙ le-ltb 255 (4 * level y x + 2) (omega (arith, level_small y x))

-- a sample, or behind the last one the largest, and its bit
sample_bit : (y : ℕ) (window : List ℕ) (x : ℕ) → bit (is_dot (tone (get_or window x 255)) x y) ≡ dot_bit y window x
sample_bit y window x =
    elim (dec_le (length window) x) [
      | yes past ↦
          ap (λ (s : ℕ). bit (is_dot (tone s) x y)) (get_or_past window x 255 past)
          ∙ ap bit (white x y)
          ∙ ap (λ (b : Bool). cond b (bit (is_dot (tone (get_or window x 0)) x y)) 0) (sym (le-ltb x (length window) past))
      | no inside ↦
          ap (λ (s : ℕ). bit (is_dot (tone s) x y)) (get_or_default window x 255 0 (lt_of_not-le inside))
          ∙ ap (λ (b : Bool). cond b (bit (is_dot (tone (get_or window x 0)) x y)) 0) (sym (lt-ltb x (length window) (lt_of_not-le inside)))
    ]

module _ (y : ℕ) (window : List ℕ) (j : ℕ) where
  column : (i s : ℕ) → s ≡ get_or window (8 * j + i) 255 → bit (is_dot (tone s) i y) ≡ dot_bit y window (8 * j + i)
  column i s e =
      ap (λ (z : ℕ). bit (is_dot (tone z) i y)) e
      ∙ ap bit (sym (same_place (tone (get_or window (8 * j + i) 255)) (8 * j + i) y i y (omega arith) refl))
      ∙ sample_bit y window (8 * j + i)

  -- eight samples of the window, from column 8·j on
  pub byte_of_line : (samples : List ℕ) → ((i : ℕ) → i < 8 → get_or samples i 0 ≡ get_or window (8 * j + i) 255) → dots_of y samples ≡ line_byte y window j
  unfolding dots_of line_byte
  byte_of_line samples are =
      let each : (i : ℕ) → i < 8 → bit (is_dot (tone (get_or samples i 0)) i y) ≡ dot_bit y window (8 * j + i) = λ i h. column i (get_or samples i 0) (are i h) in
      omega (arith, each 0 (omega arith), each 1 (omega arith), each 2 (omega arith), each 3 (omega arith), each 4 (omega arith), each 5 (omega arith), each 6 (omega arith), each 7 (omega arith))

  -- eight samples that are all there
  pub whole_byte : j < length window / 8 → dots_of y (get_or (first_chunks 8 (length window / 8) window) j []) ≡ line_byte y window j
  whole_byte h =
      byte_of_line (get_or (first_chunks 8 (length window / 8) window) j [])
      (λ i k.
      ap (λ (chunk : List ℕ). get_or chunk i 0) (nth_chunk (length window / 8) j window h)
      ∙ get_or-take 8 (drop (8 * j) window) i 0 k
      ∙ get_or-drop (8 * j) window i 0
      ∙ get_or_default window (8 * j + i) 0 255 (omega arith))

  -- those that are left, filled up
  pub filled_byte : (samples : List ℕ) → ((i : ℕ) → i < 8 → get_or samples i 0 ≡ get_or (drop (j * 8) window) i 255) → dots_of y samples ≡ line_byte y window j
  filled_byte samples are =
      byte_of_line samples (λ i h. are i h ∙ get_or-drop (j * 8) window i 255 ∙ ap (λ (x : ℕ). get_or window x 255) {x = j * 8 + i} {y = 8 * j + i} (omega arith))

-- ---- a line's length and its bytes

module _ (y : ℕ) (window : List ℕ) where
  pub line_long : length (line y window) ≡ line_bytes (length window)
  unfolding line
  line_long = length-map-range_with_len (line_byte y window) 0 (line_bytes (length window))

  pub line_at : (j : ℕ) → j < line_bytes (length window) → get_or (line y window) j 0 ≡ line_byte y window j
  unfolding line
  line_at j h = get_or-map-range_with_len (line_byte y window) 0 (line_bytes (length window)) j j 0 h (omega arith)

  -- one more byte of the line put
  pub line_more : (old out : List ℕ) (j v : ℕ) → Putting (line y window) old out (line_bytes (length window)) j → line_bytes (length window) ≤ length old
      → j < line_bytes (length window) → v ≡ line_byte y window j → Putting (line y window) old (set out j v) (line_bytes (length window)) (j + 1)
  line_more old out j v p room h e =
      one_put (line y window) old (line_bytes (length window)) out j p (le_of_eq (sym line_long)) room v h (e ∙ sym (line_at j h))

  -- all bytes of the line put in front of the rest
  pub line_put : (old out : List ℕ) (i : ℕ) → Putting (line y window) old out (line_bytes (length window)) i → line_bytes (length window) ≤ i
      → out ≡ line y window ++ drop (length (line y window)) old
  line_put old out i p h =
      all_put (line y window) old (line_bytes (length window)) out i p h
      ∙ ap (λ (n : ℕ). take n (line y window) ++ drop n old) (sym line_long)
      ∙ ap (λ (bs : List ℕ). bs ++ drop (length (line y window)) old) (take-length (line y window))

-- ---- a line's bits

-- one of eight bits
pub bit_of_eight : (bits : ℕ → ℕ) → ((i : ℕ) → bits i < 2) → (i : ℕ) → i < 8 → eight bits / 2 ^ (7 - i) % 2 ≡ bits i
bit_of_eight bits small zero h = omega (arith, small 0, small 1, small 2, small 3, small 4, small 5, small 6, small 7)
bit_of_eight bits small (suc zero) h = omega (arith, small 0, small 1, small 2, small 3, small 4, small 5, small 6, small 7)
bit_of_eight bits small (suc (suc zero)) h = omega (arith, small 0, small 1, small 2, small 3, small 4, small 5, small 6, small 7)
bit_of_eight bits small (suc (suc (suc zero))) h = omega (arith, small 0, small 1, small 2, small 3, small 4, small 5, small 6, small 7)
bit_of_eight bits small (suc (suc (suc (suc zero)))) h = omega (arith, small 0, small 1, small 2, small 3, small 4, small 5, small 6, small 7)
bit_of_eight bits small (suc (suc (suc (suc (suc zero))))) h = omega (arith, small 0, small 1, small 2, small 3, small 4, small 5, small 6, small 7)
bit_of_eight bits small (suc (suc (suc (suc (suc (suc zero)))))) h = omega (arith, small 0, small 1, small 2, small 3, small 4, small 5, small 6, small 7)
bit_of_eight bits small (suc (suc (suc (suc (suc (suc (suc zero))))))) h = omega (arith, small 0, small 1, small 2, small 3, small 4, small 5, small 6, small 7)
bit_of_eight bits small (suc (suc (suc (suc (suc (suc (suc (suc i)))))))) h = absurd (omega arith)

dot_small : (y : ℕ) (window : List ℕ) (x : ℕ) → dot_bit y window x < 2
dot_small y window x = go (ltb x (length window)) (is_dot (tone (get_or window x 0)) x y)
  where
    go : (inside dot : Bool) → cond inside (bit dot) 0 < 2
    go true true = omega arith
    go true false = omega arith
    go false dot = omega arith

-- the bit at column x of a line
pub bit_of_line : (y : ℕ) (window : List ℕ) (x : ℕ) → x / 8 < line_bytes (length window)
    → get_or (line y window) (x / 8) 0 / 2 ^ (7 - x % 8) % 2 ≡ dot_bit y window x
unfolding line_byte
bit_of_line y window x h =
    ap (λ (b : ℕ). b / 2 ^ (7 - x % 8) % 2) (line_at y window (x / 8) h)
    ∙ bit_of_eight (λ i. dot_bit y window (8 * (x / 8) + i)) (λ i. dot_small y window (8 * (x / 8) + i)) (x % 8) (omega arith)
    ∙ ap (dot_bit y window) {x = 8 * (x / 8) + x % 8} {y = x} (omega arith)

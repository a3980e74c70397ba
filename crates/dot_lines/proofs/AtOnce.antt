-- Eight samples compared at once: what masks do to four numbers in a word, what is left of 255 and a cut less a sample, and how eight bits
-- are gathered in a byte.
use Prim.Native.Nat.{ℕ, ◌+◌, ◌-◌, ◌*◌, ◌/◌, ◌%◌, ◌≤◌, ◌<◌}
use native.Mathlib.Nat.{le_of_eq, le_trans, lt_of_not-le}
use native.Mathlib.Decide.{dec_le}
use native.Mathlib.Omega.{arith}
use mathlib.Core.Path.{◌≡◌, ◌∙◌, sym, ap, ap₂}
use mathlib.Core.Bool.{Bool, true, false}
use mathlib.Core.List.{List}
use lib.ListN.{get_or}
use lib.Dec.{ltb}
use lib.Bits.{bit_and, and_block, and_mask}
use borrow.Author.Tests.{lt-ltb, le-ltb}
use Rattle.std.specs.Int.{w64, from_le_bytes}
use Rattle.dots.specs.Tone.{tone}
use Rattle.dots.specs.Dot.{is_dot, bit}
use Rattle.dots.specs.Matrix.{level}
use Rattle.dot_lines.specs.Private.{cut, lanes, cuts_from, gathered, dots_of}
use Rattle.dot_lines.proofs.Threshold.{cut_small, below_the_cut}

-- a mask goes lane by lane
by_lanes : (p q r s m : ℕ) → p < 65536 → q < 65536 → r < 65536 → m < 65536
    → bit_and (lanes p q r s) (lanes m m m m) ≡ lanes (bit_and p m) (bit_and q m) (bit_and r m) (bit_and s m)
by_lanes p q r s m hp hq hr hm =
    and_block 16 ((s * 65536 + r) * 65536 + q) ((m * 65536 + m) * 65536 + m) p m hp hm
    ∙ ap (λ (w : ℕ). w * 65536 + bit_and p m)
    (and_block 16 (s * 65536 + r) (m * 65536 + m) q m hq hm
    ∙ ap (λ (w : ℕ). w * 65536 + bit_and q m) (and_block 16 s m r m hr hm))

-- four numbers of two bytes each: their low bytes and their high bytes
module _ (a b c d e f g h : ℕ) (ha : a < 256) (hb : b < 256) (hc : c < 256) (hd : d < 256) (he : e < 256) (hf : f < 256) (hg : g < 256) (hh : h < 256) where
  byte : (x y : ℕ) → x < 256 → bit_and (x + 256 * y) 255 ≡ x
  byte x y k = and_mask (x + 256 * y) 8 ∙ omega arith

  pub low_bytes : bit_and (lanes (a + 256 * b) (c + 256 * d) (e + 256 * f) (g + 256 * h)) 71777214294589695 ≡ lanes a c e g
  low_bytes =
      by_lanes (a + 256 * b) (c + 256 * d) (e + 256 * f) (g + 256 * h) 255 (omega arith) (omega arith) (omega arith) (omega arith)
      ∙ omega (arith, byte a b ha, byte c d hc, byte e f he, byte g h hg)

  pub high_bytes : bit_and (lanes (a + 256 * b) (c + 256 * d) (e + 256 * f) (g + 256 * h) / 256) 71777214294589695 ≡ lanes b d f h
  high_bytes =
      ap (λ (w : ℕ). bit_and w 71777214294589695)
      {x = lanes (a + 256 * b) (c + 256 * d) (e + 256 * f) (g + 256 * h) / 256} {y = lanes (b + 256 * c) (d + 256 * e) (f + 256 * g) h} (omega arith)
      ∙ by_lanes (b + 256 * c) (d + 256 * e) (f + 256 * g) h 255 (omega arith) (omega arith) (omega arith) (omega arith)
      ∙ omega (arith, byte b c hb, byte d e hd, byte f g hf, and_mask h 8)

-- bit 8 of each of four numbers
pub high_bits : (p q r s : ℕ) → p < 512 → q < 512 → r < 512 → s < 512
    → bit_and (lanes p q r s / 256) 281479271743489 ≡ lanes (p / 256) (q / 256) (r / 256) (s / 256)
high_bits p q r s hp hq hr hs =
    ap (λ (w : ℕ). bit_and w 281479271743489) lower
    ∙ by_lanes (p / 256 + 256 * (q % 256)) (q / 256 + 256 * (r % 256)) (r / 256 + 256 * (s % 256)) (s / 256) 1 (omega arith) (omega arith) (omega arith) (omega arith)
    ∙ omega (arith, lowest p q hp, lowest q r hq, lowest r s hr, and_mask (s / 256) 1, hs)
  where
    lower : lanes p q r s / 256 ≡ lanes (p / 256 + 256 * (q % 256)) (q / 256 + 256 * (r % 256)) (r / 256 + 256 * (s % 256)) (s / 256)
    lower = omega arith

    lowest : (x y : ℕ) → x < 512 → bit_and (x / 256 + 256 * (y % 256)) 1 ≡ x / 256
    lowest x y k = and_mask (x / 256 + 256 * (y % 256)) 1 ∙ omega arith

-- bit 8 of what is left says whether the sample is below the cut
pub left_says : (s k : ℕ) → s < 256 → k < 256 → (255 + k - s) / 256 ≡ bit (ltb s k)
left_says s k hs hk =
    elim (dec_le k s) [
      | yes g ↦ omega arith ∙ ap bit (sym (le-ltb s k g))
      | no g ↦ omega (arith, lt_of_not-le g) ∙ ap bit (sym (lt-ltb s k (lt_of_not-le g)))
    ]

-- four times two bits, gathered: the upper half is laid beside the lower one, and then the upper half of that
module _ (p q r s : ℕ) (hp : p < 4) (hq : q < 4) (hr : r < 4) (hs : s < 4) where
  abbrev upper : ℕ
  upper = (16 * s * 65536 + 16 * r) * 65536 + (16 * q + s)

  abbrev beyond : ℕ
  beyond = 1024 * upper + 256 * (16 * s * 65536 + 16 * r)

  halves : 16 * lanes p q r s + lanes p q r s / 4294967296 ≡ upper * 65536 + (16 * p + r)
  halves =
      let top : lanes p q r s / 4294967296 ≡ s * 65536 + r = omega arith in
      omega (arith, top)

  quarters : (upper * 65536 + (16 * p + r)) / 65536 ≡ upper
  quarters = omega arith

  lowest : (x y : ℕ) → x < 256 → (x + 256 * y) % 256 ≡ x
  lowest x y h = omega arith

  four_pairs : gathered (lanes p q r s) ≡ 64 * p + 16 * q + 4 * r + s
  four_pairs =
      ap (λ (w : ℕ). (4 * w + w / 65536) % 256) halves
      ∙ ap (λ (w : ℕ). (4 * (upper * 65536 + (16 * p + r)) + w) % 256) quarters
      ∙ ap (λ (w : ℕ). w % 256) {y = 64 * p + 16 * q + 4 * r + s + 256 * beyond} (omega arith)
      ∙ lowest (64 * p + 16 * q + 4 * r + s) beyond (omega arith)

-- eight bits gathered
pub gathers : (a b c d e f g h : ℕ) → a < 2 → b < 2 → c < 2 → d < 2 → e < 2 → f < 2 → g < 2 → h < 2
    → gathered (2 * lanes a c e g + lanes b d f h) ≡ 128 * a + 64 * b + 32 * c + 16 * d + 8 * e + 4 * f + 2 * g + h
gathers a b c d e f g h ha hb hc hd he hf hg hh =
    ap gathered {y = lanes (2 * a + b) (2 * c + d) (2 * e + f) (2 * g + h)} (omega arith)
    ∙ four_pairs (2 * a + b) (2 * c + d) (2 * e + f) (2 * g + h) (omega arith) (omega arith) (omega arith) (omega arith)
    ∙ omega arith

-- four samples taken from four cuts: enough is there, and of what is left bit 8 says which samples are below
module _ (a b c d p q r s : ℕ) (ha : a < 256) (hb : b < 256) (hc : c < 256) (hd : d < 256) (hp : p < 256) (hq : q < 256) (hr : r < 256) (hs : s < 256) where
  pub enough : lanes a b c d ≤ lanes (255 + p) (255 + q) (255 + r) (255 + s)
  enough = omega arith

  pub four_compared : bit_and ((lanes (255 + p) (255 + q) (255 + r) (255 + s) - lanes a b c d) / 256) 281479271743489
      ≡ lanes (bit (ltb a p)) (bit (ltb b q)) (bit (ltb c r)) (bit (ltb d s))
  four_compared =
      ap (λ (w : ℕ). bit_and (w / 256) 281479271743489)
      {x = lanes (255 + p) (255 + q) (255 + r) (255 + s) - lanes a b c d} {y = lanes (255 + p - a) (255 + q - b) (255 + r - c) (255 + s - d)} (omega arith)
      ∙ high_bits (255 + p - a) (255 + q - b) (255 + r - c) (255 + s - d) (omega arith) (omega arith) (omega arith) (omega arith)
      ∙ omega (arith, left_says a p ha hp, left_says b q hb hq, left_says c r hc hr, left_says d s hd hs)

pub bit_small : (b : Bool) → bit b < 2
bit_small true = omega arith
bit_small false = omega arith

-- ---- the words of the code

-- the words of eight samples
module _ (v : List ℕ) (small : (i : ℕ) → get_or v i 0 < 256) where
  abbrev at : ℕ → ℕ
  at i = get_or v i 0

  as_lanes : from_le_bytes w64 v ≡ lanes (at 0 + 256 * at 1) (at 2 + 256 * at 3) (at 4 + 256 * at 5) (at 6 + 256 * at 7)
  as_lanes = omega arith

  module _ (word : ℕ) (is : word ≡ from_le_bytes w64 v) where
    pub of_even : bit_and word 71777214294589695 ≡ lanes (at 0) (at 2) (at 4) (at 6)
    of_even =
        ap (λ (w : ℕ). bit_and w 71777214294589695) (is ∙ as_lanes)
        ∙ low_bytes (at 0) (at 1) (at 2) (at 3) (at 4) (at 5) (at 6) (at 7) (small 0) (small 1) (small 2) (small 3) (small 4) (small 5) (small 6) (small 7)

    pub of_odd : bit_and (word / 256) 71777214294589695 ≡ lanes (at 1) (at 3) (at 5) (at 7)
    of_odd =
        ap (λ (w : ℕ). bit_and (w / 256) 71777214294589695) (is ∙ as_lanes)
        ∙ high_bytes (at 0) (at 1) (at 2) (at 3) (at 4) (at 5) (at 6) (at 7) (small 0) (small 1) (small 2) (small 3) (small 4) (small 5) (small 6) (small 7)

  module _ (y : ℕ) where
    -- the dot of a column, by its cut and by its tone
    abbrev dot : ℕ → ℕ
    dot i = bit (is_dot (tone (at i)) i y)

    by_cut : (i : ℕ) → bit (ltb (at i) (cut (level y i))) ≡ dot i
    by_cut i = ap bit (below_the_cut (at i) (level y i) (small i))

    -- of each second column from x on: enough is there, and the dots
    module _ (x cuts samples : ℕ) (are : cuts ≡ cuts_from x y) (is : samples ≡ lanes (at x) (at (x + 2)) (at (x + 4)) (at (x + 6))) where
      pub cuts_enough : samples ≤ cuts
      unfolding cuts_from
      cuts_enough =
          le_trans (le_of_eq is)
          (le_trans
          (enough (at x) (at (x + 2)) (at (x + 4)) (at (x + 6)) (cut (level y x)) (cut (level y (x + 2))) (cut (level y (x + 4))) (cut (level y (x + 6)))
          (small x) (small (x + 2)) (small (x + 4)) (small (x + 6)) (cut_small y x) (cut_small y (x + 2)) (cut_small y (x + 4)) (cut_small y (x + 6)))
          (le_of_eq (sym are)))

      pub dots_left : bit_and ((cuts - samples) / 256) 281479271743489 ≡ lanes (dot x) (dot (x + 2)) (dot (x + 4)) (dot (x + 6))
      unfolding cuts_from
      dots_left =
          ap₂ (λ (k w : ℕ). bit_and ((k - w) / 256) 281479271743489) are is
          ∙ four_compared (at x) (at (x + 2)) (at (x + 4)) (at (x + 6)) (cut (level y x)) (cut (level y (x + 2))) (cut (level y (x + 4))) (cut (level y (x + 6)))
          (small x) (small (x + 2)) (small (x + 4)) (small (x + 6)) (cut_small y x) (cut_small y (x + 2)) (cut_small y (x + 4)) (cut_small y (x + 6))
          ∙ omega (arith, by_cut x, by_cut (x + 2), by_cut (x + 4), by_cut (x + 6))

    pub dots_gathered : (even odd : ℕ) → even ≡ lanes (dot 0) (dot 2) (dot 4) (dot 6) → odd ≡ lanes (dot 1) (dot 3) (dot 5) (dot 7)
        → gathered (2 * even + odd) ≡ dots_of y v
    unfolding dots_of
    dots_gathered even odd p q =
        ap₂ (λ (m n : ℕ). gathered (2 * m + n)) p q
        ∙ gathers (dot 0) (dot 1) (dot 2) (dot 3) (dot 4) (dot 5) (dot 6) (dot 7)
        (bit_small (is_dot (tone (at 0)) 0 y)) (bit_small (is_dot (tone (at 1)) 1 y)) (bit_small (is_dot (tone (at 2)) 2 y)) (bit_small (is_dot (tone (at 3)) 3 y))
        (bit_small (is_dot (tone (at 4)) 4 y)) (bit_small (is_dot (tone (at 5)) 5 y)) (bit_small (is_dot (tone (at 6)) 6 y)) (bit_small (is_dot (tone (at 7)) 7 y))

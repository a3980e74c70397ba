-- How a writer's promise is met: by a refusal with nothing written, or by what it writes followed by the rest.
use Prim.Native.Nat.{ℕ, suc, ◌+◌, ◌-◌, ◌≤◌, ◌<◌, zero-le}
use native.Mathlib.Nat.{le_of_eq}
use native.Mathlib.Omega.{arith}
use mathlib.Core.Path.{◌≡◌, refl, ◌∙◌, sym, ap}
use mathlib.Core.List.{List, ◌∷◌, ◌++◌, append_assoc, append-nil}
use lib.ListN.{length, get_or, set, take, drop, length-append, length-drop, drop_of_length-le}
use native.Mathlib.Numerals.{add-one}
use lib.Seq.{take_at, drop_at, drop-drop, drop-cons, take-suc, set_at, append_snoc, length-take-le}
use borrow.Rule.Slice.PartMut.{put_mid}
use Rattle.answer.specs.Outcome.{Outcome, answer, refuse}
use Rattle.answer.specs.Filled.{Writes, amount, filled}

module _ {x : Outcome (List ℕ)} (old : List ℕ) where
  pub refused_writes_nothing : {n p : ℕ} → x ≡ refuse n p → Writes x old (refuse n p) old
  refused_writes_nothing e = record { answers = ap amount (sym e); leaves = ap (λ (y : Outcome (List ℕ)). filled y old) (sym e) }

  pub written_to_the_front : {w : List ℕ} (n : ℕ) → length w ≡ n → x ≡ answer w → Writes x old (answer n) (w ++ drop (length w) old)
  written_to_the_front n h e =
      record { answers = ap answer (sym h) ∙ ap amount (sym e); leaves = ap (λ (y : Outcome (List ℕ)). filled y old) (sym e) }

-- A part that was lent from byte n on, `&mut out[n..]`, put back: what stands in front of it stays.
pub put_behind : (n : ℕ) (out back : List ℕ) → put_mid n (length out - n) out back ≡ take n out ++ back
put_behind n out back =
    ap (λ (rest : List ℕ). take n out ++ rest)
    (ap (λ (after : List ℕ). back ++ after) (drop_of_length-le (drop n out) {i = length out - n} (le_of_eq (length-drop n out))) ∙ append-nil back)

-- Two pieces copied side by side, the first to the front and the second behind it: the lent memory then holds them and the rest of
-- what it held.
pub pieces_put : (w ys old : List ℕ) (n m : ℕ) → length w ≡ n → length ys ≡ m
    → put_mid n m (w ++ drop n old) ys ≡ (w ++ ys) ++ drop (length (w ++ ys)) old
pieces_put w ys old n m h k =
    let both : m + n ≡ length (w ++ ys) = omega (arith, length-append w ys) in
    let rest : drop m (drop n old) ≡ drop (length (w ++ ys)) old = drop-drop m n old ∙ ap (λ (i : ℕ). drop i old) (omega (arith, both)) in
    rw (take_at w (drop n old) n h, drop_at w (drop n old) n h, rest)
    (sym (append_assoc w ys (drop (length (w ++ ys)) old)))

-- A loop that writes `xs` over `old` from the front, one a turn: after i turns the list holds the first i of `xs` and the rest
-- of `old`.
module _ (xs old : List ℕ) (i : ℕ) where
  one_more_written : (v : ℕ) → i < length xs → i < length old → v ≡ get_or xs i 0
      → set (take i xs ++ drop i old) i v ≡ take (i + 1) xs ++ drop (i + 1) old
  one_more_written v h k e =
      ap (λ (t : List ℕ). set (take i xs ++ t) i v) (drop-cons old i 0 k)
      ∙ set_at (take i xs) (get_or old i 0) (drop (suc i) old) v i (length-take-le i xs (omega arith))
      ∙ ap (λ (w : ℕ). take i xs ++ w ∷ drop (suc i) old) e
      ∙ sym (append_snoc (take i xs) (get_or xs i 0) (drop (suc i) old))
      ∙ ap (λ (t : List ℕ). t ++ drop (suc i) old) (sym (take-suc xs i 0 h))
      ∙ ap (λ (n : ℕ). take n xs ++ drop n old) (sym (add-one i))

  pub written_length : i ≤ length xs → i ≤ length old → length (take i xs ++ drop i old) ≡ length old
  written_length h k = length-append (take i xs) (drop i old) ∙ omega (arith, length-take-le i xs h, length-drop i old)

-- The invariant of a loop that writes the first n of `xs`.
pub record Putting (xs old list : List ℕ) (n i : ℕ) : Type 0 where
  pub within : i ≤ n
  pub holds : list ≡ take i xs ++ drop i old

module _ (xs old : List ℕ) (n : ℕ) where
  pub nothing_put : Putting xs old old n 0
  nothing_put = record { within = zero-le; holds = refl }

  module _ (list : List ℕ) (i : ℕ) (p : Putting xs old list n i) (h : n ≤ length xs) (k : n ≤ length old) where
    pub one_put : (v : ℕ) → i < n → v ≡ get_or xs i 0 → Putting xs old (set list i v) n (i + 1)
    one_put v more e = record {
      within = omega arith;
      holds = ap (λ (l : List ℕ). set l i v) p.holds ∙ one_more_written xs old i v (omega arith) (omega arith) e;
    }

    pub same_long : length list ≡ length old
    same_long = ap length p.holds ∙ written_length xs old i (omega (arith, p.within)) (omega (arith, p.within))

  pub all_put : (list : List ℕ) (i : ℕ) → Putting xs old list n i → n ≤ i → list ≡ take n xs ++ drop n old
  all_put list i p h = p.holds ∙ ap (λ (m : ℕ). take m xs ++ drop m old) {x = i} {y = n} (omega (arith, p.within))

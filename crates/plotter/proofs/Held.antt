-- Lines drawn one after the other, whatever rows they are of: after j of them the buffer holds their lines, the first of them line y, and behind
-- them what it held.
use Prim.Native.Nat.{ℕ, ◌+◌, ◌*◌, ◌≤◌}
use native.Mathlib.Nat.{zero-mul, add-mul}
use native.Mathlib.Omega.{arith}
use mathlib.Core.Path.{◌≡◌, refl, ◌∙◌, sym, ap, ap₂, subst}
use mathlib.Core.List.{List, [], ◌∷◌, ◌++◌, map, append-nil, map-append}
use lib.ListN.{length, take, drop, length-append, length-drop, length-map}
use lib.Seq.{take_at, drop_at, drop-drop, length-take-le}
use Rattle.answer.specs.Window.{bytes_at, window_at}
use Rattle.answer.specs.declared.Shown.{Shown}
use Rattle.dot_lines.specs.Line.{line_bytes, line, lines}
use Rattle.dot_lines.proofs.Lines.{AllWide, wide_both, lines_of_both, lines_long}
use Rattle.reader.specs.Demand3.{shown_bytes}

-- the bytes of a row's window
abbrev pub window_bytes : List ℕ → ℕ → ℕ → Shown → List ℕ
window_bytes f a c row = shown_bytes f (window_at a c row)

pub bytes_wide : (f : List ℕ) (place c : ℕ) → place + c ≤ length f → length (bytes_at f place c) ≡ c
bytes_wide f place c h = length-take-le c (drop place f) (omega (arith, length-drop place f, h))

one_line : (y : ℕ) (window : List ℕ) → lines y (window ∷ []) ≡ line y window
one_line y window = append-nil (line y window)

pub record Held (f : List ℕ) (a c y : ℕ) (old out : List ℕ) (rows : List Shown) (j : ℕ) : Type 0 where
  pub many : length rows ≡ j
  pub wide : AllWide c (map (window_bytes f a c) rows)
  pub holds : out ≡ lines y (map (window_bytes f a c) rows) ++ drop (j * line_bytes c) old

module _ (f : List ℕ) (a c y : ℕ) (old : List ℕ) where
  pub nothing_held : Held f a c y old old [] 0
  nothing_held = record {
    many = refl;
    wide = tt;
    holds = ap (λ (k : ℕ). drop k old) {x = 0} {y = 0 * line_bytes c} (omega (arith, zero-mul (line_bytes c)));
  }

  module _ (out : List ℕ) (rows : List Shown) (j : ℕ) (h : Held f a c y old out rows j) where
    pub held_long : length (lines y (map (window_bytes f a c) rows)) ≡ j * line_bytes c
    held_long = lines_long c y (map (window_bytes f a c) rows) h.wide ∙ ap (λ (k : ℕ). k * line_bytes c) (length-map rows (window_bytes f a c) ∙ h.many)

    pub held_size : j * line_bytes c ≤ length old → length out ≡ length old
    held_size room =
        ap length h.holds
        ∙ length-append (lines y (map (window_bytes f a c) rows)) (drop (j * line_bytes c) old)
        ∙ omega (arith, held_long, length-drop (j * line_bytes c) old, room)

    front_is : take (j * line_bytes c) out ≡ lines y (map (window_bytes f a c) rows)
    front_is = ap (take (j * line_bytes c)) h.holds ∙ take_at (lines y (map (window_bytes f a c) rows)) (drop (j * line_bytes c) old) (j * line_bytes c) held_long

    back_is : drop (j * line_bytes c + line_bytes c) out ≡ drop ((j + 1) * line_bytes c) old
    back_is =
        sym (drop-drop (line_bytes c) (j * line_bytes c) out)
        ∙ ap (λ (l : List ℕ). drop (line_bytes c) (drop (j * line_bytes c) l)) h.holds
        ∙ ap (drop (line_bytes c)) (drop_at (lines y (map (window_bytes f a c) rows)) (drop (j * line_bytes c) old) (j * line_bytes c) held_long)
        ∙ drop-drop (line_bytes c) (j * line_bytes c) old
        ∙ ap (λ (k : ℕ). drop k old) {x = j * line_bytes c + line_bytes c} {y = (j + 1) * line_bytes c} (omega (arith, add-mul j 1 (line_bytes c)))

    one_line_more : (window : List ℕ) → lines y (map (window_bytes f a c) rows ++ window ∷ []) ≡ lines y (map (window_bytes f a c) rows) ++ line (y + j) window
    one_line_more window =
        lines_of_both y (map (window_bytes f a c) rows) (window ∷ [])
        ∙ ap (λ (l : List ℕ). lines y (map (window_bytes f a c) rows) ++ l)
        (one_line (y + length (map (window_bytes f a c) rows)) window
        ∙ ap (λ (k : ℕ). line (y + k) window) (length-map rows (window_bytes f a c) ∙ h.many))

    pub held_more : (row : Shown) → row.part.place + a + c ≤ length f → (after : List ℕ)
        → after ≡ take (j * line_bytes c) out ++ line (y + j) (window_bytes f a c row) ++ drop (j * line_bytes c + line_bytes c) out
        → Held f a c y old after (rows ++ row ∷ []) (j + 1)
    held_more row inside after e =
        let window = window_bytes f a c row in
        let all : map (window_bytes f a c) (rows ++ row ∷ []) ≡ map (window_bytes f a c) rows ++ window ∷ [] = map-append (window_bytes f a c) rows (row ∷ []) in
        record {
          many = length-append rows (row ∷ []) ∙ omega (arith, h.many);
          wide = subst (AllWide c) (sym all) (wide_both c (map (window_bytes f a c) rows) (window ∷ []) h.wide (bytes_wide f (row.part.place + a) c inside, tt));
          holds =
              e
              ∙ ap₂ (λ (l r : List ℕ). l ++ line (y + j) window ++ r) front_is back_is
              ∙ ap (λ (l : List ℕ). l ++ drop ((j + 1) * line_bytes c) old) (sym (ap (lines y) all ∙ one_line_more window));
        }

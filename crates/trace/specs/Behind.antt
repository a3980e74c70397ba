-- Which byte stands behind a dot: the place of it, the byte, its tone, and whether the dot is set (document 02, item 7: "byte x of the window
-- stands at column x", traced from column x of line y).
use Rattle.std.specs.Prelude.{ℕ, ◌+◌, List, [], ◌∷◌, get_or, ltb}
use Rattle.answer.specs.Outcome.{Outcome, answer, need, and_then}
use Rattle.dots.specs.Tone as curve
use Rattle.dots.specs.Dot.{is_dot, bit}
use Rattle.reader.specs.Read.{read_row}
use Rattle.reader.specs.declared.Kind.{Kind}
use Rattle.trace.specs.declared.Dot.{Dot}

-- the dot at column x of line y, whose byte stands at a place of the file
abbrev pub dot_from : List ℕ → ℕ → ℕ → ℕ → Dot
dot_from f x y place = record {
  place = place;
  byte = get_or f place 0;
  tone = curve.tone (get_or f place 0);
  set = is_dot (curve.tone (get_or f place 0)) x y;
}

-- the refusals of reading row first + y with the window, then 7 where column x is not inside it
unfoldable pub dot_behind : Kind → List ℕ → (first a c x y : ℕ) → Outcome Dot
dot_behind kind f first a c x y =
    and_then (read_row kind f (first + y) a c) (λ window. need (ltb x c) 7 (answer (dot_from f x y (window.part.place + x))))

-- a dot in four numbers, at the C boundary: whether it is set is 1 or 0
abbrev pub dot_numbers : Dot → List ℕ
dot_numbers dot = dot.place ∷ dot.byte ∷ dot.tone ∷ bit dot.set ∷ []

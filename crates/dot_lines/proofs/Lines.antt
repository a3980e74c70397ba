-- Lines end to end: those of two lists of windows are those of the first and then those of the second, and with windows of one width a
-- line stands where its number says.
use Prim.Native.Nat.{ℕ, zero, suc, ◌+◌, ◌*◌, ◌<◌}
use native.Mathlib.Nat.{not-suc-le-zero, zero-mul, suc-mul}
use native.Mathlib.Omega.{arith}
use mathlib.Core.Path.{◌≡◌, ◌∙◌, sym, ap, ap₂}
use mathlib.Core.List.{List, [], ◌∷◌, ◌++◌, append_assoc}
use lib.ListN.{length, get_or, length-append, get_or-append}
use lib.Seq.{get_or-append-add}
use Rattle.dot_lines.specs.Line.{line_bytes, line, lines}
use Rattle.dot_lines.proofs.Bytes.{line_long}

pub lines_of_both : (y : ℕ) (xs ys : List (List ℕ)) → lines y (xs ++ ys) ≡ lines y xs ++ lines (y + length xs) ys
lines_of_both y [] ys = ap (λ (k : ℕ). lines k ys) {x = y} {y = y + 0} (omega arith)
lines_of_both y (x ∷ xs) ys =
    ap (λ (bs : List ℕ). line y x ++ bs) (lines_of_both (suc y) xs ys ∙ ap (λ (k : ℕ). lines (suc y) xs ++ lines k ys) {x = suc y + length xs} {y = y + suc (length xs)} (omega arith))
    ∙ sym (append_assoc (line y x) (lines (suc y) xs) (lines (y + suc (length xs)) ys))

-- all windows have c bytes
abbrev pub AllWide : ℕ → List (List ℕ) → Type 0
AllWide c [] = Unit
AllWide c (window ∷ windows) = (length window ≡ c) × AllWide c windows

pub wide_both : (c : ℕ) (xs ys : List (List ℕ)) → AllWide c xs → AllWide c ys → AllWide c (xs ++ ys)
wide_both c [] ys p q = q
wide_both c (x ∷ xs) ys (p, ps) q = (p, wide_both c xs ys ps q)

pub lines_long : (c y : ℕ) (windows : List (List ℕ)) → AllWide c windows → length (lines y windows) ≡ length windows * line_bytes c
lines_long c y [] p = sym (zero-mul (line_bytes c))
lines_long c y (x ∷ xs) (p, ps) =
    length-append (line y x) (lines (suc y) xs)
    ∙ ap₂ ◌+◌ (line_long y x ∙ ap line_bytes p) (lines_long c (suc y) xs ps)
    ∙ omega (arith, suc-mul (length xs) (line_bytes c))

-- byte j of line y + k
pub byte_of_lines : (c y : ℕ) (windows : List (List ℕ)) → AllWide c windows → (k j : ℕ) → k < length windows → j < line_bytes c
    → get_or (lines y windows) (k * line_bytes c + j) 0 ≡ get_or (line (y + k) (get_or windows k [])) j 0
byte_of_lines c y [] p k j h g = absurd (not-suc-le-zero h)
byte_of_lines c y (x ∷ xs) (p, ps) zero j h g =
    ap (λ (n : ℕ). get_or (line y x ++ lines (suc y) xs) n 0) {x = 0 * line_bytes c + j} {y = j} (omega (arith, zero-mul (line_bytes c)))
    ∙ get_or-append (line y x) (lines (suc y) xs) 0 j (omega (arith, line_long y x, ap line_bytes p, g))
    ∙ ap (λ (n : ℕ). get_or (line n x) j 0) {x = y} {y = y + 0} (omega arith)
byte_of_lines c y (x ∷ xs) (p, ps) (suc k) j h g =
    ap (λ (n : ℕ). get_or (line y x ++ lines (suc y) xs) n 0) {x = suc k * line_bytes c + j} {y = length (line y x) + (k * line_bytes c + j)}
    (omega (arith, suc-mul k (line_bytes c), line_long y x, ap line_bytes p))
    ∙ get_or-append-add (line y x) (lines (suc y) xs) (k * line_bytes c + j) 0
    ∙ byte_of_lines c (suc y) xs ps k j (omega arith) g
    ∙ ap (λ (n : ℕ). get_or (line n (get_or xs k [])) j 0) {x = suc y + k} {y = y + suc k} (omega arith)

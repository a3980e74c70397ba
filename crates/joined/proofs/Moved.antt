-- Rows that stand so many bytes further on: the leaves of a forest behind so many bytes are its leaves, moved; and moving by a sum, and by
-- nothing.
use Prim.Native.Nat.{ℕ, suc, ◌+◌}
use native.Mathlib.Nat.{zero-add}
use native.Mathlib.Omega.{arith}
use mathlib.Core.Path.{◌≡◌, refl, ◌∙◌, sym, ap, ap₂}
use mathlib.Core.List.{List, [], ◌∷◌, ◌++◌, map, map-append}
use lib.ListN.{length}
use Rattle.sfdu.specs.Row.{Row}
use Rattle.sfdu.specs.Forest.{Forest, done, leaf, group, encode, leaves}
use Rattle.joined.specs.Joined.{moved_by}

-- the outermost objects move with the rest
pub leaves_move : (n depth : ℕ) (outermost before : ℕ → ℕ) → ((p : ℕ) → outermost (n + p) ≡ n + before p) → (F : Forest) (at : ℕ)
    → leaves depth outermost (n + at) F ≡ map (moved_by n) (leaves depth before at F)
leaves_move n depth outermost before h done at = refl
leaves_move n depth outermost before h (leaf label value rest) at =
    ap₂ (λ (top : ℕ) (rs : List Row). record { label = n + at; size = length value; depth = depth; outermost = top } ∷ rs) (h at)
    (ap (λ (p : ℕ). leaves depth outermost p rest) {x = n + at + (20 + length value)} {y = n + (at + (20 + length value))} (omega arith)
    ∙ leaves_move n depth outermost before h rest (at + (20 + length value)))
leaves_move n depth outermost before h (group label inside rest) at =
    let inner = leaves (suc depth) (λ _. before at) (at + 20) inside in
    let size = length (encode inside) in
    ap₂ ◌++◌
    (ap (λ (p : ℕ). leaves (suc depth) (λ _. outermost (n + at)) p inside) {x = n + at + 20} {y = n + (at + 20)} (omega arith)
    ∙ leaves_move n (suc depth) (λ _. outermost (n + at)) (λ _. before at) (λ _. h at) inside (at + 20))
    (ap (λ (p : ℕ). leaves depth outermost p rest) {x = n + at + (20 + size)} {y = n + (at + (20 + size))} (omega arith)
    ∙ leaves_move n depth outermost before h rest (at + (20 + size)))
    ∙ sym (map-append (moved_by n) inner (leaves depth before (at + (20 + size)) rest))

-- moved twice, and not moved
pub moved_twice : (m n : ℕ) (rows : List Row) → map (moved_by m) (map (moved_by n) rows) ≡ map (moved_by (m + n)) rows
moved_twice m n [] = refl
moved_twice m n (r ∷ rs) =
    ap₂ (λ (q : Row) (qs : List Row). q ∷ qs)
    (ap₂ (λ (label top : ℕ). record { label = label; size = r.size; depth = r.depth; outermost = top })
    {x = m + (n + r.label)} {y = m + n + r.label} {u = m + (n + r.outermost)} {v = m + n + r.outermost} (omega arith) (omega arith))
    (moved_twice m n rs)

pub not_moved : (rows : List Row) → map (moved_by 0) rows ≡ rows
not_moved [] = refl
not_moved (r ∷ rs) =
    ap₂ (λ (q : Row) (qs : List Row). q ∷ qs)
    (ap₂ (λ (label top : ℕ). record { label = label; size = r.size; depth = r.depth; outermost = top }) (zero-add r.label) (zero-add r.outermost))
    (not_moved rs)

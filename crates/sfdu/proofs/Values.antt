-- The bytes of a row are the leaf's value: over a valid forest that stands at a place of some bytes, what the bytes show at the
-- forest's leaves are the forest's values, in order. One induction over the forest.
use Prim.Native.Nat.{ℕ, zero, suc, ◌+◌}
use native.Mathlib.Omega.{arith}
use mathlib.Core.Path.{◌≡◌, refl, ◌∙◌, sym, ap, ap₂}
use mathlib.Core.Bool.{Bool}
use mathlib.Core.List.{List, [], ◌∷◌, ◌++◌, append-nil, map}
use lib.ListN.{length, take, drop}
use lib.Seq.{take_at, drop_at, drop-drop}
use Rattle.label.specs.declared.Versions.{Versions}
use Rattle.sfdu.specs.Row.{Row, row_bytes}
use Rattle.sfdu.specs.Forest.{Forest, done, leaf, group, encode, IsLabel, Valid, leaves, values}
use Rattle.sfdu.proofs.Forests.{three, front_drop}
use Rattle.sfdu.proofs.Exact.{DividesFile}

map-append : {A B : Type 0} (f : A → B) (xs ys : List A) → map f (xs ++ ys) ≡ map f xs ++ map f ys
map-append f [] ys = refl
map-append f (x ∷ xs) ys = ap (λ (zs : List _). f x ∷ zs) (map-append f xs ys)

-- which versions of the label are allowed
module _ (versions : Versions) where
  -- what stands behind a label, and behind its value
  module _ (f label value u : List ℕ) (opened : Bool) (is : IsLabel versions label opened (length value)) (at : ℕ) (e : drop at f ≡ label ++ (value ++ u)) where
    behind_label : drop (at + 20) f ≡ value ++ u
    behind_label = sym (drop-drop 20 at f) ∙ ap (drop 20) e ∙ front_drop versions label value u opened is

    behind_value : drop (at + (20 + length value)) f ≡ u
    behind_value =
        ap (λ (n : ℕ). drop n f) {x = at + (20 + length value)} {y = at + 20 + length value} (omega arith)
        ∙ sym (drop-drop (length value) (at + 20) f) ∙ ap (drop (length value)) behind_label ∙ drop_at value u (length value) refl

  values_stand : (f : List ℕ) (left depth : ℕ) (outermost : ℕ → ℕ) (F : Forest) → Valid versions left F → (at : ℕ) (t : List ℕ) → drop at f ≡ encode F ++ t
      → map (row_bytes f) (leaves depth outermost at F) ≡ values F
  values_stand f zero depth outermost done v at t e = refl
  values_stand f (suc left) depth outermost done v at t e = refl
  values_stand f zero depth outermost (leaf label value rest) v at t e = absurd v
  values_stand f zero depth outermost (group label inside rest) v at t e = absurd v
  values_stand f (suc left) depth outermost (leaf label value rest) v at t e =
      let s = e ∙ three label value (encode rest) t in
      ap₂ ◌∷◌
      (ap (take (length value)) (behind_label f label value (encode rest ++ t) _ v.0 at s) ∙ take_at value (encode rest ++ t) (length value) refl)
      (values_stand f (suc left) depth outermost rest v.1 (at + (20 + length value)) t (behind_value f label value (encode rest ++ t) _ v.0 at s))
  values_stand f (suc left) depth outermost (group label inside rest) v at t e =
      let s = e ∙ three label (encode inside) (encode rest) t in
      map-append (row_bytes f) (leaves (suc depth) (λ _. outermost at) (at + 20) inside) (leaves depth outermost (at + (20 + length (encode inside))) rest)
      ∙ ap₂ ◌++◌
      (values_stand f left (suc depth) (λ _. outermost at) inside v.1 (at + 20) (encode rest ++ t) (behind_label f label (encode inside) (encode rest ++ t) _ v.0 at s))
      (values_stand f (suc left) depth outermost rest v.2 (at + (20 + length (encode inside))) t (behind_value f label (encode inside) (encode rest ++ t) _ v.0 at s))

  -- the theorem: the bytes of a file at its rows are its leaves' values
  pub bytes_are_values : (f : List ℕ) (rows : List Row) (F : Forest) → DividesFile versions f rows F → map (row_bytes f) rows ≡ values F
  bytes_are_values f rows F d =
      ap (map (row_bytes f)) (sym d.rows_are)
      ∙ values_stand f 8 1 (λ at. at) F d.valid 0 [] (sym d.bytes ∙ sym (append-nil (encode F)))

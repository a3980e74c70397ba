-- Two forests side by side: their bytes, their leaves and their values are those of the one and then those of the other. Each law is one
-- induction over the first forest.
use Prim.Native.Nat.{ℕ, suc, ◌+◌}
use native.Mathlib.Nat.{add-zero}
use mathlib.Core.Path.{◌≡◌, refl, ◌∙◌, sym, ap}
use mathlib.Core.List.{List, ◌∷◌, ◌++◌, append_assoc}
use lib.ListN.{length}
use Rattle.label.specs.declared.Versions.{Versions}
use Rattle.sfdu.specs.Row.{Row}
use Rattle.sfdu.specs.Forest.{Forest, done, leaf, group, encode, Valid, leaves, values}
use Rattle.sfdu.proofs.Forests.{three, after}
use Rattle.joined.specs.Joined.{beside}

pub encode_beside : (F G : Forest) → encode (beside F G) ≡ encode F ++ encode G
encode_beside done G = refl
encode_beside (leaf label value rest) G =
    ap (λ (u : List ℕ). label ++ (value ++ u)) (encode_beside rest G) ∙ sym (three label value (encode rest) (encode G))
encode_beside (group label inside rest) G =
    ap (λ (u : List ℕ). label ++ (encode inside ++ u)) (encode_beside rest G) ∙ sym (three label (encode inside) (encode rest) (encode G))

pub values_beside : (F G : Forest) → values (beside F G) ≡ values F ++ values G
values_beside done G = refl
values_beside (leaf label value rest) G = ap (λ (vs : List (List ℕ)). value ∷ vs) (values_beside rest G)
values_beside (group label inside rest) G =
    ap (λ (vs : List (List ℕ)). values inside ++ vs) (values_beside rest G) ∙ sym (append_assoc (values inside) (values rest) (values G))

-- which versions of the label are allowed
module _ (versions : Versions) where
  pub valid_beside : (left : ℕ) (F G : Forest) → Valid versions (suc left) F → Valid versions (suc left) G → Valid versions (suc left) (beside F G)
  valid_beside left done G v w = w
  valid_beside left (leaf label value rest) G v w = (v.0, valid_beside left rest G v.1 w)
  valid_beside left (group label inside rest) G v w = (v.0, v.1, valid_beside left rest G v.2 w)

  pub leaves_beside : (left depth : ℕ) (outermost : ℕ → ℕ) (F G : Forest) → Valid versions (suc left) F → (at : ℕ)
      → leaves depth outermost at (beside F G) ≡ leaves depth outermost at F ++ leaves depth outermost (at + length (encode F)) G
  leaves_beside left depth outermost done G v at = ap (λ (p : ℕ). leaves depth outermost p G) (sym (add-zero at))
  leaves_beside left depth outermost (leaf label value rest) G v at =
      let row : Row = record { label = at; size = length value; depth = depth; outermost = outermost at } in
      let next = at + (20 + length value) in
      ap (λ (rs : List Row). row ∷ rs)
      (leaves_beside left depth outermost rest G v.1 next
      ∙ ap (λ (p : ℕ). leaves depth outermost next rest ++ leaves depth outermost p G) (after at label value (encode rest) v.0.twenty))
  leaves_beside left depth outermost (group label inside rest) G v at =
      let inner = leaves (suc depth) (λ _. outermost at) (at + 20) inside in
      let next = at + (20 + length (encode inside)) in
      let end = at + length (encode (group label inside rest)) in
      ap (λ (rs : List Row). inner ++ rs)
      (leaves_beside left depth outermost rest G v.2 next
      ∙ ap (λ (p : ℕ). leaves depth outermost next rest ++ leaves depth outermost p G) (after at label (encode inside) (encode rest) v.0.twenty))
      ∙ sym (append_assoc inner (leaves depth outermost next rest) (leaves depth outermost end G))

-- An accepted file has twenty bytes for each of its rows, those of the row's label, so that there are far fewer rows than bytes.
use Prim.Native.Nat.{ℕ, zero, suc, ◌+◌, ◌*◌, ◌≤◌}
use native.Mathlib.Omega.{arith}
use mathlib.Core.Path.{◌≡◌, ap}
use mathlib.Core.List.{List, ◌++◌}
use lib.ListN.{length, length-append}
use Rattle.label.specs.declared.Versions.{Versions}
use Rattle.answer.specs.Outcome.{answer}
use Rattle.sfdu.specs.Row.{Row}
use Rattle.sfdu.specs.Check.{rows_of_file}
use Rattle.sfdu.specs.Forest.{Forest, done, leaf, group, encode, Valid, leaves}
use Rattle.sfdu.proofs.Checking.{accepted_says}
use Rattle.sfdu.proofs.Exact.{forest_of_file, accepted_divides}

-- which versions of the label are allowed
module _ (versions : Versions) where
  few_leaves : (left : ℕ) (F : Forest) → Valid versions left F → (depth : ℕ) (outermost : ℕ → ℕ) (at : ℕ)
      → 20 * length (leaves depth outermost at F) ≤ length (encode F)
  few_leaves zero done v depth outermost at = omega arith
  few_leaves zero (leaf label value rest) v depth outermost at = elim v [ ]
  few_leaves zero (group label inside rest) v depth outermost at = elim v [ ]
  few_leaves (suc left) done v depth outermost at = omega arith
  few_leaves (suc left) (leaf label value rest) (is, v) depth outermost at =
      omega (
        arith,
        is.twenty,
        few_leaves (suc left) rest v depth outermost (at + (20 + length value)),
        length-append label (value ++ encode rest),
        length-append value (encode rest),
      )
  few_leaves (suc left) (group label inside rest) (is, i, v) depth outermost at =
      let inner = leaves (suc depth) (λ _. outermost at) (at + 20) inside in
      let behind = leaves depth outermost (at + (20 + length (encode inside))) rest in
      omega (
        arith,
        is.twenty,
        few_leaves left inside i (suc depth) (λ _. outermost at) (at + 20),
        few_leaves (suc left) rest v depth outermost (at + (20 + length (encode inside))),
        length-append label (encode inside ++ encode rest),
        length-append (encode inside) (encode rest),
        length-append inner behind,
      )

  pub twenty_bytes_a_row : (f : List ℕ) (rows : List Row) → rows_of_file versions f ≡ answer rows → 20 * length rows ≤ length f
  twenty_bytes_a_row f rows accepted =
      let d = accepted_divides versions f rows (accepted_says versions f rows accepted).1 in
      omega (arith, few_leaves 8 (forest_of_file versions f) d.valid 1 (λ at. at) 0, ap length d.rows_are, ap length d.bytes)

-- A file has no more rows than labels fit into it: each row takes the twenty bytes of its label.
use Prim.Native.Nat.{ℕ, zero, suc, ◌+◌, ◌*◌, ◌≤◌}
use native.Mathlib.Omega.{arith}
use mathlib.Core.Path.{◌≡◌, ap}
use mathlib.Core.List.{List, ◌++◌}
use lib.ListN.{length, length-append}
use Rattle.label.specs.declared.Versions.TheVariants.{One}
use Rattle.answer.specs.Outcome.{answer}
use Rattle.sfdu.specs.Row.{Row}
use Rattle.sfdu.specs.Scan.{scan}
use Rattle.sfdu.specs.Forest.{Forest, done, leaf, group, encode, Valid, leaves}
use Rattle.sfdu.proofs.Exact.{forest_of_file, accepted_divides}

twenty_each : (left depth : ℕ) (outermost : ℕ → ℕ) (F : Forest) → Valid One left F → (at : ℕ) → length (leaves depth outermost at F) * 20 ≤ length (encode F)
twenty_each left depth outermost done v at = omega arith
twenty_each zero depth outermost (leaf label value rest) v at = absurd v
twenty_each zero depth outermost (group label inner rest) v at = absurd v
twenty_each (suc left) depth outermost (leaf label value rest) v at =
    omega (
      arith,
      v.0.twenty,
      length-append label (value ++ encode rest),
      length-append value (encode rest),
      twenty_each (suc left) depth outermost rest v.1 (at + (20 + length value)),
    )
twenty_each (suc left) depth outermost (group label inner rest) v at =
    omega (
      arith,
      v.0.twenty,
      length-append label (encode inner ++ encode rest),
      length-append (encode inner) (encode rest),
      length-append (leaves (suc depth) (λ _. outermost at) (at + 20) inner) (leaves depth outermost (at + (20 + length (encode inner))) rest),
      twenty_each left (suc depth) (λ _. outermost at) inner v.1 (at + 20),
      twenty_each (suc left) depth outermost rest v.2 (at + (20 + length (encode inner))),
    )

pub few_rows : (f : List ℕ) (rows : List Row) → scan One f ≡ answer rows → length rows * 20 ≤ length f
few_rows f rows e =
    let d = accepted_divides One f rows e in
    omega (arith, ap length d.rows_are, ap length d.bytes, twenty_each 8 1 (λ at. at) (forest_of_file One f) d.valid 0)

-- The search by halves: a line at which it ends is the one that the table has for the number, and where it ends between two lines
-- the table has none for it. It rests on one test computed over each table: that its numbers rise.
use Rattle.std.proofs.Common.{◌≡◌, ℕ, zero, suc, ◌<◌, ◌≤◌, Bool, true, ◌&&◌, leb, List, [], ◌∷◌, length, get_or, Result, Ok, Err, IfOk, IfErr, refl, sym, ap, ◌∙◌, arith}
use Rattle.std.specs.List.Sorted.{IsSearchInRange, IsBinarySearchResult, IsNonDecreasingBy}
use Rattle.std.specs.Ordering.{nat_cmp, ordering_index}
use Rattle.std.proofs.lemmas.Cmp.{ranked}
use Rattle.std.proofs.lemmas.List.{get_or-map}
use Rattle.std.proofs.lemmas.Bool.Decides.{nat_tests}
use native.Mathlib.Decide.{dec_le}
use native.Mathlib.Nat.{lt_of_not-le}
use borrow.Author.Tests.{leb-true}
use Rattle.answer.specs.Outcome.{answer, refuse}
use Rattle.answer.proofs.Tests.{both_hold}
use Rattle.limits.specs.AltimeterLimits.{altimeter_table}
use Rattle.limits.specs.BurstLimits.{burst_table}
use Rattle.limits.specs.Limits.{table_of}
use Rattle.limits.specs.declared.Limit.{Limit}
use Rattle.limits.specs.declared.Table.{Table}
use Rattle.limits.specs.declared.Table.TheVariants.{Altimeter, Bursts}
use Rattle.verdicts.specs.Verdict.{limits_of}
use Rattle.verdicts.proofs.Tables.{each_is_found_by_its_number}

-- the test: each number is at least m and that of the line before it
abbrev rise : ℕ → List Limit → Bool
rise m [] = true
rise m (l ∷ ls) = leb m l.number && rise l.number ls

numbers_rise : (t : Table) → rise 0 (table_of t) ≡ true
unfolding altimeter_table burst_table
numbers_rise Altimeter = refl
numbers_rise Bursts = refl

at_least : (m : ℕ) (ls : List Limit) → rise m ls ≡ true → (j : ℕ) (d : Limit) → j < length ls → m ≤ (get_or ls j d).number
at_least m [] e j d h = absurd (omega arith)
at_least m (l ∷ ls) e zero d h = leb-true m l.number (both_hold (leb m l.number) (rise l.number ls) e).0
at_least m (l ∷ ls) e (suc j) d h =
    let t = both_hold (leb m l.number) (rise l.number ls) e in
    omega (arith, leb-true m l.number t.0, at_least l.number ls t.1 j d (omega arith))

in_order : (m : ℕ) (ls : List Limit) → rise m ls ≡ true → (i j : ℕ) (d : Limit) → i ≤ j → j < length ls → (get_or ls i d).number ≤ (get_or ls j d).number
in_order m [] e i j d le h = absurd (omega arith)
in_order m (l ∷ ls) e zero zero d le h = omega arith
in_order m (l ∷ ls) e zero (suc j) d le h = at_least l.number ls (both_hold (leb m l.number) (rise l.number ls) e).1 j d (omega arith)
in_order m (l ∷ ls) e (suc i) zero d le h = absurd (omega arith)
in_order m (l ∷ ls) e (suc i) (suc j) d le h = in_order l.number ls (both_hold (leb m l.number) (rise l.number ls) e).1 i j d (omega arith) (omega arith)

-- a number that no line has
unknown : (ls : List Limit) (n : ℕ) → ((k : ℕ) (d : Limit) → k < length ls → (get_or ls k d).number ≡ n → ⊥) → limits_of ls n ≡ refuse 10 0
unknown [] n none = refl
unknown (l ∷ ls) n none = grind (arith, nat_tests, none 0 l (omega arith), unknown ls n (λ k d h. none (suc k) d (omega arith)))

module _ (t : Table) (n : ℕ) where
  comparisons_rise : IsNonDecreasingBy (λ l. ordering_index (nat_cmp l.number n)) (table_of t)
  comparisons_rise i j d le h = let up = in_order 0 (table_of t) (numbers_rise t) i j d le h in grind (arith, nat_tests)

  found : (i : ℕ) (d : Limit) → i < length (table_of t) → (get_or (table_of t) i d).number ≡ n → limits_of (table_of t) n ≡ answer (get_or (table_of t) i d)
  found i d h e =
      let ls = table_of t in
      ap (limits_of ls) (sym e)
      ∙ sym (get_or-map (λ l. limits_of ls l.number) ls i d (answer d) h)
      ∙ ap (λ outcomes. get_or outcomes i (answer d)) (each_is_found_by_its_number t)
      ∙ get_or-map answer ls i d (answer d) h

  -- between the lines below the number and those above it stands none that has it
  not_in_the_gap : (i : ℕ) → IsBinarySearchResult (λ l. nat_cmp l.number n) (table_of t) (Err i) → (k : ℕ) (d : Limit) → k < length (table_of t) → (get_or (table_of t) k d).number ≡ n → ⊥
  not_in_the_gap i parted k d h same =
      elim (dec_le i k) [
        | yes b ↦ omega (arith, ranked _ n _ (sym ((parted comparisons_rise).1 k d b h)))
        | no b ↦ omega (arith, ranked _ n _ (sym ((parted comparisons_rise).0 k d (omega arith) (lt_of_not-le b))))
      ]

  pub searched : (r : Result ℕ ℕ) → IsSearchInRange r (length (table_of t)) → IsBinarySearchResult (λ l. nat_cmp l.number n) (table_of t) r
      → record { line : IfOk r (λ i. (d : Limit) → limits_of (table_of t) n ≡ answer (get_or (table_of t) i d)); no_line : IfErr r (λ i. limits_of (table_of t) n ≡ refuse 10 0) }
  searched (Ok i) h equal = record { line = λ d. found i d h (ranked _ n _ (sym (equal d))); no_line = tt }
  searched (Err i) h parted = record { line = tt; no_line = unknown (table_of t) n (not_in_the_gap i parted) }

-- A walk from the first byte of an accepted file comes to the row that reading finds; and going on from one row to the next.
use Prim.Native.Nat.{ℕ, ◌+◌, ◌≤◌, zero-le}
use native.Mathlib.Omega.{arith}
use mathlib.Core.Path.{◌≡◌, ◌∙◌, sym, ap}
use mathlib.Core.List.{List}
use lib.ListN.{length}
use lib.Dec.{leb}
use Rattle.label.specs.declared.Versions.{Versions}
use Rattle.answer.specs.Outcome.{Outcome, answer, and_then, mapped}
use Rattle.answer.specs.Nth.{nth}
use Rattle.answer.specs.Address.{without_depth}
use Rattle.answer.specs.Size.{largest_file}
use Rattle.answer.specs.declared.Shown.{Shown}
use Rattle.answer.proofs.Outcomes.{first_answered, passed, after_answer, answer_injective, mapped_twice}
use Rattle.sfdu.specs.Row.{Row, whole}
use Rattle.sfdu.specs.Check.{rows_of_file}
use Rattle.sfdu.specs.Find.{find_row}
use Rattle.walk.specs.declared.Leaf.{Leaf}
use Rattle.walk.specs.Walk.{row_at_leaf, walk, walk_from}
use Rattle.sfdu.proofs.Checking.{accepted_says, reads_the_row}
use Rattle.walk.proofs.WalkLoop.{place_inside}
use Rattle.walk.proofs.WalkReads.{as_walked, walk_at, behind, walk_reads_rows, found_ends_inside, next_leaf}

-- which versions of the label are allowed
module _ (versions : Versions) where
  -- a walk that came to a leaf set out inside the file
  pub walk_from_inside : (f : List ℕ) (from k : ℕ) (found : Leaf) → walk_from versions f from k ≡ answer found → walk_at versions f from k ≡ answer found
  unfolding walk_from
  walk_from_inside f from k found e =
      (passed 0 (leb from (length f)) 6 (walk versions from k 0 _) found (passed 0 (leb (length f) largest_file) 14 _ found e).1).1

  pub walked_value_fits : (f : List ℕ) (from k : ℕ) (found : Leaf) → walk_from versions f from k ≡ answer found → found.place + 20 ≤ length f
  walked_value_fits f from k found e = omega (arith, found_ends_inside versions f from k found (walk_from_inside f from k found e))

  -- row k of a file whose rows are known, without its depth
  pub reads_as_walked : (f : List ℕ) (rows : List Row) → rows_of_file versions f ≡ answer rows → (k : ℕ)
      → mapped without_depth (find_row versions f k) ≡ mapped as_walked (nth rows k)
  reads_as_walked f rows e k = ap (mapped without_depth) (reads_the_row versions f rows e k) ∙ mapped_twice (nth rows k) whole without_depth

  -- of a file whose rows are known, a walk from the first byte comes to the row that reading finds, and does not know its depth
  pub walk_finds_the_row : (f : List ℕ) (rows : List Row) → rows_of_file versions f ≡ answer rows → (k : ℕ)
      → and_then (walk_from versions f 0 k) row_at_leaf ≡ mapped without_depth (find_row versions f k)
  walk_finds_the_row f rows e k =
      let (small, scanned) = accepted_says versions f rows e in
      ap (λ (o : Outcome Leaf). and_then o row_at_leaf) (place_inside versions f 0 k small zero-le)
      ∙ walk_reads_rows versions f rows scanned k ∙ sym (reads_as_walked f rows e k)

  -- ---- row after row

  -- from behind the leaf that a walk for k leaves came to, a walk comes to what one for k + 1 leaves comes to
  pub walks_on : (f : List ℕ) (k : ℕ) (x : Leaf) → length f ≤ largest_file → walk_at versions f 0 k ≡ answer x → walk_from versions f (behind x) 0 ≡ walk_at versions f 0 (k + 1)
  walks_on f k x small walked =
      place_inside versions f (behind x) 0 small (found_ends_inside versions f 0 k x walked)
      ∙ sym (next_leaf versions f 0 k ∙ after_answer (walk_at versions f 0 k) (λ y. walk_at versions f (behind y) 0) x walked)

  -- on an accepted file, from the end of row k's bytes it comes to row k + 1
  pub next_row_found : (f : List ℕ) (rows : List Row) → rows_of_file versions f ≡ answer rows → (k : ℕ) (row : Shown) → find_row versions f k ≡ answer row
      → and_then (walk_from versions f (row.part.place + row.part.count) 0) row_at_leaf ≡ mapped without_depth (find_row versions f (k + 1))
  next_row_found f rows e k row found =
      let (small, scanned) = accepted_says versions f rows e in
      let (x, walked, value) = first_answered (walk_at versions f 0 k) row_at_leaf (without_depth row)
      (walk_reads_rows versions f rows scanned k ∙ sym (reads_as_walked f rows e k) ∙ ap (mapped without_depth) found) in
      let end : row.part.place + row.part.count ≡ behind x = ap (λ (p : Shown). p.part.place + p.part.count) (sym (answer_injective value)) in
      ap (λ (o : Outcome Leaf). and_then o row_at_leaf) (ap (λ (p : ℕ). walk_from versions f p 0) end ∙ walks_on f k x small walked)
      ∙ walk_reads_rows versions f rows scanned (k + 1) ∙ sym (reads_as_walked f rows e (k + 1))

-- The auditor's third question for labelled files: with a list that is the file's index, the jump to row k gives what reading
-- from the first byte gives, but for the depth that it does not keep, whatever k is. The jump resumes, from the label of row 16·(k div 16), the walk that reading makes.
use Prim.Native.Nat.{ℕ, ◌+◌, ◌*◌, ◌/◌, ◌%◌, ◌≤◌, ◌<◌}
use native.Mathlib.Nat.{lt_of_not-le}
use native.Mathlib.Decide.{dec_le}
use native.Mathlib.Omega.{arith}
use mathlib.Core.Path.{◌≡◌, ◌∙◌, sym, ap}
use mathlib.Core.List.{List}
use lib.ListN.{length, get_or}
use borrow.Author.Tests.{le-leb, lt-leb, lt-ltb, le-ltb}
use Rattle.label.specs.declared.Versions.{Versions}
use Rattle.answer.specs.Outcome.{Outcome, answer, refuse, and_then, mapped}
use Rattle.answer.specs.Nth.{nth}
use Rattle.answer.specs.Address.{without_depth}
use Rattle.answer.specs.Size.{largest_file}
use Rattle.answer.proofs.Nths.{nth_is_not}
use Rattle.sfdu.specs.Row.{Row}
use Rattle.walk.specs.declared.Leaf.{Leaf}
use Rattle.sfdu.specs.Check.{rows_of_file}
use Rattle.sfdu.specs.Find.{find_row}
use Rattle.walk.specs.Walk.{row_at_leaf, walk_from}
use Rattle.sfdu.proofs.Checking.{accepted_says}
use Rattle.walk.proofs.Finding.{reads_as_walked}
use Rattle.walk.proofs.WalkLoop.{place_inside}
use Rattle.walk.proofs.WalkReads.{as_walked, walk_at, walk_reads_rows, resume, found_ends_inside}
use Rattle.row_index.specs.Index.{index_of}
use Rattle.row_index.specs.Jump.{jump_to}
use Rattle.row_index.proofs.Sixteenths.{one_entry_a_group}
use Rattle.row_index.proofs.Entries.{leaf_of_entry}

-- which versions of the label are allowed
module _ (versions : Versions) where
  -- ---- the jump case by case

  module _ (f xs : List ℕ) (k : ℕ) where
    pub too_big_to_jump : largest_file < length f → jump_to versions f xs k ≡ refuse 14 0
    unfolding jump_to
    too_big_to_jump h = rw (lt-leb (length f) largest_file h)

    module _ (small : length f ≤ largest_file) where
      pub no_entry : length xs ≤ k / 16 → jump_to versions f xs k ≡ refuse 6 0
      unfolding jump_to
      no_entry h = rw (le-leb (length f) largest_file small, le-ltb (k / 16) (length xs) h)

      module _ (there : k / 16 < length xs) where
        pub entry_beyond : length f < get_or xs (k / 16) 0 → jump_to versions f xs k ≡ refuse 11 0
        unfolding jump_to
        entry_beyond h = rw (le-leb (length f) largest_file small, lt-ltb (k / 16) (length xs) there, lt-leb (get_or xs (k / 16) 0) (length f) h)

        pub jumps_from_entry : get_or xs (k / 16) 0 ≤ length f → jump_to versions f xs k ≡ and_then (walk_from versions f (get_or xs (k / 16) 0) (k % 16)) row_at_leaf
        unfolding jump_to
        jumps_from_entry h = rw (le-leb (length f) largest_file small, lt-ltb (k / 16) (length xs) there, le-leb (get_or xs (k / 16) 0) (length f) h)

  -- ---- the theorem

  module _ (f : List ℕ) (rows : List Row) (accepted : rows_of_file versions f ≡ answer rows) (k : ℕ) where
    -- no entry, no row
    beyond_the_last_group : length (index_of rows) ≤ k / 16 → jump_to versions f (index_of rows) k ≡ mapped as_walked (nth rows k)
    beyond_the_last_group h =
        no_entry f (index_of rows) k (accepted_says versions f rows accepted).0 h
        ∙ sym (ap (mapped as_walked) (nth_is_not rows k (omega (arith, one_entry_a_group rows))))

    -- from an entry, the walk goes on as reading does
    from_the_entry : k / 16 < length (index_of rows) → jump_to versions f (index_of rows) k ≡ mapped as_walked (nth rows k)
    from_the_entry h =
        let (x, walks, place) = leaf_of_entry versions f rows accepted (k / 16) h in
        let inside : x.place ≤ length f = omega (arith, found_ends_inside versions f 0 (16 * (k / 16)) x walks) in
        let small = (accepted_says versions f rows accepted).0 in
        jumps_from_entry f (index_of rows) k small h (omega (arith, inside, place))
        ∙ ap (λ (o : Outcome Leaf). and_then o row_at_leaf)
        (ap (λ (p : ℕ). walk_from versions f p (k % 16)) (sym place) ∙ place_inside versions f x.place (k % 16) small inside
        ∙ sym (ap (λ (o : Outcome Leaf). and_then o (λ y. walk_at versions f y.place (k % 16))) walks)
        ∙ sym (resume versions f 0 (16 * (k / 16)) (k % 16))
        ∙ ap (walk_at versions f 0) {x = 16 * (k / 16) + k % 16} {y = k} (omega arith))
        ∙ walk_reads_rows versions f rows (accepted_says versions f rows accepted).1 k

    pub jump_is_read : jump_to versions f (index_of rows) k ≡ mapped without_depth (find_row versions f k)
    jump_is_read =
        elim (dec_le (length (index_of rows)) (k / 16)) [ yes h ↦ beyond_the_last_group h | no h ↦ from_the_entry (lt_of_not-le h) ]
        ∙ sym (reads_as_walked versions f rows accepted k)

-- Document 02, item 10: two accepted files set end to end (`joined_rolls`). Their forests stand side by side, so the leaves of the second
-- are behind all bytes of the first.
use Prim.Native.Nat.{ℕ, ◌+◌, ◌≤◌, ◌<◌}
use native.Mathlib.Omega.{arith}
use mathlib.Core.Path.{◌≡◌, refl, ◌∙◌, sym, ap, ap₂}
use mathlib.Core.Bool.{Bool}
use mathlib.Core.List.{List, ◌++◌, map}
use lib.ListN.{length, length-append}
use lib.Dec.{leb}
use borrow.Author.Tests.{le-leb, lt-leb}
use Rattle.answer.specs.Outcome.{answer, refuse, need}
use Rattle.answer.specs.Size.{largest_file, of_file}
use Rattle.answer.proofs.Outcomes.{after_answer}
use Rattle.label.specs.declared.Versions.{Versions}
use Rattle.sfdu.specs.Row.{Row, row_bytes}
use Rattle.sfdu.specs.Forest.{Forest, encode, leaves}
use Rattle.sfdu.specs.Check.{rows_of_file}
use Rattle.sfdu.proofs.Exact.{DividesFile, file_leaves, accepted_exactly}
use Rattle.sfdu.proofs.Values.{bytes_are_values}
use Rattle.row_index.specs.Index.{index_of, build_index, check_index}
use Rattle.row_index.proofs.IndexExact.{index_check_is_exact}
use Rattle.joined.specs.Joined.{moved_by, joined_rows, beside, join_index}
use Rattle.joined.specs.Joining.{Joining}
use Rattle.joined.proofs.Beside.{encode_beside, values_beside, valid_beside, leaves_beside}
use Rattle.joined.proofs.Moved.{leaves_move}
use Rattle.joined.proofs.Sixteenths.{index_in_turn}

-- the sum of the lengths is the length of the joined file
pub sum_of_lengths : (a b : List ℕ) → length a + length b ≤ largest_file → length (a ++ b) ≤ largest_file
sum_of_lengths a b h = omega (arith, length-append a b)

-- which versions of the label are allowed
module _ (versions : Versions) where
  -- ---- the rows

  module _ (a b : List ℕ) (rows more : List Row) (F G : Forest) (first : DividesFile versions a rows F) (second : DividesFile versions b more G) where
    leaves_are : file_leaves (beside F G) ≡ joined_rows a rows more
    leaves_are =
        leaves_beside versions 7 1 (λ at. at) F G first.valid 0
        ∙ ap₂ ◌++◌ first.rows_are
        (ap (λ (p : ℕ). leaves 1 (λ at. at) p G) {x = 0 + length (encode F)} {y = length a + 0} (omega (arith, ap length first.bytes))
        ∙ leaves_move (length a) 1 (λ at. at) (λ at. at) (λ p. refl) G 0 ∙ ap (map (moved_by (length a))) second.rows_are)

    both_divide : DividesFile versions (a ++ b) (joined_rows a rows more) (beside F G)
    both_divide = record {
      bytes = encode_beside F G ∙ ap₂ ◌++◌ first.bytes second.bytes;
      valid = valid_beside versions 7 F G first.valid second.valid;
      rows_are = leaves_are;
    }

    bytes_stay : map (row_bytes (a ++ b)) (joined_rows a rows more) ≡ map (row_bytes a) rows ++ map (row_bytes b) more
    bytes_stay =
        bytes_are_values versions (a ++ b) (joined_rows a rows more) (beside F G) both_divide ∙ values_beside F G
        ∙ sym (ap₂ ◌++◌ (bytes_are_values versions a rows F first) (bytes_are_values versions b more G second))

  -- ---- the call, case by case

  module _ (a xs b ys : List ℕ) (room : ℕ) where
    pub sum_too_long : largest_file < length a + length b → join_index versions a xs b ys room ≡ refuse 14 0
    unfolding join_index
    sum_too_long h = rw (lt-leb (length (a ++ b)) largest_file (omega (arith, length-append a b))) refl

    -- both lists are the files' indexes
    pub of_both : check_index versions a xs ≡ answer tt → check_index versions b ys ≡ answer tt
        → join_index versions a xs b ys room ≡ of_file (a ++ b) (build_index versions (a ++ b) room)
    unfolding join_index
    of_both first second = rw (first, second) refl

    module _ (small : length a + length b ≤ largest_file) where
      pub first_refused : (n p : ℕ) → check_index versions a xs ≡ refuse n p → join_index versions a xs b ys room ≡ refuse n p
      unfolding join_index
      first_refused n p e = rw (le-leb (length (a ++ b)) largest_file (sum_of_lengths a b small), e) refl

      module _ (first : check_index versions a xs ≡ answer tt) where
        pub second_refused : (n p : ℕ) → check_index versions b ys ≡ refuse n p → join_index versions a xs b ys room ≡ refuse n p
        unfolding join_index
        second_refused n p e = rw (le-leb (length (a ++ b)) largest_file (sum_of_lengths a b small), first, e) refl

        pub both_checked : check_index versions b ys ≡ answer tt → join_index versions a xs b ys room ≡ build_index versions (a ++ b) room
        both_checked second =
            of_both first second ∙ ap (λ (t : Bool). need t 14 (build_index versions (a ++ b) room)) (le-leb (length (a ++ b)) largest_file (sum_of_lengths a b small))

  -- ---- the theorem

  module _ (a b : List ℕ) (rows more : List Row) (first : rows_of_file versions a ≡ answer rows) (second : rows_of_file versions b ≡ answer more)
      (small : length a + length b ≤ largest_file) where
    pub joined_accepted : rows_of_file versions (a ++ b) ≡ answer (joined_rows a rows more)
    joined_accepted =
        let (_, (F, d)) = (accepted_exactly versions a rows).0 first in
        let (_, (G, e)) = (accepted_exactly versions b more).0 second in
        (accepted_exactly versions (a ++ b) (joined_rows a rows more)).1 (sum_of_lengths a b small, (beside F G, both_divide a b rows more F G d e))

    is_index : (f : List ℕ) (rs : List Row) → rows_of_file versions f ≡ answer rs → check_index versions f (index_of rs) ≡ answer tt
    is_index f rs e = (index_check_is_exact versions f (index_of rs)).1 (rs, e, refl)

    built_in : (room : ℕ) → build_index versions (a ++ b) room ≡ need (leb (length (index_of (joined_rows a rows more))) room) 8 (answer (joined_rows a rows more))
    unfolding build_index
    built_in room =
        after_answer (rows_of_file versions (a ++ b)) (λ rs. need (leb (length (index_of rs)) room) 8 (answer rs)) (joined_rows a rows more) joined_accepted

    pub joined_rolls : Joining versions a b rows more
    joined_rolls = record {
      accepted = joined_accepted;
      values_move = λ r. omega arith;
      same_bytes =
          let (_, (F, d)) = (accepted_exactly versions a rows).0 first in
          let (_, (G, e)) = (accepted_exactly versions b more).0 second in
          bytes_stay a b rows more F G d e;
      divides = λ F G v e w d. (valid_beside versions 7 F G v w, encode_beside F G ∙ ap₂ ◌++◌ e d);
      index = index_in_turn a rows more;
      is_built = λ room. both_checked a (index_of rows) b (index_of more) room small (is_index a rows first) (is_index b more second);
      room_alone = built_in;
      is_checked = is_index (a ++ b) (joined_rows a rows more) joined_accepted;
    }

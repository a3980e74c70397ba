-- Document 02, item 10: joining is associative, and the empty file changes nothing (`rolls`).
use Prim.Native.Nat.{ℕ, ◌≤◌}
use native.Mathlib.Omega.{arith}
use mathlib.Core.Path.{◌≡◌, refl, ◌∙◌, sym, ap}
use mathlib.Core.List.{List, [], ◌++◌, append_assoc, append-nil, map, map-append}
use lib.ListN.{length, length-append}
use lib.Dec.{leb}
use borrow.Author.Tests.{le-leb}
use Rattle.answer.specs.Outcome.{answer, need, mapped}
use Rattle.answer.specs.Size.{largest_file, of_file}
use Rattle.answer.proofs.Outcomes.{passed, first_answered, mapped_answer}
use Rattle.label.specs.declared.Versions.{Versions}
use Rattle.sfdu.specs.Row.{Row}
use Rattle.sfdu.specs.Check.{rows_of_file}
use Rattle.sfdu.proofs.Checking.{accepted_says}
use Rattle.sfdu.proofs.Exact.{accepted_exactly}
use Rattle.sfdu.specs.Forest.{done}
use Rattle.row_index.specs.Index.{index_of, build_index, check_index}
use Rattle.row_index.proofs.IndexExact.{index_check_is_exact}
use Rattle.joined.specs.Joined.{moved_by, joined_rows, join_index}
use Rattle.joined.specs.Rolls.{Rolls}
use Rattle.joined.proofs.Moved.{moved_twice, not_moved}
use Rattle.joined.proofs.Joining.{of_both}

-- ---- the rows

rows_in_turn : (a b : List ℕ) (rows more last : List Row)
    → joined_rows (a ++ b) (joined_rows a rows more) last ≡ joined_rows a rows (joined_rows b more last)
rows_in_turn a b rows more last =
    append_assoc rows (map (moved_by (length a)) more) (map (moved_by (length (a ++ b))) last)
    ∙ ap (λ (rs : List Row). rows ++ rs)
    (ap (λ (rs : List Row). map (moved_by (length a)) more ++ rs)
    (ap (λ (n : ℕ). map (moved_by n) last) (length-append a b) ∙ sym (moved_twice (length a) (length b) last))
    ∙ sym (map-append (moved_by (length a)) more (map (moved_by (length b)) last)))

-- which versions of the label are allowed
module _ (versions : Versions) where
  -- ---- the index

  -- a call that answered was lent the files' indexes, and its answer is the index of the joined file
  record Answered (a xs b ys u : List ℕ) : Type 0 where
    pub first : check_index versions a xs ≡ answer tt
    pub second : check_index versions b ys ≡ answer tt
    pub both : check_index versions (a ++ b) u ≡ answer tt

  answered : (a xs b ys u : List ℕ) (room : ℕ) → mapped index_of (join_index versions a xs b ys room) ≡ answer u → Answered a xs b ys u
  unfolding join_index build_index
  answered a xs b ys u room e =
      let (rows, joins, index) = mapped_answer index_of (join_index versions a xs b ys room) u e in
      let (_, checks) = passed 0 (leb (length (a ++ b)) largest_file) 14 _ rows joins in
      let (_, first, then) = first_answered (check_index versions a xs) _ rows checks in
      let (_, second, builds) = first_answered (check_index versions b ys) _ rows then in
      let (rs, accepted, room-is) = first_answered (rows_of_file versions (a ++ b)) (λ rs. need (leb (length (index_of rs)) room) 8 (answer rs)) rows builds in
      let (_, is) = passed 0 (leb (length (index_of rs)) room) 8 (answer rs) rows room-is in
      record {
        first = first;
        second = second;
        both = (index_check_is_exact versions (a ++ b) u).1 (rows, accepted ∙ is, sym index);
      }

  index_in_any_order : (a xs b ys c zs u v : List ℕ) (r s room : ℕ)
      → mapped index_of (join_index versions a xs b ys r) ≡ answer u
      → mapped index_of (join_index versions b ys c zs s) ≡ answer v
      → join_index versions (a ++ b) u c zs room ≡ join_index versions a xs (b ++ c) v room
  index_in_any_order a xs b ys c zs u v r s room left right =
      let l = answered a xs b ys u r left in
      let m = answered b ys c zs v s right in
      of_both versions (a ++ b) u c zs room l.both m.second
      ∙ ap (λ (f : List ℕ). of_file f (build_index versions f room)) (append_assoc a b c)
      ∙ sym (of_both versions a xs (b ++ c) v room l.first m.both)

  -- ---- the empty file

  nothing_accepted : rows_of_file versions [] ≡ answer []
  nothing_accepted = (accepted_exactly versions [] []).1 (omega arith, (done, record { bytes = refl; valid = tt; rows_are = refl }))

  nothing_indexed : check_index versions [] [] ≡ answer tt
  nothing_indexed = (index_check_is_exact versions [] []).1 ([], nothing_accepted, refl)

  built_of : (f xs : List ℕ) (room : ℕ) → check_index versions f xs ≡ answer tt → length xs ≤ room
      → mapped index_of (of_file f (build_index versions f room)) ≡ answer xs
  unfolding build_index
  built_of f xs room checks h =
      let (rows, accepted, is) = (index_check_is_exact versions f xs).0 checks in
      let same : answer (index_of rows) ≡ answer xs = ap answer (sym is) in
      rw (le-leb (length f) largest_file (accepted_says versions f rows accepted).0, accepted, le-leb (length (index_of rows)) room (omega (arith, ap length is))) same

  pub rolls : Rolls versions
  rolls = record {
    same_file = append_assoc;
    same_rows = rows_in_turn;
    same_index = index_in_any_order;
    empty_file = (nothing_accepted, nothing_indexed);
    nothing_before = λ a rows. (refl, not_moved rows);
    nothing_behind = λ a rows. (append-nil a, append-nil rows);
    same_index_either_side = λ a xs room checks h. (
      ap (mapped index_of) (of_both versions [] [] a xs room nothing_indexed checks) ∙ built_of a xs room checks h,
      ap (mapped index_of) (of_both versions a xs [] [] room checks nothing_indexed)
          ∙ ap (λ (f : List ℕ). mapped index_of (of_file f (build_index versions f room))) (append-nil a) ∙ built_of a xs room checks h,
    );
  }

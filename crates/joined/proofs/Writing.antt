-- The call in its code's own terms: an entry of the second file, and what is known of two files whose indexes were checked.
use Prim.Native.Nat.{ℕ, ◌+◌, ◌-◌, ◌*◌, ◌/◌, ◌≤◌, ◌<◌}
use native.Mathlib.Nat.{not-suc-le-zero}
use native.Mathlib.Omega.{arith}
use mathlib.Core.Path.{◌≡◌, refl, ◌∙◌, sym, ap, ap₂}
use mathlib.Core.List.{List, ◌++◌, map}
use lib.ListN.{length, get_or, length-append, length-map}
use Rattle.answer.specs.Outcome.{Outcome, answer, refuse, and_then, mapped}
use Rattle.answer.specs.Nth.{nth}
use Rattle.answer.specs.Size.{largest_file}
use Rattle.answer.specs.declared.Shown.{Shown}
use Rattle.answer.proofs.Outcomes.{first_answered, answer_injective}
use Rattle.answer.proofs.Nths.{nth_is_there}
use Rattle.label.specs.declared.Versions.{Versions}
use Rattle.sfdu.specs.Row.{Row}
use Rattle.sfdu.specs.Check.{rows_of_file, check_labelled}
use Rattle.sfdu.proofs.Checking.{accepted_says}
use Rattle.sfdu.proofs.Few.{twenty_bytes_a_row}
use Rattle.walk.specs.declared.Leaf.{Leaf}
use Rattle.walk.specs.Walk.{row_at_leaf, walk_from}
use Rattle.walk.proofs.WalkLoop.{place_inside}
use Rattle.walk.proofs.WalkReads.{as_walked, walk_at, walk_reads_rows, resume, found_ends_inside}
use Rattle.row_index.specs.Index.{every, index_of, check_index, place_found}
use Rattle.row_index.specs.Private.{known, the_index}
use Rattle.row_index.proofs.Sixteenths.{entry_is_a_row, groups_after, one_entry_a_group}
use Rattle.row_index.proofs.Entries.{index_of_accepted, leaf_of_entry}
use Rattle.row_index.proofs.Building.{rows_counted, entries_counted}
use Rattle.row_index.proofs.IndexExact.{index_check_is_exact}
use Rattle.joined.specs.Joined.{moved_by, joined_rows}
use Rattle.joined.specs.Private.{further}
use Rattle.joined.proofs.Sixteenths.{index_in_turn, no_more_entries, moved_entry}
use Rattle.joined.proofs.Joining.{joined_accepted}

-- which versions of the label are allowed
module _ (versions : Versions) where
  -- ---- an entry that stands in the second file

  -- of an accepted file: a walk over the rows that are passed, from entry i, comes to the row
  module _ (f : List ℕ) (rows : List Row) (accepted : rows_of_file versions f ≡ answer rows) (passed i : ℕ) (few : passed ≤ 15)
      (there : i < length (every passed rows)) where
    walks_on : place_found (walk_from versions f (get_or (index_of rows) i 0) passed) ≡ get_or (every passed rows) i 0
    walks_on =
        let many = groups_after rows passed few in
        let (r, row) = nth_is_there rows (passed + 16 * i) (omega (arith, many, there)) in
        let (small, scanned) = accepted_says versions f rows accepted in
        let (x, walks, place) = leaf_of_entry versions f rows accepted i (omega (arith, many, there, one_entry_a_group rows)) in
        let (y, comes, value) = first_answered (walk_at versions f 0 (16 * i + passed)) row_at_leaf (as_walked r)
        (walk_reads_rows versions f rows scanned (16 * i + passed)
        ∙ ap (λ (k : ℕ). mapped as_walked (nth rows k)) {x = 16 * i + passed} {y = passed + 16 * i} (omega arith) ∙ ap (mapped as_walked) row) in
        let inside : x.place ≤ length f = omega (arith, found_ends_inside versions f 0 (16 * i) x walks) in
        let from_here : walk_at versions f x.place passed ≡ answer y =
        sym (ap (λ (o : Outcome Leaf). and_then o (λ z. walk_at versions f z.place passed)) walks) ∙ sym (resume versions f 0 (16 * i) passed) ∙ comes in
        ap (λ (p : ℕ). place_found (walk_from versions f p passed)) (sym place)
        ∙ ap place_found (place_inside versions f x.place passed small inside ∙ from_here)
        ∙ ap (λ (q : Shown). q.address.label) (answer_injective value)
        ∙ sym (entry_is_a_row rows passed i r row)

  pub record Further (base : ℕ) (f ys : List ℕ) (passed i : ℕ) : Type 0 where
    pub inside : i < length ys
    pub is : base + place_found (walk_from versions f (get_or ys i 0) passed) ≡ get_or (further versions base f passed) i 0

  pub further_entry : (base : ℕ) (f ys : List ℕ) (passed i : ℕ) → ys ≡ the_index versions f → passed ≤ 15
      → i < length (further versions base f passed) → Further base f ys passed i
  unfolding further
  further_entry base f ys passed i index few there = cases (rows_of_file versions f) refl there
    where
      cases : (o : Outcome (List Row)) → rows_of_file versions f ≡ o → i < length (map (λ place. base + place) (every passed (known o)))
          → Further base f ys passed i
      cases (refuse n p) e h = absurd (not-suc-le-zero h)
      cases (answer rows) e h =
          let is_index : ys ≡ index_of rows = index ∙ index_of_accepted versions f rows e in
          let k : i < length (every passed rows) = omega (arith, h, length-map (every passed rows) (λ place. base + place)) in
          record {
            inside = omega (arith, k, ap length is_index, no_more_entries rows passed few);
            is =
                ap (λ (l : List ℕ). base + place_found (walk_from versions f (get_or l i 0) passed)) is_index
                ∙ ap (λ (p : ℕ). base + p) (walks_on f rows e passed i few k)
                ∙ sym (moved_entry base (every passed rows) i k)
                ∙ ap (λ (o : Outcome (List Row)). get_or (map (λ place. base + place) (every passed (known o))) i 0) (sym e);
          }

  -- ---- two files whose indexes were checked, and their rows counted

  pub record Both (a xs b ys : List ℕ) (rows more : ℕ) : Type 0 where
    pub few : rows + more ≤ largest_file
    pub entries : length xs ≡ (rows + 15) / 16
    pub counts : check_labelled versions (a ++ b) ≡ answer (rows + more)
    pub second : ys ≡ the_index versions b
    pub index : the_index versions (a ++ b) ≡ xs ++ further versions (length a) b (16 * length xs - rows)

  module _ (a xs b ys : List ℕ) (rows more : ℕ) (small : length a + length b ≤ largest_file)
      (first_index : check_index versions a xs ≡ answer tt) (first_rows : check_labelled versions a ≡ answer rows)
      (second_index : check_index versions b ys ≡ answer tt) (second_rows : check_labelled versions b ≡ answer more) where
    pub both_files : Both a xs b ys rows more
    unfolding check_labelled further
    both_files =
        let (rs, accepted, many) = rows_counted versions a rows first_rows in
        let (ms, accepts, more-are) = rows_counted versions b more second_rows in
        let (ps, p, xs-are) = (index_check_is_exact versions a xs).0 first_index in
        let (qs, q, ys-are) = (index_check_is_exact versions b ys).0 second_index in
        let xs_is : xs ≡ index_of rs = xs-are ∙ ap index_of (answer_injective (sym p ∙ accepted)) in
        let ys_is : ys ≡ index_of ms = ys-are ∙ ap index_of (answer_injective (sym q ∙ accepts)) in
        let joined = joined_accepted versions a b rs ms accepted accepts small in
        let sum : length (joined_rows a rs ms) ≡ rows + more =
        omega (arith, length-append rs (map (moved_by (length a)) ms), length-map ms (moved_by (length a)), many, more-are) in
        record {
          few = omega (arith, twenty_bytes_a_row versions a rs accepted, twenty_bytes_a_row versions b ms accepts, many, more-are);
          entries = omega (arith, ap length xs_is, one_entry_a_group rs, many);
          counts = ap (mapped length) joined ∙ ap answer sum;
          second = ys_is ∙ sym (index_of_accepted versions b ms accepts);
          index =
              index_of_accepted versions (a ++ b) (joined_rows a rs ms) joined ∙ index_in_turn a rs ms
              ∙ ap₂ (λ (l : List ℕ) (o : Outcome (List Row)). index_of rs ++ map (λ place. length a + place) (every (16 * length l - length rs) (known o)))
              (sym xs_is) (sym accepts)
              ∙ ap₂ (λ (l : List ℕ) (n : ℕ). l ++ map (λ place. length a + place) (every (16 * length xs - n) (known (rows_of_file versions b)))) (sym xs_is) many;
        }

    -- how many entries stand in the second file
    pub entries_left : length (further versions (length a) b (16 * length xs - rows)) ≡ (rows + more + 15) / 16 - length xs
    entries_left =
        let t = both_files in
        omega (
          arith,
          length-append xs (further versions (length a) b (16 * length xs - rows)),
          ap length t.index,
          entries_counted versions (a ++ b) (rows + more) t.counts,
        )

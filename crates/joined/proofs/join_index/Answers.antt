-- `joined::join_index` meets its contract: the sum is too long, either file or its list is refused, there is no room, or the first file's
-- entries and then those that stand in the second are written. What the counts say of each file is `first` and `second`, what is known
-- of the two files `files`, and that there are as many entries left as stand in the second is `rest`.
use Prim.Native.Nat.{ℕ, ◌+◌, ◌-◌, ◌*◌, ◌≤◌}
use native.Mathlib.Nat.{le_of_eq}
use native.Mathlib.Omega.{arith}
use mathlib.Core.Path.{◌≡◌, refl, ◌∙◌, sym, ap, ap₂}
use mathlib.Core.List.{List, ◌++◌}
use lib.ListN.{length, drop, length-append, length-drop}
use lib.Seq.{take_all, length-take-le}
use borrow.Rule.Slice.PartMut.{put_mid}
use Rattle.std.proofs.lemmas.Result.{err_from_is_err_and}
use Rattle.answer.specs.Outcome.{answer}
use Rattle.answer.proofs.Writers.{pieces_put, written_length}
use Rattle.sfdu.specs.Check.{check_labelled}
use Rattle.row_index.specs.Index.{build_index, check_index}
use Rattle.row_index.proofs.Building.{refused_build, counted_is_checked, refused_is_checked, index_at_the_front, no_room_to_build, index_is_built}
use Rattle.joined.specs.Joined.{join_index}
use Rattle.joined.specs.Private.{further}
use Rattle.joined.proofs.Joining.{sum_too_long, first_refused, second_refused, both_checked}
use Rattle.joined.proofs.Writing.{Both, both_files, entries_left}
use Rattle.joined.proofs.join_index.Goals as goal
use Rattle.joined.proofs.join_index.Goals.{In_ok-rows, In_ok-more, After-groups-entries, After-put_entries, Else-list-entries}

first : (c : In_ok-rows) → (check_index c.args.versions c.args.first.now c.args.index.now ≡ answer tt)
    × (check_labelled c.args.versions c.args.first.now ≡ answer c.in_ok-rows.rows)
first c =
    let a = c.args in
    counted_is_checked a.versions a.first.now a.index.now _ (sym c.in_ok-rows.ensures)

second : (c : In_ok-more) → (check_index c.args.versions c.args.second.now c.args.other.now ≡ answer tt)
    × (check_labelled c.args.versions c.args.second.now ≡ answer c.in_ok-more.more)
second c =
    let a = c.args in
    counted_is_checked a.versions a.second.now a.other.now _ (sym c.in_ok-more.ensures)

files : (c : In_ok-more) → (check_index c.args.versions c.args.first.now c.args.index.now ≡ answer tt)
    × (check_labelled c.args.versions c.args.first.now ≡ answer c.in_ok-rows.rows)
    → Both c.args.versions c.args.first.now c.args.index.now c.args.second.now c.args.other.now c.in_ok-rows.rows c.in_ok-more.more
files c f =
    let a = c.args in
    both_files a.versions a.first.now a.index.now a.second.now a.other.now _ _ c.if-sum-gt-LARGEST_FILE.false f.0 f.1 (second c).0 (second c).1

pub returns-then-sum-gt-LARGEST_FILE : goal.returns-then-sum-gt-LARGEST_FILE
returns-then-sum-gt-LARGEST_FILE c =
    let a = c.args in
    let both = refused_build a.list.now (sum_too_long a.versions a.first.now a.index.now a.second.now a.other.now _ c.if-sum-gt-LARGEST_FILE.true) in
    record { answers = both.0; leaves = both.1 }

pub returns-in_err-rows : goal.returns-in_err-rows
returns-in_err-rows c =
    let a = c.args in
    let both = refused_build a.list.now
    (first_refused a.versions a.first.now a.index.now a.second.now a.other.now _ c.if-sum-gt-LARGEST_FILE.false _ _
    (refused_is_checked a.versions a.first.now a.index.now _ _ (sym c.in_err-rows.ensures))) in
    let p = err_from_is_err_and c.from_residual.result c.from_residual.ensures.1 in
    record { answers = rw (p.1, p.2) both.0; leaves = both.1 }

pub returns-in_err-more : goal.returns-in_err-more
returns-in_err-more c =
    let a = c.args in
    let both = refused_build a.list.now
    (second_refused a.versions a.first.now a.index.now a.second.now a.other.now _ c.if-sum-gt-LARGEST_FILE.false (first (goal.at.returns-in_err-more c).In_ok-rows).0 _ _
    (refused_is_checked a.versions a.second.now a.other.now _ _ (sym c.in_err-more.ensures))) in
    let p = err_from_is_err_and c.from_residual-in_err-more.result c.from_residual-in_err-more.ensures.1 in
    record { answers = rw (p.1, p.2) both.0; leaves = both.1 }

pub overflow_add-all : goal.overflow_add-all
overflow_add-all c = omega (arith, (files c (first (goal.at.overflow_add-all c).In_ok-rows)).few)

-- the index of both files, where there is room for it
built : (c : In_ok-more) → (check_index c.args.versions c.args.first.now c.args.index.now ≡ answer tt)
    × (check_labelled c.args.versions c.args.first.now ≡ answer c.in_ok-rows.rows)
    → join_index c.args.versions c.args.first.now c.args.index.now c.args.second.now c.args.other.now (length c.args.list.now)
    ≡ build_index c.args.versions (c.args.first.now ++ c.args.second.now) (length c.args.list.now)
built c f =
    let a = c.args in
    both_checked a.versions a.first.now a.index.now a.second.now a.other.now (length a.list.now) c.if-sum-gt-LARGEST_FILE.false f.0 (second c).0

rest : (c : After-groups-entries) → (check_index c.args.versions c.args.first.now c.args.index.now ≡ answer tt)
    × (check_labelled c.args.versions c.args.first.now ≡ answer c.in_ok-rows.rows)
    → (check_index c.args.versions c.args.second.now c.args.other.now ≡ answer tt)
    × (check_labelled c.args.versions c.args.second.now ≡ answer c.in_ok-more.more)
    → length (further c.args.versions (length c.args.first.now) c.args.second.now (16 * length c.args.index.now - c.in_ok-rows.rows))
    ≡ c.groups-entries.result - length c.args.index.now
rest c f s =
    let a = c.args in
    entries_left a.versions a.first.now a.index.now a.second.now a.other.now _ _ c.if-sum-gt-LARGEST_FILE.false f.0 f.1 s.0 s.1
    ∙ ap (λ (n : ℕ). n - length a.index.now) (sym c.groups-entries.ensures)

-- the list keeps its length
long : (c : After-put_entries) → length c.args.index.now ≤ length c.args.list.now → length c.put_entries.new.list ≡ length c.args.list.now
long c fits =
    let a = c.args in
    ap length c.put_entries.ensures ∙ written_length a.index.now a.list.now (length a.index.now) (le_of_eq refl) fits

pub returns-then-list-entries : goal.returns-then-list-entries
returns-then-list-entries c =
    let a = c.args in
    let f = first (goal.at.returns-then-list-entries c).In_ok-rows in
    let m = (goal.at.returns-then-list-entries c).In_ok-more in
    let both = refused_build a.list.now
    (built m f
    ∙ no_room_to_build a.versions (a.first.now ++ a.second.now) (c.in_ok-rows.rows + c.in_ok-more.more) (files m f).counts (length a.list.now) (omega (arith, c.groups-entries.ensures, c.if-list-entries.true))) in
    record { answers = both.0; leaves = both.1 }

pub overflow_mul-passed : goal.overflow_mul-passed
overflow_mul-passed c =
    let t = files (goal.at.overflow_mul-passed c).In_ok-more (first (goal.at.overflow_mul-passed c).In_ok-rows) in
    omega (arith, t.few, t.entries)

pub overflow_sub-passed : goal.overflow_sub-passed
overflow_sub-passed c =
    let t = files (goal.at.overflow_sub-passed c).In_ok-more (first (goal.at.overflow_sub-passed c).In_ok-rows) in
    omega (arith, t.entries)

-- the first file's entries fit
fit : (c : Else-list-entries) → Both c.args.versions c.args.first.now c.args.index.now c.args.second.now c.args.other.now c.in_ok-rows.rows c.in_ok-more.more
    → length c.args.index.now ≤ length c.args.list.now
fit c t = omega (arith, t.entries, c.groups-entries.ensures, c.if-list-entries.false)

pub put_entries-requires : goal.put_entries-requires
put_entries-requires c =
    fit (goal.at.put_entries-requires c).Else-list-entries
    (files (goal.at.put_entries-requires c).In_ok-more (first (goal.at.put_entries-requires c).In_ok-rows))

pub slice_bounds-put_further-count : goal.slice_bounds-put_further-count
slice_bounds-put_further-count c =
    let t = files (goal.at.slice_bounds-put_further-count c).In_ok-more (first (goal.at.slice_bounds-put_further-count c).In_ok-rows) in
    omega (arith, t.entries, c.groups-entries.ensures)

pub slice_bounds-put_further-start : goal.slice_bounds-put_further-start
slice_bounds-put_further-start c =
    let t = files (goal.at.slice_bounds-put_further-start c).In_ok-more (first (goal.at.slice_bounds-put_further-start c).In_ok-rows) in
    let h = fit (goal.at.slice_bounds-put_further-start c).Else-list-entries t in
    omega (arith, t.entries, c.groups-entries.ensures, c.if-list-entries.false, long (goal.at.slice_bounds-put_further-start c).After-put_entries h)

pub put_further-requires : goal.put_further-requires
put_further-requires c =
    let done = length c.args.index.now in
    let front = c.put_entries.new.list in
    let f = first (goal.at.put_further-requires c).In_ok-rows in
    let t = files (goal.at.put_further-requires c).In_ok-more f in
    let h = fit (goal.at.put_further-requires c).Else-list-entries t in (
      c.if-sum-gt-LARGEST_FILE.false,
      t.second,
      omega (arith, t.entries),
      length-take-le (c.groups-entries.result - done) (drop done front)
          (omega (arith, length-drop done front, long (goal.at.put_further-requires c).After-put_entries h, c.if-list-entries.false))
          ∙ sym (rest (goal.at.put_further-requires c).After-groups-entries f (second (goal.at.put_further-requires c).In_ok-more)),
    )

pub returns : goal.returns
returns c =
    let a = c.args in
    let xs = a.index.now in
    let old = a.list.now in
    let done = length xs in
    let entries = c.groups-entries.result in
    let f = first (goal.at.returns c).In_ok-rows in
    let m = (goal.at.returns c).In_ok-more in
    let t = files m f in
    let fs = further a.versions (length a.first.now) a.second.now (16 * done - c.in_ok-rows.rows) in
    let left = rest (goal.at.returns c).After-groups-entries f (second m) in
    let front : c.put_entries.new.list ≡ xs ++ drop done old =
    c.put_entries.ensures ∙ ap (λ (w : List ℕ). w ++ drop done old) (take_all done xs (le_of_eq refl)) in
    let (rows, builds, index, many) = index_is_built a.versions (a.first.now ++ a.second.now) (c.in_ok-rows.rows + c.in_ok-more.more) t.counts (length old) (omega (arith, c.groups-entries.ensures, c.if-list-entries.false)) in
    let both = index_at_the_front old _ (xs ++ fs) rows _ entries _ (built m f ∙ builds) (index ∙ t.index) (omega (arith, length-append xs fs, left, t.entries, c.groups-entries.ensures)) many
    (ap₂ (put_mid done (entries - done)) front c.put_further.ensures ∙ pieces_put xs fs old done (entries - done) refl left) in
    record { answers = both.0; leaves = both.1 }

-- `row_index::build_index` meets its contract: refused as the check refuses, no room, or the whole index at the front. That
-- there are as many entries as groups is `all`.
use native.Mathlib.Omega.{arith}
use Prim.Native.Nat.{ℕ}
use mathlib.Core.Path.{◌≡◌, ◌∙◌, sym, ap}
use mathlib.Core.List.{List, ◌++◌}
use lib.ListN.{length, drop}
use lib.Seq.{length-take-le}
use Rattle.std.proofs.lemmas.Result.{err_from_is_err_and}
use Rattle.sfdu.proofs.Checking.{accepted_says}
use Rattle.row_index.specs.Private.{the_index}
use Rattle.row_index.proofs.Building.{refused_build, index_at_the_front, rows_counted, entries_counted, no_room_to_build, index_is_built, not_built}
use Rattle.row_index.proofs.build_index.Goals as goal
use Rattle.row_index.proofs.build_index.Goals.{After-groups-entries}

all : (c : After-groups-entries) → length (the_index c.args.versions c.args.file.now) ≡ c.groups-entries.result
all c = entries_counted c.args.versions c.args.file.now _ (sym c.in_ok-rows.ensures) ∙ sym c.groups-entries.ensures

pub returns-in_err-rows-clause-answers : goal.returns-in_err-rows-clause-answers
returns-in_err-rows-clause-answers c =
    let p = err_from_is_err_and c.from_residual.result c.from_residual.ensures.1 in
    rw (p.1, p.2) (refused_build c.args.list.now (not_built c.args.versions c.args.file.now _ _ (sym c.in_err-rows.ensures) (length c.args.list.now))).0

pub returns-in_err-rows-clause-leaves : goal.returns-in_err-rows-clause-leaves
returns-in_err-rows-clause-leaves c =
    (refused_build c.args.list.now (not_built c.args.versions c.args.file.now _ _ (sym c.in_err-rows.ensures) (length c.args.list.now))).1

pub returns-then-list-entries : goal.returns-then-list-entries
returns-then-list-entries c =
    let both = refused_build c.args.list.now
    (no_room_to_build c.args.versions c.args.file.now _ (sym c.in_ok-rows.ensures) (length c.args.list.now) (omega (arith, c.groups-entries.ensures, c.if-list-entries.true))) in
    record { answers = both.0; leaves = both.1 }

pub write_entries-requires : goal.write_entries-requires
write_entries-requires c =
    let (rows, accepted, many) = rows_counted c.args.versions c.args.file.now _ (sym c.in_ok-rows.ensures) in (
      (accepted_says c.args.versions c.args.file.now rows accepted).0,
      length-take-le c.groups-entries.result c.args.list.now c.if-list-entries.false ∙ sym (all (goal.at.write_entries-requires c).After-groups-entries),
    )

pub returns : goal.returns
returns c =
    let v = c.args.versions in
    let f = c.args.file.now in
    let old = c.args.list.now in
    let entries = c.groups-entries.result in
    let whole = all (goal.at.returns c).After-groups-entries in
    let (rows, builds, index, many) = index_is_built v f _ (sym c.in_ok-rows.ensures) (length old) (omega (arith, c.groups-entries.ensures, c.if-list-entries.false)) in
    let both = index_at_the_front old _ (the_index v f) rows _ entries _ builds index whole many
    (ap (λ (xs : List ℕ). xs ++ drop entries old) c.write_entries.ensures
    ∙ ap (λ (m : ℕ). the_index v f ++ drop m old) (sym whole)) in
    record { answers = both.0; leaves = both.1 }

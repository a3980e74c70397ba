-- `row_index::rows_indexed` meets its contract: refused as the check refuses, another number of entries, or compared.
use mathlib.Core.Path.{◌∙◌, sym}
use Rattle.std.proofs.lemmas.Result.{err_from_is_err_and}
use Rattle.answer.proofs.Outcomes.{after_refusal}
use Rattle.sfdu.specs.Check.{check_labelled}
use Rattle.row_index.specs.Index.{check_index}
use Rattle.row_index.specs.Private.{the_index}
use Rattle.row_index.proofs.Building.{entries_counted, rows_are_indexed, lengths_differ, not_checked}
use Rattle.row_index.proofs.rows_indexed.Goals as goal

pub returns-in_err-rows : goal.returns-in_err-rows
returns-in_err-rows g c =
    let a = c.args in
    let xs = g.E.IndexList.entries a.list in
    let p = err_from_is_err_and c.from_residual.result c.from_residual.ensures.1 in
    rw (p.1, p.2) (sym (after_refusal (check_index a.versions a.file.now xs) (λ _. check_labelled a.versions a.file.now) _ _
    (not_checked a.versions a.file.now _ _ (sym c.in_err-rows.ensures) xs)))

pub returns-then-count-groups : goal.returns-then-count-groups
returns-then-count-groups g c =
    let a = c.args in
    let xs = g.E.IndexList.entries a.list in
    rows_are_indexed a.versions a.file.now _ (sym c.in_ok-rows.ensures) xs _
    (lengths_differ xs (the_index a.versions a.file.now)
    (λ e. c.if-count-groups.true (c.count.ensures ∙ e ∙ entries_counted a.versions a.file.now _ (sym c.in_ok-rows.ensures) ∙ sym c.groups.ensures)))

pub entries_agree-requires : goal.entries_agree-requires
entries_agree-requires g c =
    let a = c.args in
    sym c.count.ensures ∙ c.if-count-groups.false ∙ c.groups.ensures ∙ sym (entries_counted a.versions a.file.now _ (sym c.in_ok-rows.ensures))

pub returns-then-entries_agree : goal.returns-then-entries_agree
returns-then-entries_agree g c =
    let a = c.args in
    rows_are_indexed a.versions a.file.now _ (sym c.in_ok-rows.ensures) (g.E.IndexList.entries a.list) _ (sym c.entries_agree.ensures ∙ c.if-entries_agree.true)

pub returns : goal.returns
returns g c =
    let a = c.args in
    rows_are_indexed a.versions a.file.now _ (sym c.in_ok-rows.ensures) (g.E.IndexList.entries a.list) _ (sym c.entries_agree.ensures ∙ c.if-entries_agree.false)

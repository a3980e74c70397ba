-- `burst_layout::line_of` meets its contract: what stands at the place before the position is the list's line there.
use Rattle.std.proofs.Common.{◌∙◌, ap, arith}
use Rattle.burst_layout.specs.Layout.{line_in}
use Rattle.burst_layout.proofs.Lines.{read_or_refused, field_at_place}
use Rattle.burst_layout.proofs.line_of.Goals as goal

pub returns : goal.returns
returns c =
    let i = c.in_ok-i.i in
    let before = rw c.in_ok-i.ensures.ok_part at c.checked_sub.ensures in
    simp (c.ok_or-2.ensures.value, c.copied.ensures) (read_or_refused _ i c.get.result c.get.ensures.lookup.3)
    ∙ ap (λ fs. line_in fs i) c.fields.ensures
    ∙ field_at_place c.args.position i (omega arith)

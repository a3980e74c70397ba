-- `dot_lines::Cuts::dots` meets its contract: after the masks the words are known lane by lane, and so are the two words that are left.
use Rattle.std.proofs.Common.{◌∙◌}
use Rattle.dot_lines.proofs.AtOnce.{of_even, of_odd, cuts_enough, dots_left, dots_gathered}
use Rattle.dot_lines.proofs.Cuts.dots.Goals as goal

pub overflow_sub-self : goal.overflow_sub-self
overflow_sub-self c =
    let cuts = c.args.self in
    let even = of_even c.args.samples.now c.fits-samples c.from_le_bytes-word.result c.from_le_bytes-word.ensures in
    cuts_enough c.args.samples.now c.fits-samples cuts.row 0 cuts.even _ cuts.even_of_row even

pub overflow_sub-self-2 : goal.overflow_sub-self-2
overflow_sub-self-2 c =
    let cuts = c.args.self in
    let odd = c.masked-of_odd.ensures.0 ∙ of_odd c.args.samples.now c.fits-samples c.from_le_bytes-word.result c.from_le_bytes-word.ensures in
    cuts_enough c.args.samples.now c.fits-samples cuts.row 1 cuts.odd _ cuts.odd_of_row odd

pub returns : goal.returns
returns c =
    let cuts = c.args.self in
    let v = c.args.samples.now in
    let even = of_even v c.fits-samples c.from_le_bytes-word.result c.from_le_bytes-word.ensures in
    let odd = c.masked-of_odd.ensures.0 ∙ of_odd v c.fits-samples c.from_le_bytes-word.result c.from_le_bytes-word.ensures in
    c.gather.ensures
    ∙ dots_gathered v c.fits-samples cuts.row c.masked-even_dots.result c.masked-odd_dots.result
    (c.masked-even_dots.ensures.0 ∙ dots_left v c.fits-samples cuts.row 0 cuts.even _ cuts.even_of_row even)
    (c.masked-odd_dots.ensures.0 ∙ dots_left v c.fits-samples cuts.row 1 cuts.odd _ cuts.odd_of_row odd)

-- `plotter::Rows::draw` meets its contract: the invariant is `Drawing`. No row is missing, so that going on is never refused.
use Rattle.std.proofs.Common.{arith, ℕ, ◌≡◌, ◌≤◌, ◌+◌, ◌*◌, ◌++◌, ◌∙◌, sym, ap, true, length, take, drop}
use native.Mathlib.Nat.{le_trans, mul-le-mul_right, add-mul}
use Rattle.answer.specs.Told.{told}
use Rattle.answer.specs.Window.{fits, bytes_at}
use Rattle.answer.specs.declared.Part.{Part}
use Rattle.dot_lines.specs.Line.{line_bytes, line}
use Rattle.plotter.proofs.Going.{NextRow, next_row}
use Rattle.plotter.proofs.Starting.{known_start}
use Rattle.plotter.proofs.Drawing.{nothing_drawn, line_drawn, one_drawn, same_size, next_fits, is_there, all_drawn}
use Rattle.plotter.proofs.Drawn.{window_inside}
use Rattle.plotter.proofs.Rows.draw.Goals as goal
use Rattle.plotter.proofs.Rows.draw.Goals.{After-unwrap-row}

-- the row that going on came to, and that the window fits it
came : (c : After-unwrap-row) → NextRow c.args.self.now.kind c.args.self.now.file.now (c.args.self.now.first + c.loop-y.y) c.unwrap-row.result
came c =
    let r = c.args.self.now in
    let l = c.loop-y in
    next_row r.kind r.file.now (r.first + l.y) l.from l.invariant.going.next c.unwrap-row.result
    (sym c.row_from.ensures ∙ ap told c.unwrap-row.ensures)

fitted : (c : After-unwrap-row) → fits c.unwrap-row.result.part.count c.args.self.now.window.first c.args.self.now.window.count ≡ true
fitted c =
    let r = c.args.self.now in
    let l = c.loop-y in
    let n = came c in
    ap (λ (q : Part). fits q.count r.window.first r.window.count) (sym n.part)
    ∙ next_fits r.kind r.file.now r.first r.count r.window.first r.window.count c.args.out.now l.out l.from l.y l.invariant c.requires.there.0 c.requires.there.1 c.loop-y-test.true n.row n.is_row

-- its window lies in the file, and its line in the buffer
inside : (c : After-unwrap-row) → c.unwrap-row.result.part.place + c.args.self.now.window.first + c.args.self.now.window.count ≤ length c.args.self.now.file.now
inside c =
    let r = c.args.self.now in
    window_inside r.file.now c.unwrap-row.result r.window.first r.window.count (came c).inside (fitted c)

room : (c : After-unwrap-row) → c.loop-y.y * line_bytes c.args.self.now.window.count + line_bytes c.args.self.now.window.count ≤ length c.args.out.now
room c =
    let r = c.args.self.now in
    let y = c.loop-y.y in
    le_trans (omega (arith, add-mul y 1 (line_bytes r.window.count)))
    (le_trans (mul-le-mul_right {m = y + 1} {n = r.count} (line_bytes r.window.count) (omega (arith, c.loop-y-test.true))) c.requires.room)

pub loop-y-init : goal.loop-y-init
loop-y-init c =
    let r = c.args.self.now in
    nothing_drawn r.kind r.file.now r.first r.count r.window.first r.window.count c.args.out.now r.start (known_start r.kind r.file.now r.first r.start r.starts)

pub unwrap-row-requires : goal.unwrap-row-requires
unwrap-row-requires c =
    let r = c.args.self.now in
    let l = c.loop-y in
    is_there r.kind r.file.now r.first r.count r.window.first r.window.count c.args.out.now l.out l.from l.y l.invariant c.requires.there.0 c.requires.there.1 c.loop-y-test.true
    c.row_from.result c.row_from.ensures

pub overflow_add-part : goal.overflow_add-part
overflow_add-part c = omega (arith, inside (goal.at.overflow_add-part c).After-unwrap-row)

pub overflow_mul-y : goal.overflow_mul-y
overflow_mul-y c = omega (arith, room (goal.at.overflow_mul-y c).After-unwrap-row, ap (λ (w : ℕ). c.loop-y.y * w) c.line_bytes-bytes.ensures)

pub overflow_add-from : goal.overflow_add-from
overflow_add-from c = omega (arith, (came (goal.at.overflow_add-from c).After-unwrap-row).inside)

pub loop-y-preserved : goal.loop-y-preserved
loop-y-preserved c =
    let r = c.args.self.now in
    let l = c.loop-y in
    let m = (goal.at.loop-y-preserved c).After-unwrap-row in
    let next = c.unwrap-row.result in
    let at : l.y * c.line_bytes-bytes.result ≡ l.y * line_bytes r.window.count = ap (λ (w : ℕ). l.y * w) c.line_bytes-bytes.ensures in
    let long : length l.out ≡ length c.args.out.now =
    same_size r.kind r.file.now r.first r.count r.window.first r.window.count c.args.out.now l.out l.from l.y l.invariant c.requires.room in
    one_drawn r.kind r.file.now r.first r.count r.window.first r.window.count c.args.out.now l.out l.from l.y l.invariant c.loop-y-test.true next (came m) (fitted m) _
    (c.draw_row.ensures
    ∙ line_drawn r.file.now l.out (next.part.place + r.window.first) r.window.count l.y (l.y * c.line_bytes-bytes.result) (inside m) (omega (arith, room m, at, long))
    ∙ ap (λ (k : ℕ). take k l.out ++ line l.y (bytes_at r.file.now (next.part.place + r.window.first) r.window.count) ++ drop (k + line_bytes r.window.count) l.out) at)

pub returns : goal.returns
returns c =
    let r = c.args.self.now in
    let l = c.loop-y in
    all_drawn r.kind r.file.now r.first r.count r.window.first r.window.count c.args.out.now l.out l.from l.y l.invariant c.requires.there.0 c.requires.there.1 c.loop-y-test.false c.requires.room

-- `dot_lines::put_line` meets its contract: after j turns the first j bytes of the line are put.
use Rattle.std.proofs.Common.{arith, ℕ, List, [], ◌≡◌, ◌<◌, ◌+◌, ◌*◌, ◌/◌, ◌%◌, length, get_or, drop, slice_set, ap, ap₂, ◌∙◌}
use Rattle.std.proofs.lemmas.Bool.Decides.{nat_tests}
use Rattle.dot_lines.specs.Private.{dots_of}
use Rattle.dot_lines.proofs.Bytes.{whole_byte, filled_byte, line_more, line_put}
use Rattle.dot_lines.proofs.put_line.Goals as goal

pub loop-j-preserved : goal.loop-j-preserved
loop-j-preserved c =
    let a = c.args in
    let w = a.samples.now in
    let j = c.loop-j.j in
    let inside : j < length w / 8 = omega (arith, c.loop-j-test.true, c.as_chunks.ensures.front_len) in
    line_more a.y w a.out.now c.loop-j.out j c.dots.result c.loop-j.invariant c.requires (omega (arith, inside))
    (c.dots.ensures
    ∙ ap₂ (λ (y : ℕ) (chunks : List (List ℕ)). dots_of y (get_or chunks j [])) c.of_row-cuts.ensures c.as_chunks.ensures.front
    ∙ whole_byte a.y w j inside)

pub returns-then-not-is_empty : goal.returns-then-not-is_empty
returns-then-not-is_empty c =
    let a = c.args in
    let w = a.samples.now in
    let j = c.loop-j.j in
    let whole : length w / 8 ≡ j = omega (arith, c.loop-j-test.false, c.loop-j.auto.j-end, c.as_chunks.ensures.front_len) in
    let at : length c.as_chunks.result.0.now ≡ j = omega (arith, whole, c.as_chunks.ensures.front_len) in
    let is_left = c.if-not-is_empty.ensures in
    let left : 0 < length c.as_chunks.result.1.now = grind (arith, nat_tests) in
    let more : 0 < length w % 8 = omega (arith, left, c.as_chunks.ensures.back_len) in
    let rest : c.as_chunks.result.1.now ≡ drop (j * 8) w = c.as_chunks.ensures.back ∙ ap (λ (n : ℕ). drop (n * 8) w) whole in
    ap (λ (i : ℕ). slice_set c.loop-j.out i c.dots-then-not-is_empty.result) at
    ∙ line_put a.y w a.out.now (slice_set c.loop-j.out j c.dots-then-not-is_empty.result) (j + 1)
    (line_more a.y w a.out.now c.loop-j.out j c.dots-then-not-is_empty.result c.loop-j.invariant c.requires (omega (arith, whole, more))
    (c.dots-then-not-is_empty.ensures
    ∙ ap (λ (y : ℕ). dots_of y c.filled_up.result) c.of_row-cuts.ensures
    ∙ filled_byte a.y w j c.filled_up.result (λ i h. c.filled_up.ensures i h ∙ ap (λ (xs : List ℕ). get_or xs i 255) rest)))
    (omega (arith, whole))

pub returns-else-not-is_empty : goal.returns-else-not-is_empty
returns-else-not-is_empty c =
    let a = c.args in
    let is_left = c.if-not-is_empty.ensures in
    let none : length c.as_chunks.result.1.now ≡ 0 = grind (arith, nat_tests) in
    line_put a.y a.samples.now a.out.now c.loop-j.out c.loop-j.j c.loop-j.invariant
    (omega (arith, none, c.loop-j-test.false, c.as_chunks.ensures.front_len, c.as_chunks.ensures.back_len))

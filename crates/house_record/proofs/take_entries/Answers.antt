-- `house_record::take_entries` meets its contract: a turn of the loop writes entry i.
use Rattle.std.proofs.Common.{ℕ, ◌≡◌, ◌/◌, List, [], ◌++◌, length, get_or, arith, ◌∙◌, ap}
use Rattle.std.specs.Int.{from_le_bytes, w32}
use Rattle.std.specs.Simd.{first_chunks}
use mathlib.Core.Path.{ap₂}
use mathlib.Core.List.{append-nil}
use Rattle.std.proofs.lemmas.List.{take_all, drop_all}
use Rattle.answer.proofs.Writers.{one_put, all_put}
use Rattle.house_record.specs.Record.{entries_of}
use Rattle.house_record.proofs.Entries.{length_entries, entry_of_four}
use Rattle.house_record.proofs.take_entries.Goals as goal

pub loop-i-preserved : goal.loop-i-preserved
loop-i-preserved c =
    let n = length c.args.list.now in
    let bytes = c.args.bytes.now in
    let count : length bytes / 4 ≡ n = omega (arith, c.requires) in
    one_put (entries_of n bytes) c.args.list.now n c.loop-i.list c.loop-i.i c.loop-i.invariant (omega (arith, length_entries n bytes)) (omega arith) c.from_le_bytes.result (omega arith)
    (c.from_le_bytes.ensures
    ∙ ap (λ (fours : List (List ℕ)). from_le_bytes w32 (get_or fours c.loop-i.i [])) c.as_chunks.ensures.front
    ∙ ap (λ (k : ℕ). from_le_bytes w32 (get_or (first_chunks 4 k bytes) c.loop-i.i [])) count
    ∙ entry_of_four n c.loop-i.i bytes (omega arith) (omega (arith, c.requires)))

pub returns : goal.returns
returns c =
    let old = c.args.list.now in
    let n = length old in
    let xs = entries_of n c.args.bytes.now in
    all_put xs old n c.loop-i.list c.loop-i.i c.loop-i.invariant (omega arith)
    ∙ ap₂ ◌++◌ (take_all n xs (omega (arith, length_entries n c.args.bytes.now))) (drop_all n old (omega arith))
    ∙ append-nil xs

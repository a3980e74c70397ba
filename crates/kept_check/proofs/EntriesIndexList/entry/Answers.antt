-- The entries of a record, asked for by number: entry i is the number of the four bytes that are cut off as number i.
use Rattle.std.proofs.Common.{ℕ, List, [], ◌/◌, ◌<◌, length, get_or, arith, ◌∙◌, sym, ap}
use Rattle.std.specs.Prelude.{Some}
use Rattle.std.specs.Int.{from_le_bytes, w32}
use Rattle.std.proofs.lemmas.List.{get_or_default}
use Rattle.house_record.proofs.Entries.{entry_there, no_such_entry}
use Rattle.kept_check.proofs.EntriesIndexList.entry.Goals as goal

pub returns-in_err-get : goal.returns-in_err-get
returns-in_err-get c =
    let bytes = c.args.self.bytes.now in
    c.from_residual.ensures ∙ sym (no_such_entry (length bytes / 4) c.args.i bytes (omega (arith, c.in_err-get.ensures.lookup, c.as_chunks.ensures.front_len)))

pub returns : goal.returns
returns c =
    let bytes = c.args.self.bytes.now in
    let inside : c.args.i < length c.as_chunks.result.0.now = omega (arith, c.in_ok-get.ensures.lookup) in
    ap Some (c.from_le_bytes.ensures ∙ ap (from_le_bytes w32) (c.in_ok-get.ensures.lookup.1 ∙ get_or_default c.as_chunks.result.0.now c.args.i _ [] inside))
    ∙ ap (λ (fours : List (List ℕ)). Some (from_le_bytes w32 (get_or fours c.args.i []))) c.as_chunks.ensures.front
    ∙ sym (entry_there (length bytes / 4) c.args.i bytes (omega (arith, inside, c.as_chunks.ensures.front_len)) (omega arith))

-- A list that was kept reads back as the same list, and its kept form is the only one (document 01: "A list written so reads back as
-- the same list"): the laws on the house record, of kind 1.
use Prim.Native.Nat.{ℕ, ◌^◌, ◌≤◌}
use native.Mathlib.Omega.{arith}
use mathlib.Core.Path.{◌≡◌, ◌∙◌, sym, ap}
use mathlib.Core.List.{List, []}
use lib.ListN.{length}
use lib.Dec.{leb}
use borrow.Author.Tests.{le-leb, leb-true}
use Rattle.answer.specs.Outcome.{answer, need}
use Rattle.answer.proofs.Outcomes.{passed, answer_injective}
use Rattle.little.specs.LittleEndian.{Below}
use Rattle.house_record.specs.Record.{load_as}
use Rattle.house_record.proofs.RoundTrip.{kept_reads_back, read_is_kept}
use Rattle.kept.specs.Kept.{kept_form, keep_index, read_kept, load_kept}

-- the theorem: a list of numbers below 2^32, of at most 1,073,741,823 entries, reads back as it was written
pub written_reads_back : (xs : List ℕ) → Below (2 ^ 32) xs → length xs ≤ 1073741823 → read_kept (kept_form xs) ≡ answer xs
written_reads_back xs entries few = kept_reads_back 1 [] xs (omega arith) entries (omega arith)

-- the theorem the other way: bytes that read as a list are its kept form, so no other bytes read as this list
pub the_only_kept_form : (bytes xs : List ℕ) → Below 256 bytes → read_kept bytes ≡ answer xs → kept_form xs ≡ bytes
the_only_kept_form bytes xs are_bytes reads = read_is_kept 1 6 bytes xs (omega arith) are_bytes reads

-- the same of the two calls: what the writer wrote, the reader reads into any list that has room for it
pub kept_loads : (xs : List ℕ) (room places : ℕ) (w : List ℕ) → Below (2 ^ 32) xs → keep_index xs room ≡ answer w → length xs ≤ places
    → load_kept w places ≡ answer xs
unfolding keep_index load_as
kept_loads xs room places w entries e fits =
    let (few, then-room) = passed 0 (leb (length xs) 1073741823) 14 (need (leb (length (kept_form xs)) room) 8 (answer (kept_form xs))) w e in
    let (_, is) = passed 0 (leb (length (kept_form xs)) room) 8 (answer (kept_form xs)) w then-room in
    ap (λ (v : List ℕ). load_kept v places) (sym (answer_injective is))
    ∙ simp (written_reads_back xs entries (leb-true _ _ few), le-leb _ _ fits)

-- The bytes of entries, written one after the other: each turn of the loop writes one entry more.
use Prim.Native.Nat.{ℕ, ◌+◌, ◌*◌, ◌<◌}
use native.Mathlib.Numerals.{add-one}
use native.Mathlib.Omega.{arith}
use mathlib.Core.Path.{◌≡◌, refl, ◌∙◌, sym, ap, ap₂}
use mathlib.Core.List.{List, [], ◌∷◌, ◌++◌, append_assoc}
use lib.ListN.{length, get_or, take, drop, length-append}
use lib.Seq.{take-suc, length-take-le}
use borrow.Rule.Slice.PartMut.{put_mid}
use Rattle.answer.proofs.Writers.{pieces_put}
use Rattle.little.specs.LittleEndian.{le}
use Rattle.house_record.specs.Record.{entry_bytes}
use Rattle.house_record.proofs.Entries.{length_entry_bytes}

pub entry_bytes_append : (xs ys : List ℕ) → entry_bytes (xs ++ ys) ≡ entry_bytes xs ++ entry_bytes ys
entry_bytes_append [] ys = refl
entry_bytes_append (x ∷ xs) ys = ap (λ (t : List ℕ). le 4 x ++ t) (entry_bytes_append xs ys) ∙ sym (append_assoc (le 4 x) (entry_bytes xs) (entry_bytes ys))

-- a turn of the loop that writes entries over `old`
pub one_entry_put : (xs old : List ℕ) (i m : ℕ) (out back : List ℕ) → i < length xs → m ≡ 4 → out ≡ entry_bytes (take i xs) ++ drop (4 * i) old
    → back ≡ le 4 (get_or xs i 0) → put_mid (4 * i) m out back ≡ entry_bytes (take (i + 1) xs) ++ drop (4 * (i + 1)) old
one_entry_put xs old i m out back h four is entry =
    let so_far : length (entry_bytes (take i xs)) ≡ 4 * i = length_entry_bytes (take i xs) ∙ ap (λ (k : ℕ). 4 * k) (length-take-le i xs (omega arith)) in
    let more : entry_bytes (take i xs) ++ le 4 (get_or xs i 0) ≡ entry_bytes (take (i + 1) xs) =
    sym (entry_bytes_append (take i xs) (get_or xs i 0 ∷ []))
    ∙ ap entry_bytes (sym (take-suc xs i 0 h) ∙ ap (λ (k : ℕ). take k xs) (sym (add-one i))) in
    rw (four, is, entry)
    (pieces_put (entry_bytes (take i xs)) (le 4 (get_or xs i 0)) old (4 * i) 4 so_far refl
    ∙ ap₂ (λ (w : List ℕ) (k : ℕ). w ++ drop k old) more (length-append (entry_bytes (take i xs)) (le 4 (get_or xs i 0)) ∙ omega (arith, so_far)))

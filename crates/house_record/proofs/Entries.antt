-- The entries of a record and their bytes, four to each: one gives the other back.
use Prim.Native.Nat.{ℕ, zero, suc, ◌+◌, ◌*◌, ◌^◌, ◌<◌, ◌≤◌}
use native.Mathlib.Omega.{arith}
use mathlib.Core.Path.{◌≡◌, refl, ◌∙◌, sym, ap, ap₂}
use mathlib.Core.List.{List, [], ◌∷◌, ◌++◌}
use lib.ListN.{length, get_or, take, drop, length-drop, take-append-drop}
use lib.Seq.{drop-drop, length-take-le}
use Rattle.std.specs.Prelude.{slice_get, Some, None}
use Rattle.std.specs.Int.{from_le_bytes, w32}
use Rattle.std.specs.Simd.{first_chunks}
use Rattle.answer.specs.Window.{bytes_at}
use Rattle.little.specs.LittleEndian.{le, le_number, Below}
use Rattle.little.proofs.LittleEndian.{four_are_a_number, number_of_bytes, bytes_of_number, below_in_the_front, below_in_the_rest}
use Rattle.house_record.specs.Record.{entry_bytes, entries_of}

pub length_entry_bytes : (xs : List ℕ) → length (entry_bytes xs) ≡ 4 * length xs
length_entry_bytes [] = refl
length_entry_bytes (x ∷ xs) = omega (arith, length_entry_bytes xs)

pub length_entries : (n : ℕ) (s : List ℕ) → length (entries_of n s) ≡ n
length_entries zero s = refl
length_entries (suc n) s = ap suc (length_entries n (drop 4 s))

-- entries, written and read
pub entries_of_bytes : (xs : List ℕ) → Below (2 ^ 32) xs → entries_of (length xs) (entry_bytes xs) ≡ xs
entries_of_bytes [] h = refl
entries_of_bytes (x ∷ xs) h = ap₂ ◌∷◌ (number_of_bytes 4 x h.0) (entries_of_bytes xs h.1)

-- entries, read and written
pub bytes_of_entries : (n : ℕ) (s : List ℕ) → length s ≡ 4 * n → Below 256 s → entry_bytes (entries_of n s) ≡ s
bytes_of_entries zero [] h b = refl
bytes_of_entries zero (x ∷ s) h b = absurd (omega arith)
bytes_of_entries (suc n) s h b =
    let four : length (take 4 s) ≡ 4 = length-take-le 4 s (omega arith) in
    ap₂ ◌++◌ (ap (λ (w : ℕ). le w (le_number (take 4 s))) (sym four) ∙ bytes_of_number (take 4 s) (below_in_the_front 256 4 s b))
    (bytes_of_entries n (drop 4 s) (length-drop 4 s ∙ omega arith) (below_in_the_rest 256 4 s b))
    ∙ take-append-drop 4 s

-- entry i
entry_at : (n i : ℕ) (s : List ℕ) → i < n → get_or (entries_of n s) i 0 ≡ le_number (bytes_at s (4 * i) 4)
entry_at zero i s h = absurd (omega arith)
entry_at (suc n) zero s h = refl
entry_at (suc n) (suc i) s h =
    let further : 4 + 4 * i ≡ 4 * suc i = omega arith in
    entry_at n i (drop 4 s) (omega arith)
    ∙ ap (λ (r : List ℕ). le_number (take 4 r)) (drop-drop (4 * i) 4 s ∙ ap (λ (k : ℕ). drop k s) further)

-- entry i of those that begin at `first`
pub entry_place : (first n i : ℕ) (s : List ℕ) → i < n → get_or (entries_of n (drop first s)) i 0 ≡ le_number (bytes_at s (first + 4 * i) 4)
entry_place first n i s h = entry_at n i (drop first s) h ∙ ap (λ (r : List ℕ). le_number (take 4 r)) (drop-drop (4 * i) first s)

-- the number of the four bytes that are cut off as number i is entry i
pub entry_of_four : (n i : ℕ) (s : List ℕ) → i < n → 4 * n ≤ length s → from_le_bytes w32 (get_or (first_chunks 4 n s) i []) ≡ get_or (entries_of n s) i 0
entry_of_four zero i s h long = absurd (omega arith)
entry_of_four (suc n) zero s h long = four_are_a_number (take 4 s) (length-take-le 4 s (omega (arith, long)))
entry_of_four (suc n) (suc i) s h long = entry_of_four n i (drop 4 s) (omega arith) (omega (arith, long, length-drop 4 s))

-- an entry asked for by its number, where there is such a one and where there is none
pub entry_there : (n i : ℕ) (s : List ℕ) → i < n → 4 * n ≤ length s → slice_get (entries_of n s) i ≡ Some (from_le_bytes w32 (get_or (first_chunks 4 n s) i []))
entry_there zero i s h long = absurd (omega arith)
entry_there (suc n) zero s h long = ap Some (sym (four_are_a_number (take 4 s) (length-take-le 4 s (omega (arith, long)))))
entry_there (suc n) (suc i) s h long = entry_there n i (drop 4 s) (omega arith) (omega (arith, long, length-drop 4 s))

pub no_such_entry : (n i : ℕ) (s : List ℕ) → n ≤ i → slice_get (entries_of n s) i ≡ None
no_such_entry zero i s h = refl
no_such_entry (suc n) zero s h = absurd (omega arith)
no_such_entry (suc n) (suc i) s h = no_such_entry n i (drop 4 s) (omega arith)

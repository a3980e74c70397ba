-- The length field's rule in version 1: exactly the fields of spaces and then digits, one digit at least, are read, and as what they say
-- (`padded_is_read`, `read_is_padded`).
use Prim.Native.Nat.{ℕ, zero, suc, ◌+◌, ◌^◌, ◌<◌, ◌≤◌}
use native.Mathlib.Nat.{pow-zero}
use native.Mathlib.Omega.{arith}
use mathlib.Core.Path.{◌≡◌, refl, ◌∙◌, sym, ap, ap₂}
use mathlib.Core.Bool.{Bool, true, false, not, cond}
use mathlib.Core.List.{List, [], ◌∷◌, ◌++◌}
use Rattle.std.specs.Prelude.{Option, None, Some, position, unwrap_or}
use Rattle.std.specs.List.{position_or_len}
use Rattle.std.proofs.lemmas.List.Recursion.{is_position_or_len}
use Rattle.std.proofs.lemmas.List.Sums.{prefix_len-le-length}
use lib.ListN.{length, drop, replicate, length-replicate, length-drop}
use lib.Seq.{drop_at}
use lib.Dec.{eqb}
use borrow.Author.Tests.{ne_eqb, eqb-true}
use Rattle.text.specs.Digits.{decimal}
use Rattle.text.proofs.Digits.{too_low_is_none, none_is_not_some}
use Rattle.label.specs.declared.Version.TheVariants.{One}
use Rattle.label.specs.declared.Length.{Length}
use Rattle.label.specs.Length.{one_more, spaces_in, number_in, after, length_of}

pub no_space_in_front : (b : ℕ) (bs : List ℕ) → (b ≡ 32 → ⊥) → spaces_in (b ∷ bs) ≡ 0
no_space_in_front b bs h = ap (λ (t : Bool). one_more t (spaces_in bs)) (ne_eqb b 32 h)

pub some_bytes : (xs : List ℕ) → 0 < length xs → number_in xs ≡ decimal 0 xs
some_bytes [] h = absurd (omega arith)
some_bytes (b ∷ bs) h = refl

-- a number is begun with 0
pub number_starts : (from : ℕ) (xs : List ℕ) → from < length xs → number_in (drop from xs) ≡ decimal 0 (drop from xs)
number_starts from xs h = some_bytes (drop from xs) (omega (arith, h, length-drop from xs))

-- so a bound by a power of ten holds of 0
pub tens : (k : ℕ) → 0 < 10 ^ k
tens zero = omega (arith, pow-zero 10)
tens (suc k) = omega (arith, tens k)

-- ---- spaces are counted by the place of the first byte that is none

spaces_are_counted : (xs : List ℕ) → spaces_in xs ≡ position_or_len (λ b. not (eqb b 32)) xs
spaces_are_counted xs = is_position_or_len spaces_in (λ b. not (eqb b 32)) refl (λ b bs. one (eqb b 32) (spaces_in bs)) xs
  where
    one : (t : Bool) (n : ℕ) → one_more t n ≡ cond (not t) 0 (1 + n)
    one true n = omega arith
    one false n = refl

position_or_end : (p : ℕ → Bool) (xs : List ℕ) → unwrap_or (position p xs) (length xs) ≡ position_or_len p xs
position_or_end p xs = grind (arith, prefix_len-le-length)

pub spaces_to_first_other : (xs : List ℕ) → unwrap_or (position (λ b. not (eqb b 32)) xs) (length xs) ≡ spaces_in xs
spaces_to_first_other xs = position_or_end (λ b. not (eqb b 32)) xs ∙ sym (spaces_are_counted xs)

pub spaces_at_most : (xs : List ℕ) → spaces_in xs ≤ length xs
spaces_at_most xs = omega (arith, spaces_are_counted xs, prefix_len-le-length (λ b. not (not (eqb b 32))) xs)

-- ---- spaces and then digits are read

no_space_in_digits : (xs : List ℕ) (n m : ℕ) → decimal n xs ≡ Some m → spaces_in xs ≡ 0
no_space_in_digits [] n m e = refl
no_space_in_digits (b ∷ bs) n m e =
    no_space_in_front b bs (λ is. none_is_not_some (sym (too_low_is_none n b bs (omega (arith, is))) ∙ e))

spaces_in_front : (k : ℕ) (xs : List ℕ) → spaces_in xs ≡ 0 → spaces_in (replicate k 32 ++ xs) ≡ k
spaces_in_front zero xs h = h
spaces_in_front (suc k) xs h = ap suc (spaces_in_front k xs h)

pub padded_is_read : (k : ℕ) (digits : List ℕ) (n : ℕ) → 0 < length digits → decimal 0 digits ≡ Some n
    → length_of One (replicate k 32 ++ digits) ≡ Some (record { bytes = n; spaces = k })
padded_is_read k digits n h e =
    let spaces : spaces_in (replicate k 32 ++ digits) ≡ k = spaces_in_front k digits (no_space_in_digits digits 0 n e) in
    ap (λ (j : ℕ). after j (number_in (drop j (replicate k 32 ++ digits)))) spaces
    ∙ ap (after k) (ap number_in (drop_at (replicate k 32) digits k (length-replicate k 32)) ∙ some_bytes digits h ∙ e)

-- ---- what is read is spaces and then digits

-- a field that was read: its digits, and the spaces before them
pub record Padded (field : List ℕ) (l : Length) : Type 0 where
  pub digits : List ℕ
  pub is : field ≡ replicate l.spaces 32 ++ digits
  pub not_none : 0 < length digits
  pub number : decimal 0 digits ≡ Some l.bytes

pub spaces_of_padded : {field : List ℕ} {l : Length} → Padded field l → spaces_in field ≡ l.spaces
spaces_of_padded {field} {l} p =
    ap spaces_in p.is ∙ spaces_in_front l.spaces p.digits (no_space_in_digits p.digits 0 l.bytes p.number)

spaces_then_rest : (xs : List ℕ) → xs ≡ replicate (spaces_in xs) 32 ++ drop (spaces_in xs) xs
spaces_then_rest [] = refl
spaces_then_rest (b ∷ bs) = step (eqb b 32) refl (spaces_then_rest bs)
  where
    step : (t : Bool) → eqb b 32 ≡ t → bs ≡ replicate (spaces_in bs) 32 ++ drop (spaces_in bs) bs
        → b ∷ bs ≡ replicate (one_more t (spaces_in bs)) 32 ++ drop (one_more t (spaces_in bs)) (b ∷ bs)
    step true e h = ap₂ ◌∷◌ (eqb-true b 32 e) h
    step false e h = refl

number_was_read : (xs : List ℕ) (n : ℕ) → number_in xs ≡ Some n → (0 < length xs) × (decimal 0 xs ≡ Some n)
number_was_read [] n e = absurd (none_is_not_some e)
number_was_read (b ∷ bs) n e = (omega arith, e)

-- digits that were read behind so many spaces
pub record Behind (k : ℕ) (xs : List ℕ) (l : Length) : Type 0 where
  pub not_none : 0 < length xs
  pub number : decimal 0 xs ≡ Some l.bytes
  pub spaces : k ≡ l.spaces

read_behind : (k : ℕ) (xs : List ℕ) (l : Length) → after k (number_in xs) ≡ Some l → Behind k xs l
read_behind k xs l e = behind (number_in xs) refl e
  where
    behind : (o : Option ℕ) → number_in xs ≡ o → after k o ≡ Some l → Behind k xs l
    behind None is e = absurd (let z : ◌≡◌ {A = ℕ} 0 1 = cc in omega arith)
    behind (Some n) is e =
        let said : record { bytes = n; spaces = k } ≡ l = cc in
        let (not_none, number) = number_was_read xs n is in
        record {
          not_none = not_none;
          number = number ∙ ap (λ (m : Length). Some m.bytes) said;
          spaces = ap (λ (m : Length). m.spaces) said;
        }

pub read_is_padded : (field : List ℕ) (l : Length) → length_of One field ≡ Some l → Padded field l
read_is_padded field l e =
    let digits = drop (spaces_in field) field in
    let r = read_behind (spaces_in field) digits l e in
    record {
      digits = digits;
      is = spaces_then_rest field ∙ ap (λ (k : ℕ). replicate k 32 ++ digits) r.spaces;
      not_none = r.not_none;
      number = r.number;
    }

-- digits from the field's first byte on are the whole field
pub digits_alone : (xs : List ℕ) (l : Length) → after 0 (number_in xs) ≡ Some l → length_of One xs ≡ Some l
digits_alone xs l e =
    let r = read_behind 0 xs l e in
    padded_is_read 0 xs l.bytes r.not_none r.number ∙ ap (λ (k : ℕ). Some (record { bytes = l.bytes; spaces = k })) r.spaces

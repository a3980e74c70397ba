-- What a label that was read says of its bytes: twenty of them, of which the first twelve are its version's head and the others its
-- version's length field; and that its version is allowed.
use Prim.Native.Nat.{ℕ, ◌+◌, ◌*◌, ◌^◌, ◌≤◌, ◌<◌}
use native.Mathlib.Nat.{pow-le-pow_right}
use native.Mathlib.Omega.{arith}
use mathlib.Core.Path.{◌≡◌, refl, ◌∙◌, sym, ap, ap₂}
use mathlib.Core.Bool.{true, ◌&&◌}
use mathlib.Core.List.{List, ◌++◌}
use Rattle.std.specs.Prelude.{Option, None, Some}
use lib.ListN.{length, get_or, take, drop, replicate, get_or-append, length-append, length-drop, length-replicate}
use lib.Seq.{length-take-le, get_or-take, take-add, drop_at}
use Rattle.answer.specs.Outcome.{answer}
use Rattle.answer.proofs.Outcomes.{passed, answer_injective, answer_is_no_refusal}
use Rattle.text.proofs.Digits.{no_more_digits}
use Rattle.label.specs.Head.{head_good, four_at, is_agency, is_form, is_description}
use Rattle.label.specs.declared.Version.{Version}
use Rattle.label.specs.declared.Version.TheVariants.{One, Two}
use Rattle.label.specs.declared.Versions.{Versions}
use Rattle.label.specs.declared.Versions.TheVariants as choice
use Rattle.label.specs.Version.{allows, version_for}
use Rattle.label.specs.declared.Length.{Length}
use Rattle.label.specs.Length.{length_of, spaces_at}
use Rattle.label.specs.declared.Label.{Label}
use Rattle.label.specs.Label.{labelled, with_length, label_as, read_label}
use Rattle.label.proofs.ByteFour.{version_for_is_allowed}
use Rattle.label.proofs.Spaces.{Padded, spaces_of_padded, read_is_padded}
use Rattle.label.proofs.Reading.{twenty_bytes_are_read, read_has_20_bytes}

-- two lists that agree on their first twelve bytes have the same head
pub record SameHead (s t : List ℕ) : Type 0 where
  pub at : (i : ℕ) → i < 12 → get_or s i 0 ≡ get_or t i 0

module _ {s t : List ℕ} (same : SameHead s t) where
  same_four : (i : ℕ) → i + 3 < 12 → four_at s i ≡ four_at t i
  same_four i h =
      cc (same.at i (omega arith), same.at (i + 1) (omega arith), same.at (i + 2) (omega arith), same.at (i + 3) (omega arith))

  module _ (version : Version) where
    pub same_head_good : head_good version s ≡ head_good version t
    same_head_good =
        ap₂ ◌&&◌ (ap is_agency (same_four 0 (omega arith)))
        (ap₂ ◌&&◌ (ap (is_form version) (same_four 4 (omega arith))) (ap is_description (same_four 8 (omega arith))))

    pub same_labelled : (n spaces : ℕ) → labelled version s n spaces ≡ labelled version t n spaces
    same_labelled n spaces = cc (same_four 0 (omega arith), same.at 5 (omega arith), same_four 8 (omega arith))

-- a list and its first bytes, twelve at least, have the same head
pub front_has_the_head : (head t : List ℕ) → 12 ≤ length head → SameHead (head ++ t) head
front_has_the_head head t h = record { at = λ i k. get_or-append head t 0 i (omega arith) }

pub take_has_the_head : (n : ℕ) (s : List ℕ) → 12 ≤ n → SameHead (take n s) s
take_has_the_head n s h = record { at = λ i k. get_or-take n s i 0 (omega arith) }

-- what a label that was read says of its twenty bytes
pub record Read (s : List ℕ) (l : Label) : Type 0 where
  pub long : 20 ≤ length s
  pub good : head_good l.version (take 12 s) ≡ true
  pub field : length_of l.version (take 8 (drop 12 s)) ≡ Some (record { bytes = l.length; spaces = l.spaces })
  pub fields : labelled l.version (take 12 s) l.length l.spaces ≡ l

length_was_read : (version : Version) (b : List ℕ) (o : Option Length) (l : Label) → with_length version b o ≡ answer l
    → (m : Length) × (o ≡ Some m) × (labelled version b m.bytes m.spaces ≡ l)
length_was_read version b (Some m) l e = (m, refl, answer_injective e)
length_was_read version b None l e = absurd (answer_is_no_refusal (sym e))

-- twenty bytes that were read as a label of some version: the label is of that version
module _ (version : Version) (s : List ℕ) (l : Label) (long : 20 ≤ length s) (e : label_as version (take 20 s) ≡ answer l) where
  read_as : Read s l × (version ≡ l.version)
  read_as =
      let (good, then-length) = passed 0 (head_good version (take 20 s)) 2 _ l e in
      let (m, field, is) = length_was_read version (take 20 s) (length_of version (drop 12 (take 20 s))) l then-length in
      let there : drop 12 (take 20 s) ≡ take 8 (drop 12 s) = ap (drop 12) (take-add 12 8 s) ∙ drop_at (take 12 s) (take 8 (drop 12 s)) 12 (length-take-le 12 s (omega (arith, long))) in
      let to_s = take_has_the_head 20 s (omega arith) in
      let to_head = take_has_the_head 12 s (omega arith) in
      let same_version : version ≡ l.version = ap (λ (x : Label). x.version) is in
      let same_length : m.bytes ≡ l.length = ap (λ (x : Label). x.length) is in
      let same_spaces : m.spaces ≡ l.spaces = ap (λ (x : Label). x.spaces) is in (
        record {
          long = long;
          good = ap (λ (v : Version). head_good v (take 12 s)) (sym same_version) ∙ same_head_good to_head version ∙ sym (same_head_good to_s version) ∙ good;
          field =
              ap₂ length_of (sym same_version) (sym there) ∙ field
              ∙ ap₂ (λ (n k : ℕ). Some (record { bytes = n; spaces = k })) same_length same_spaces;
          fields =
              ap (λ (v : Version). labelled v (take 12 s) l.length l.spaces) (sym same_version)
              ∙ same_labelled to_head version l.length l.spaces
              ∙ sym (same_labelled to_s version l.length l.spaces)
              ∙ ap₂ (labelled version (take 20 s)) (sym same_length) (sym same_spaces)
              ∙ is;
        },
        same_version,
      )

module _ (versions : Versions) (s : List ℕ) (l : Label) (e : read_label versions s ≡ answer l) where
  was_read : Read s l × (version_for versions (get_or (take 20 s) 4 0) ≡ l.version)
  was_read =
      let long = read_has_20_bytes versions s l e in
      read_as (version_for versions (get_or (take 20 s) 4 0)) s l long (sym (twenty_bytes_are_read versions s long) ∙ e)

  pub read_says : Read s l
  read_says = was_read.0

  -- its version is one that the choice allows
  pub version_is_allowed : allows versions l.version ≡ true
  version_is_allowed = ap (allows versions) (sym was_read.1) ∙ version_for_is_allowed versions (get_or (take 20 s) 4 0)

-- ---- version 1: digits behind spaces

-- told version 1 only, the reader answers labels of version 1 only
pub only_one_is_one : (version : Version) → allows choice.One version ≡ true → version ≡ One
only_one_is_one One e = refl
only_one_is_one Two e = absurd (let z : ◌≡◌ {A = ℕ} 0 1 = cc e in omega arith)

pub eight_digits_at_most : (n i : ℕ) → i ≤ 8 → n < 10 ^ i → n < 100000000
eight_digits_at_most n i h k = omega (arith, pow-le-pow_right {n = 10} (omega arith) h)

-- a field that was read has few spaces, and writes a number of eight digits at most
few_and_short : (field : List ℕ) (m : Length) → length field ≡ 8 → Padded field m → (m.spaces ≤ 7) × (m.bytes ≤ 99999999)
few_and_short field m eight p =
    let k = length p.digits in
    let all : 8 ≡ m.spaces + k =
    sym eight ∙ ap length p.is ∙ length-append (replicate m.spaces 32) p.digits ∙ ap (λ (j : ℕ). j + k) (length-replicate m.spaces 32) in
    let few : m.bytes < (0 + 1) * 10 ^ k = no_more_digits 0 p.digits m.bytes p.number in (
      omega (arith, all, p.not_none),
      omega (arith, eight_digits_at_most m.bytes k (omega (arith, all)) (omega (arith, few))),
    )

pub record ReadDigits (s : List ℕ) (l : Label) : Type 0 where
  pub short : l.length ≤ 99999999
  pub few : l.spaces ≤ 7
  pub spaces : l.spaces ≡ spaces_at s 0

pub digits_say : (s : List ℕ) (l : Label) → Read s l → l.version ≡ One → ReadDigits s l
digits_say s l r one =
    let field = take 8 (drop 12 s) in
    let padded = read_is_padded field _ (ap (λ (v : Version). length_of v field) (sym one) ∙ r.field) in
    let eight : length field ≡ 8 = length-take-le 8 (drop 12 s) (omega (arith, length-drop 12 s, r.long)) in
    let (few, short) = few_and_short field _ eight padded in
    record { short = short; few = few; spaces = sym (spaces_of_padded padded) }

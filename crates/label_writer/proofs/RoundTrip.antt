-- A label that was written reads back as the same label (`reads_back`), in both versions. `written_reads_back` starts from what the
-- writer was given; `every_label_reads_back` starts from any label that the reader can answer, and is written again without its
-- spaces. What a version's rule has to give for it is that the field reads back (`field_reads_back`), and that a length that was read
-- can be held (`read_is_held`).
use Prim.Native.Nat.{ℕ, zero, suc, ◌+◌, ◌*◌, ◌/◌, ◌%◌, ◌^◌, ◌≤◌, ◌<◌}
use native.Mathlib.Nat.{pow-zero, pow-suc}
use native.Mathlib.Omega.{arith}
use mathlib.Core.Path.{◌≡◌, refl, ◌∙◌, sym, ap}
use mathlib.Core.Bool.{true}
use mathlib.Core.List.{List, [], ◌∷◌, ◌++◌}
use Rattle.std.specs.Prelude.{Some}
use lib.ListN.{length, take, length-append}
use lib.Dec.{leb, eqb}
use lib.Seq.{take_at, drop_at, length-take-le}
use borrow.Author.Tests.{leb-true, le-leb, eqb-true, eq-eqb}
use Rattle.answer.specs.Outcome.{answer}
use Rattle.answer.proofs.Outcomes.{passed, answer_injective}
use Rattle.answer.proofs.Tests.{both_hold, hold_together}
use Rattle.text.proofs.Digits.{digits_read_back, length_digits}
use Rattle.label.specs.declared.Version.{Version}
use Rattle.label.specs.declared.Version.TheVariants.{One, Two}
use Rattle.label.specs.declared.Versions.{Versions}
use Rattle.label.specs.Version.{allows, version_for}
use Rattle.label.specs.Head.{head_good, is_head}
use Rattle.label.specs.Length.{binary, length_of}
use Rattle.label.specs.declared.Label.{Label}
use Rattle.label.specs.Label.{labelled, label_as, label_of, with_length, read_label}
use Rattle.label.proofs.ByteFour.{allowed_is_read, byte_four}
use Rattle.label.proofs.Spaces.{padded_is_read}
use Rattle.label.proofs.Reading.{good_head, twenty_bytes_are_read}
use Rattle.label.proofs.Read.{Read, same_head_good, same_labelled, front_has_the_head, read_says, digits_say}
use Rattle.label_writer.specs.Write.{longest, holds, bytes_of, field_of, write_label}
use Rattle.label_writer.specs.ReadBack.{without_spaces, ReadsBack}
use Rattle.label_writer.proofs.Writing.{length_field, written}

-- ---- a length field that was written reads back

binary_on : (n : ℕ) (xs ys : List ℕ) → binary n (xs ++ ys) ≡ binary (binary n xs) ys
binary_on n [] ys = refl
binary_on n (b ∷ bs) ys = binary_on (n * 256 + b) bs ys

bytes_read_back : (w n : ℕ) → n < 256 ^ w → binary 0 (bytes_of w n) ≡ n
bytes_read_back zero n h = omega (arith, pow-zero 256)
bytes_read_back (suc w) n h =
    let q : n / 256 < 256 ^ w = omega (arith, pow-suc 256 w) in
    binary_on 0 (bytes_of w (n / 256)) ((0 + n % 256) ∷ [])
    ∙ ap (λ (k : ℕ). k * 256 + (0 + n % 256)) (bytes_read_back w (n / 256) q) ∙ omega arith

field_reads_back : (version : Version) (n : ℕ) → holds version n ≡ true → n < 2 ^ 64
    → length_of version (field_of version n) ≡ Some (record { bytes = n; spaces = 0 })
field_reads_back One n held h =
    padded_is_read 0 (field_of One n) n (omega (arith, length_digits 10 48 8 n)) (digits_read_back 8 n (omega (arith, leb-true n longest held)))
field_reads_back Two n held h = ap (λ (k : ℕ). Some (record { bytes = k; spaces = 0 })) (bytes_read_back 8 n h)

-- ---- what was written reads back

-- what the writer writes, followed by anything, reads as the label with the version, the bytes and the length that it was given
module _ (version : Version) (head : List ℕ) (n : ℕ) (twelve : length head ≡ 12) (good : head_good version head ≡ true) (held : holds version n ≡ true)
    (small : n < 2 ^ 64) (versions : Versions) (allowed : allows versions version ≡ true) (rest : List ℕ) where
  bytes : List ℕ
  bytes = head ++ field_of version n

  twenty : length bytes ≡ 20
  unfolding bytes
  twenty = length-append head (field_of version n) ∙ omega (arith, length_field version n)

  reads_as_written : read_label versions (bytes ++ rest) ≡ answer (labelled version head n 0)
  unfolding bytes
  reads_as_written =
      let same = front_has_the_head head (field_of version n) (omega arith) in
      twenty_bytes_are_read versions (bytes ++ rest) (omega (arith, length-append bytes rest, twenty))
      ∙ ap (label_of versions) (take_at bytes rest 20 twenty)
      ∙ ap (λ (v : Version). label_as v bytes)
      (ap (version_for versions) (same.at 4 (omega arith) ∙ byte_four version head good) ∙ allowed_is_read versions version allowed)
      ∙ good_head version bytes (same_head_good same version ∙ good)
      ∙ ap (with_length version bytes) (ap (length_of version) (drop_at head (field_of version n) 12 twelve) ∙ field_reads_back version n held small)
      ∙ ap answer (same_labelled same version n 0)

-- whatever the writer wrote reads back with exactly the version, the bytes and the length that it was given
written_reads_back : (version : Version) (head : List ℕ) (n room : ℕ) (w : List ℕ) → write_label version head n room ≡ answer w → n < 2 ^ 64
    → (versions : Versions) → allows versions version ≡ true → (rest : List ℕ)
    → read_label versions (w ++ rest) ≡ answer (labelled version head n 0)
unfolding write_label bytes
written_reads_back version head n room w e small versions allowed rest =
    let (form, then-length) = passed 0 (is_head version head) 2 _ w e in
    let (held, then-room) = passed 0 (holds version n) 15 _ w then-length in
    let (_, is) = passed 0 (leb 20 room) 8 _ w then-room in
    let (twelve, good) = both_hold (eqb (length head) 12) (head_good version head) form in
    ap (λ (v : List ℕ). read_label versions (v ++ rest)) (sym (answer_injective is))
    ∙ reads_as_written version head n (eqb-true _ _ twelve) good held small versions allowed rest

-- ---- every label there is

-- a length that was read can be held by a label of its version
read_is_held : (s : List ℕ) (l : Label) → Read s l → (version : Version) → l.version ≡ version → holds version l.length ≡ true
read_is_held s l r One e = le-leb l.length longest (digits_say s l r e).short
read_is_held s l r Two e = refl

-- a label that was read can be written, and what is written reads back as it, without its spaces
every_label_reads_back : (told : Versions) (s : List ℕ) (l : Label) → read_label told s ≡ answer l → l.length < 2 ^ 64 → (room : ℕ) → 20 ≤ room
    → (w : List ℕ) × (write_label l.version (take 12 s) l.length room ≡ answer w)
    × ((versions : Versions) → allows versions l.version ≡ true → (rest : List ℕ) → read_label versions (w ++ rest) ≡ answer (without_spaces l))
every_label_reads_back told s l e small room fits =
    let r = read_says told s l e in
    let head = take 12 s in
    let twelve : length head ≡ 12 = length-take-le 12 s (omega (arith, r.long)) in
    let w = head ++ field_of l.version l.length in
    let writes : write_label l.version head l.length room ≡ answer w =
    written l.version head l.length room (hold_together (eq-eqb _ _ twelve) r.good) (read_is_held s l r l.version refl) fits in
    let same : labelled l.version head l.length 0 ≡ without_spaces l = ap without_spaces r.fields in
    (w, writes, λ versions allowed rest. written_reads_back l.version head l.length room w writes small versions allowed rest ∙ ap answer same)

pub reads_back : ReadsBack
reads_back = record { written = written_reads_back; again = every_label_reads_back }

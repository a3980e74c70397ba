-- The cases of document 01 that are marked P, in its order, each over the definitions that the public calls promise. Where a
-- case speaks of every file of some size, so does its line; and what it says of a labelled file holds whichever versions of the label
-- are allowed (document 02, item 11).
use Rattle.std.specs.Prelude.{ℕ, ◌*◌, ◌≤◌, ◌≡◌, true, false, List, [], ◌∷◌, length, replicate, pos, neg_ℤ, Some}
use Rattle.std.specs.Float.{fin}
use Rattle.answer.specs.Outcome.{answer, refuse, mapped}
use Rattle.answer.specs.declared.Shown.{Shown}
use Rattle.label.specs.declared.Versions.{Versions}
use Rattle.sfdu.specs.Check.{rows_of_file}
use Rattle.row_index.specs.Index.{index_of, build_index, check_index}
use Rattle.waveform.specs.Sample.{twice_amplitude}
use Rattle.reader.specs.Rows.{check_file}
use Rattle.reader.specs.Read.{read_row, jump_row}
use Rattle.reader.specs.declared.Kind.TheVariants.{Labelled, Waveform}
use Rattle.vax.specs.Numbers.{vax_F}
use Rattle.limits.specs.declared.Table.TheVariants.{Altimeter}
use Rattle.verdicts.specs.Verdict.{verdict_of}
use Rattle.verdicts.specs.declared.Side.TheVariants.{Below, Inside, Above}
use Rattle.listing.specs.Listing.{listing_of}
use Rattle.cases.specs.Files.{sixty_three, printed, shorter_outside, longer_inside}

-- what is shown of a row: place, count, and its address, the label's place, the depth, the outermost object's place (document 02, item 8)
abbrev pub row : (place count label depth outermost : ℕ) → Shown
row place count label depth outermost = record {
  part = record { place = place; count = count };
  address = record { label = label; nesting = Some (record { depth = depth; outermost = outermost }) };
}

pub record Table : Type 0 where
  -- 1: the empty file is accepted with 0 rows; row 0 gives 6
  pub empty_is_accepted : (v : Versions) → check_file (Labelled v) [] ≡ answer 0
  pub empty_has_no_row : (v : Versions) (a c : ℕ) → read_row (Labelled v) [] 0 a c ≡ refuse 6 0
  -- 2: 19 zero bytes as a labelled file give 1 at 0
  pub nineteen_bytes : (v : Versions) → check_file (Labelled v) (replicate 19 0) ≡ refuse 1 0
  -- 3: the 63-byte file has rows of 3 and 0 bytes, at 40 and 63, and is listed so; its index is the one entry 20
  pub two_rows : (v : Versions)
      → rows_of_file v sixty_three
      ≡ answer
      (record { label = 20; size = 3; depth = 2; outermost = 0 } ∷ record { label = 43; size = 0; depth = 2; outermost = 0 } ∷ [])
  pub row_0 : (v : Versions) → read_row (Labelled v) sixty_three 0 0 3 ≡ answer (row 40 3 20 2 0)
  pub row_1 : (v : Versions) → read_row (Labelled v) sixty_three 1 0 0 ≡ answer (row 63 0 43 2 0)
  pub its_listing : listing_of sixty_three ≡ printed
  pub one_entry : (v : Versions) → mapped index_of (build_index v sixty_three 1) ≡ answer (20 ∷ [])
  pub its_index : (v : Versions) → check_index v sixty_three (20 ∷ []) ≡ answer tt
  -- 4: with outer length 42 it gives 1 at 43
  pub shorter_outside : (v : Versions) → check_file (Labelled v) shorter_outside ≡ refuse 1 43
  -- 5: with first inner length 24 it gives 4 at 20
  pub longer_inside : (v : Versions) → check_file (Labelled v) longer_inside ≡ refuse 4 20
  -- 7: a waveform file of 2,079 bytes gives 12; of 0 bytes, 0 rows
  pub one_byte_short : (f : List ℕ) → length f ≡ 2079 → check_file Waveform f ≡ refuse 12 0
  pub no_bytes : check_file Waveform [] ≡ answer 0
  -- 8: in a file of 32 waveform rows, row 31's samples begin at 64,512; its window at 1,024 begins at 65,536. Each is stated of
  -- reading and of the jump
  pub row_31 : (f : List ℕ) (c : ℕ) → length f ≡ 2080 * 32 → c ≤ 2048 → read_row Waveform f 31 0 c ≡ answer (row 64512 c 64512 0 64512)
  pub jump_to_row_31 : (f xs : List ℕ) (c : ℕ) → length f ≡ 2080 * 32 → c ≤ 2048
      → jump_row Waveform f xs 31 0 c ≡ answer (row 64512 c 64512 0 64512)
  pub row_31_at_1024 : (f : List ℕ) (c : ℕ) → length f ≡ 2080 * 32 → c ≤ 1024
      → read_row Waveform f 31 1024 c ≡ answer (row 65536 c 64512 0 64512)
  pub jump_to_row_31_at_1024 : (f xs : List ℕ) (c : ℕ) → length f ≡ 2080 * 32 → c ≤ 1024
      → jump_row Waveform f xs 31 1024 c ≡ answer (row 65536 c 64512 0 64512)
  -- 10: samples 0, 127, 128, 255 give −255, −1, 1, 255
  pub sample_0 : twice_amplitude 0 ≡ neg_ℤ (pos 255)
  pub sample_127 : twice_amplitude 127 ≡ neg_ℤ (pos 1)
  pub sample_128 : twice_amplitude 128 ≡ pos 1
  pub sample_255 : twice_amplitude 255 ≡ pos 255
  -- 11: F bytes 80 40 00 00 are 1; 80 C0 00 00 are −1; 7F 00 FF FF are 0; 00 80 00 00 give 9
  pub vax_one : vax_F (0x80 ∷ 0x40 ∷ 0 ∷ 0 ∷ []) ≡ answer (fin false 1 (pos 0))
  pub vax_minus_one : vax_F (0x80 ∷ 0xC0 ∷ 0 ∷ 0 ∷ []) ≡ answer (fin true 1 (pos 0))
  pub vax_zero : vax_F (0x7F ∷ 0 ∷ 0xFF ∷ 0xFF ∷ []) ≡ answer (fin false 0 (pos 0))
  pub vax_reserved : vax_F (0 ∷ 0x80 ∷ 0 ∷ 0 ∷ []) ≡ refuse 9 0
  -- 12: element 141 at −2,001, −2,000, 2,000, 2,001: below, inside, inside, above
  pub under_141 : verdict_of Altimeter 141 (neg_ℤ (pos 2001)) ≡ answer Below
  pub least_141 : verdict_of Altimeter 141 (neg_ℤ (pos 2000)) ≡ answer Inside
  pub most_141 : verdict_of Altimeter 141 (pos 2000) ≡ answer Inside
  pub over_141 : verdict_of Altimeter 141 (pos 2001) ≡ answer Above

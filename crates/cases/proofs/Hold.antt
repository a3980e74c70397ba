-- The cases hold: the small files and numbers by computing, those about every file of a size by laws over all files.
use mathlib.Core.Path.{refl}
use lib.Count.{count_trailing_zeros}
use lib.Ieee.{odd}
use Rattle.label.specs.Label.{read_label}
use Rattle.sfdu.specs.Scan.{object, level, objects, scan}
use Rattle.sfdu.specs.Check.{rows_of_file, check_labelled}
use Rattle.sfdu.specs.Find as labelled
use Rattle.row_index.specs.Index.{build_index, check_index}
use Rattle.waveform.proofs.Cases as waveform
use Rattle.reader.specs.Rows.{check_file}
use Rattle.reader.specs.Read.{find_row, read_row, jump_row}
use Rattle.text.specs.Decimal.{decimal_text}
use Rattle.listing.specs.Listing.{rows_listed, listing_of}
use Rattle.limits.specs.AltimeterLimits.{altimeter_table}
use Rattle.cases.specs.Table.{Table}
use Rattle.cases.proofs.Row31.{row_31, jump_to_row_31, row_31_at_1024, jump_to_row_31_at_1024}

pub cases_hold : Table
unfolding read_label object level objects scan rows_of_file check_labelled labelled.find_row find_row build_index check_index decimal_text rows_listed listing_of check_file read_row jump_row altimeter_table odd count_trailing_zeros
cases_hold = record {
  empty_is_accepted = λ v. refl;
  empty_has_no_row = λ v a c. refl;
  nineteen_bytes = λ v. refl;
  two_rows = λ v. refl;
  row_0 = λ v. refl;
  row_1 = λ v. refl;
  its_listing = refl;
  one_entry = λ v. refl;
  its_index = λ v. refl;
  shorter_outside = λ v. refl;
  longer_inside = λ v. refl;
  one_byte_short = waveform.one_byte_short;
  no_bytes = refl;
  row_31 = λ f c e. row_31 f e c;
  jump_to_row_31 = λ f xs c e. jump_to_row_31 f e c xs;
  row_31_at_1024 = λ f c e. row_31_at_1024 f e c;
  jump_to_row_31_at_1024 = λ f xs c e. jump_to_row_31_at_1024 f e c xs;
  sample_0 = waveform.sample_0;
  sample_127 = waveform.sample_127;
  sample_128 = waveform.sample_128;
  sample_255 = waveform.sample_255;
  vax_one = refl;
  vax_minus_one = refl;
  vax_zero = refl;
  vax_reserved = refl;
  under_141 = refl;
  least_141 = refl;
  most_141 = refl;
  over_141 = refl;
}

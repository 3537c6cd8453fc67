-- The guards hold, by computing.
use mathlib.Core.Path.{refl}
use Rattle.decimal.specs.Decimal.{digits, number}
use Rattle.number_file.specs.NumberFile.{digit, numbers, starts_with, file, fields}
use Rattle.homes.specs.Homes.{rising, rows, formed, survey_code, joined, write_call}
use Rattle.write_homes.specs.Printed.{written_homes, shown}
use Rattle.write_homes.specs.Guards.{PrintedGuards}

pub printed_guards : PrintedGuards
unfolding digits number digit numbers starts_with file fields rising rows formed survey_code joined write_call written_homes shown
printed_guards = record {
  list_bytes = refl;
  table_bytes = refl;
  output_bytes = refl;
  result = refl;
  last_home = refl;
  empty = refl;
  no_feed = refl;
  no_feed_surveys = refl;
  no_first_line = refl;
  cut_first_line = refl;
  other_first_line = refl;
  empty_line = refl;
  last_empty_line = refl;
  carriage_return = refl;
  needless_zero = refl;
  zero = refl;
  two_zeros = refl;
  too_large = refl;
  eleven_digits = refl;
  blank = refl;
  blank_behind = refl;
  sign = refl;
  letter = refl;
  two_homes_a_line = refl;
  no_code = refl;
  empty_code = refl;
  three_numbers = refl;
  blank_behind_comma = refl;
  equal_homes = refl;
  falling_homes = refl;
  equal_rows = refl;
  never_a_code = refl;
  no_homes = refl;
  no_surveys = refl;
  empty_file = refl;
  empty_surveys = refl;
}

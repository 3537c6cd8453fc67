-- The guards hold, by computing.
use mathlib.Core.Path.{refl}
use Rattle.homes.specs.Homes.{rising, rows, formed, survey_code, joined, write_call}
use Rattle.homes.specs.Right.{with_code, without_code}
use Rattle.homes.specs.Guards.{HomesGuards}

pub homes_guards : HomesGuards
unfolding rising rows formed survey_code joined write_call with_code without_code
homes_guards = record {
  homes = refl;
  table_rows = refl;
  none = refl;
  strictly = refl;
  equal = refl;
  falling = refl;
  table = refl;
  table_equal = refl;
  table_falling = refl;
  half_row = refl;
  no_code = refl;
  last_code = refl;
  last_home = refl;
  just_fits = refl;
  one_short = refl;
  nothing = refl;
  written = refl;
  words = refl;
  with_a_code = refl;
  without_one = refl;
  refusal = refl;
  unchanged = refl;
}

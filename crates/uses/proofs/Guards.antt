-- The examples of `uses`, by computation.
use mathlib.Core.Path.{refl}
use Rattle.logic.specs.Move.{free_from}
use Rattle.logic.specs.Reading.{read, too_deep}
use Rattle.uses.specs.Guards.{UsesGuards}

pub uses_guards : UsesGuards
unfolding free_from read too_deep
uses_guards = record {
  variable = refl;
  from_next = refl;
  thrice = refl;
  twice = refl;
  bound = refl;
  proof_of_bind = refl;
  in_sign = refl;
  last = refl;
  past_last = refl;
  far_past = refl;
  last_under = refl;
  past_under = refl;
  empty = refl;
  too_long = refl;
  missing = refl;
  word_after = refl;
  nested_32 = refl;
  nested_33 = refl;
  words_then_nesting = refl;
}

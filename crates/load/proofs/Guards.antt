-- Slip 11's sentences by literals and examples, which compute.
use Rattle.std.proofs.Common.{refl}
use native.Mathlib.Decide.{ℕ_discrete}
use Rattle.logic.specs.Term.{size, encode}
use Rattle.logic.specs.Move.{shift, fill_at, occurs}
use Rattle.logic.specs.Reading.{read, too_deep, first_miss}
use Rattle.logic.specs.Infer.{infer, same_term, conclusion}
use Rattle.logic.specs.SignatureList.{constants, operations}
use Rattle.logic.specs.Worked.{listed}
use Rattle.register.specs.Records.{records, words_of, statements_from, some_of, same_words}
use Rattle.register.specs.Calls.{opening}
use Rattle.register.specs.History.{answers}
use Rattle.load.specs.Load.{load_words, load_call}
use Rattle.load.specs.Passes.{load_calls}
use Rattle.load.specs.Guards.{LoadGuards}

pub load_guards : LoadGuards
unfolding infer same_term conclusion read too_deep first_miss shift fill_at occurs size encode ℕ_discrete constants operations records
    words_of statements_from some_of same_words opening answers listed load_words load_call load_calls
load_guards = record {
  next = λ s. refl;
  next_of_1 = refl;
  next_of_last = refl;
  from_0 = refl;
  then_from_0 = refl;
  from_1 = refl;
  then_from_1 = refl;
  from_last = refl;
  principal_0 = refl;
  extract_0 = refl;
  delivery_0 = refl;
  words_are = refl;
  words_each = refl;
  rule_is = refl;
  count_0 = refl;
  count_257 = refl;
  too_short = refl;
  fits = refl;
  most_too_short = refl;
  not_written = refl;
  suffices = refl;
  one_short = refl;
}

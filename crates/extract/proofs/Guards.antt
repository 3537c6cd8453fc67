-- The guards hold, by computing.
use mathlib.Core.Path.{refl}
use native.Mathlib.Decide.{ℕ_discrete}
use Rattle.logic.specs.Term.{size, encode}
use Rattle.logic.specs.Move.{shift, fill_at, occurs}
use Rattle.logic.specs.Reading.{read, too_deep, first_miss}
use Rattle.logic.specs.Infer.{infer, same_term, conclusion}
use Rattle.logic.specs.SignatureList.{constants, operations}
use Rattle.logic.specs.Worked.{listed}
use Rattle.register.specs.Records.{records, words_of, statements_from, some_of, same_words}
use Rattle.register.specs.Calls.{opening}
use Rattle.register.specs.History.{request_refused, run}
use Rattle.register.specs.Marks.{standing, others, up_to, marks_words, front_marks}
use Rattle.register.specs.Trials.{trial_answers, trail}
use Rattle.homes.specs.Homes.{rising, rows, formed, survey_code, joined}
use Rattle.extract.specs.Extract.{extract_call}
use Rattle.extract.specs.Desk.{desk_run, desk_answers, as_requests, NoDeskRefusal}
use Rattle.extract.specs.Guards.{ExtractGuards}

pub extract_guards : ExtractGuards
unfolding infer same_term conclusion read too_deep first_miss shift fill_at occurs size encode ℕ_discrete constants operations records
    words_of statements_from some_of same_words opening run listed rising rows formed survey_code joined extract_call desk_run desk_answers
    as_requests NoDeskRefusal standing others up_to marks_words front_marks trial_answers trail
extract_guards = record {
  granted = refl;
  written = refl;
  register = refl;
  form_first = refl;
  before_workspace = refl;
  short_output = refl;
  workspace = refl;
  no_room = refl;
  too_early = refl;
  lapsed_say = refl;
  not_said = refl;
  behind_say = refl;
  as_its_request = refl;
  no_refusal = ((λ f. elim f [ ]), ((λ f. elim f [ ]), tt));
  a_refusal = λ h. h.1.0 request_refused;
  not_written = refl;
  register_kept = refl;
  told_on_trial = refl;
  amounts = refl;
}

-- Document 02's slip 3 on the extract desk, in quotation marks, by examples that compute on document 01's worked
-- register.
use Rattle.std.specs.Prelude.{ℕ, ◌≡◌, true, List, [], ◌∷◌, replicate}
use Rattle.logic.specs.Result.{ok, refused}
use Rattle.logic.specs.Term.{encode}
use Rattle.logic.specs.Worked.{p}
use Rattle.register.specs.Records.{Ask, ask_of}
use Rattle.register.specs.Calls.{open_call, after_open}
use Rattle.register.specs.History.{said, requested, lent, run}
use Rattle.register.specs.Trials.{TrialCall, made, mark, return_to, TrialState, replied, marked, returned, trial_answers, amounts_to}
use Rattle.register.specs.Worked.{setting, rule_for, opened_sample, say_consent, request_extract}
use Rattle.words.specs.Place.{after_write}
use Rattle.extract.specs.Extract.{extract_call}
use Rattle.extract.specs.Desk.{DeskCall, plain, extract, desk_run, desk_answers, as_requests, NoDeskRefusal, desk_calls_in}

-- document 01's request
abbrev pub asked : Ask
asked = ask_of 0 7 9 15 (encode p)

-- as an extract: three homes and one survey
abbrev pub three_homes : (workspace room : ℕ) → DeskCall
three_homes w room = extract w asked (1 ∷ 2 ∷ 4294967295 ∷ []) (2 ∷ 50 ∷ []) room

-- a list that does not rise
abbrev pub equal_homes : (workspace room : ℕ) → DeskCall
equal_homes w room = extract w asked (1 ∷ 2 ∷ 2 ∷ []) (2 ∷ 50 ∷ []) room

-- a say, an extract that is out of form, and one that rests on the say
abbrev pub said_then_extract : List DeskCall
said_then_extract = plain say_consent ∷ equal_homes 12288 6 ∷ three_homes 12288 6 ∷ []

-- behind the rule and the say, on a register of so many words
abbrev pub held_by : ℕ → List ℕ
held_by len = run setting (opened_sample len) (say_consent ∷ [])

-- the worked register opened for trial, with a list of marks of which none stands
abbrev pub on_trial : TrialState
on_trial = record {
  register = after_open (open_call (lent setting 12288) (replicate 71 0) 1 (rule_for 10 20)) (replicate 71 0) 1;
  marks = replicate 33 0;
}

-- an extract behind a mark, a return to it, and the extract again
abbrev pub extract_again : List (TrialCall DeskCall)
extract_again = made (plain say_consent) ∷ mark 1 ∷ made (three_homes 12288 6) ∷ made (three_homes 12288 6) ∷ return_to 1 ∷ made (three_homes 12288 6) ∷ []

pub record ExtractGuards : Type 0 where
  -- "After a grant it writes every home in the list's order with its survey code, or 4294967295 where no survey
  -- exists"; "output past the last home is unchanged"
  pub granted : extract_call (lent setting 12288) (held_by 71) asked (1 ∷ 2 ∷ 4294967295 ∷ []) (2 ∷ 50 ∷ []) 7
      ≡ ok (1 ∷ 4294967295 ∷ 2 ∷ 50 ∷ 4294967295 ∷ 4294967295 ∷ [])
  pub written : after_write (extract_call (lent setting 12288) (held_by 71) asked (1 ∷ []) (1 ∷ 50 ∷ []) 3) (7 ∷ 8 ∷ 9 ∷ []) ≡ 1 ∷ 50 ∷ 9 ∷ []
  -- "one request for the extract": the register is the one that the request leaves
  pub register : desk_run setting (held_by 71) (three_homes 12288 6 ∷ []) ≡ run setting (held_by 71) (request_extract ∷ [])
  -- "is refused with 21 before the request is tried", before the workspace's test too
  pub form_first : desk_answers setting (held_by 71) (equal_homes 12288 6 ∷ []) ≡ requested (refused 21 0) ∷ []
  pub before_workspace : desk_answers setting (held_by 71) (equal_homes 0 6 ∷ []) ≡ requested (refused 21 0) ∷ []
  pub short_output : desk_answers setting (held_by 71) (three_homes 12288 5 ∷ []) ≡ requested (refused 21 0) ∷ []
  -- then the request's own refusals
  pub workspace : desk_answers setting (held_by 71) (three_homes 12287 6 ∷ []) ≡ requested (refused 1 0) ∷ []
  pub no_room : desk_answers setting (held_by 70) (three_homes 12288 6 ∷ []) ≡ requested (refused 16 0) ∷ []
  pub too_early : desk_answers setting (held_by 71) (extract 12288 (ask_of 0 7 9 14 (encode p)) [] [] 0 ∷ []) ≡ requested (refused 23 0) ∷ []
  pub lapsed_say : desk_answers setting (held_by 71) (extract 12288 (ask_of 0 7 9 19 (encode p)) [] [] 0 ∷ []) ≡ requested (refused 22 23) ∷ []
  pub not_said : desk_answers setting (opened_sample 71) (three_homes 12288 6 ∷ []) ≡ requested (refused 14 23) ∷ []
  -- in a list each call gets the register as the one before left it: behind the say the extract is granted, and one that
  -- is 21 between them is no call at all
  pub behind_say : desk_answers setting (opened_sample 71) said_then_extract ≡ said (ok true) ∷ requested (refused 21 0) ∷ requested (ok tt) ∷ []
  pub as_its_request : as_requests said_then_extract ≡ say_consent ∷ request_extract ∷ []
  pub no_refusal : NoDeskRefusal setting (opened_sample 71) (plain say_consent ∷ three_homes 12288 6 ∷ [])
  pub a_refusal : NoDeskRefusal setting (opened_sample 71) said_then_extract → ⊥
  -- "A refused request writes nothing"
  pub not_written : after_write (extract_call (lent setting 12287) (held_by 71) asked (1 ∷ []) (1 ∷ 50 ∷ []) 3) (7 ∷ 8 ∷ 9 ∷ []) ≡ 7 ∷ 8 ∷ 9 ∷ []
  pub register_kept : desk_run setting (held_by 70) (equal_homes 12288 6 ∷ three_homes 12288 6 ∷ []) ≡ held_by 70
  -- slip 10, "The history then is that of the calls before the mark was set", with extracts: the second has no room, and
  -- behind the return there is room again
  pub told_on_trial : trial_answers (desk_calls_in setting) on_trial extract_again ≡ replied (said (ok true)) ∷ marked (ok tt) ∷
      replied (requested (ok tt)) ∷ replied (requested (refused 16 0)) ∷ returned (ok tt) ∷ replied (requested (ok tt)) ∷ []
  pub amounts : amounts_to extract_again ≡ plain say_consent ∷ three_homes 12288 6 ∷ []

-- Marks by literals, a sentence of document 02's slip 10 at a time; the words of headers and lists of marks are written
-- out. proofs/MarkGuards computes them, so that they rest on no other proof.
use Rattle.std.specs.Prelude.{ℕ, ◌≡◌, true, List, [], ◌∷◌, ◌++◌, take, drop, replicate}
use Rattle.std.proofs.Math.Option.{some}
use Rattle.logic.specs.Result.{Result, ok, refused, without_value}
use Rattle.register.specs.Records.{Record, register_content}
use Rattle.register.specs.Calls.{open_call, after_open, read_call}
use Rattle.register.specs.Marks.{marks_of, mark_call, after_mark, return_call, after_return, marks_after_return, marks_after_open}
use Rattle.register.specs.History.{lent, Call, said, requested, run}
use Rattle.register.specs.Unread.{SameFront}
use Rattle.register.specs.Trials.{TrialCall, made, mark, return_to, TrialState, TrialReply, replied, marked, returned, calls_in, trial_run, trial_answers}
use Rattle.register.specs.Trials.{amounts_to}
use Rattle.register.specs.Worked.{setting, rule_for, say_consent, request_extract, request_on}

-- a register of 71 zeros, opened with the rule r for the days 10 to 20: 22 words, 1 record, day 0
abbrev pub opening_as : (mode : ℕ) → Result (List Record)
opening_as mode = open_call (lent setting 12288) (replicate 71 0) mode (rule_for 10 20)

abbrev pub opened_as : (mode : ℕ) → List ℕ
opened_as mode = after_open (opening_as mode) (replicate 71 0) mode

-- and with a3's say on day 15: 30 words, 2 records, day 15
abbrev pub said_as : (mode : ℕ) → List ℕ
said_as mode = run setting (opened_as mode) (say_consent ∷ [])

-- lists in which some marks stand, with words that are not looked at behind them
abbrev pub none_standing : List ℕ
none_standing = 0 ∷ replicate 32 7

abbrev pub one_standing : List ℕ
one_standing = 1 ∷ 5 ∷ 22 ∷ 1 ∷ 0 ∷ replicate 28 7

abbrev pub two_standing : List ℕ
two_standing = 2 ∷ 5 ∷ 22 ∷ 1 ∷ 0 ∷ 6 ∷ 30 ∷ 2 ∷ 15 ∷ replicate 24 7

-- the marks 1 to 8, all of them at the opening
abbrev pub eight_standing : List ℕ
eight_standing =
    8 ∷ 1 ∷ 22 ∷ 1 ∷ 0 ∷ 2 ∷ 22 ∷ 1 ∷ 0 ∷ 3 ∷ 22 ∷ 1 ∷ 0 ∷ 4 ∷ 22 ∷ 1 ∷ 0 ∷ 5 ∷ 22 ∷ 1 ∷ 0 ∷ 6 ∷ 22 ∷ 1 ∷ 0 ∷ 7 ∷ 22 ∷ 1 ∷ 0 ∷ 8 ∷ 22 ∷ 1 ∷ 0 ∷ []

-- the number 5 stands twice, in a list made by hand
abbrev pub five_twice : List ℕ
five_twice = 2 ∷ 5 ∷ 22 ∷ 1 ∷ 0 ∷ 5 ∷ 30 ∷ 2 ∷ 15 ∷ replicate 24 7

-- a list with the one mark 5, which keeps these
abbrev pub kept_by_hand : (used count latest : ℕ) → List ℕ
kept_by_hand used count latest = 1 ∷ 5 ∷ used ∷ count ∷ latest ∷ replicate 28 7

-- the answer to a return to it, on the register opened for trial
abbrev pub returned_by_hand : (used count latest : ℕ) → Result (Unit {0})
returned_by_hand used count latest = without_value (return_call (opened_as 1) (kept_by_hand used count latest) 5)

-- a list of calls on the register opened for trial
abbrev pub on_trial : TrialState
on_trial = record { register = opened_as 1; marks = none_standing }

abbrev pub told_on_trial : List (TrialCall Call) → List TrialReply
told_on_trial xs = trial_answers (calls_in setting) on_trial xs

abbrev pub ends_as : List (TrialCall Call) → TrialState
ends_as xs = trial_run (calls_in setting) on_trial xs

pub record MarkGuards : Type 0 where
  -- "The header .. gains a fourth word fixed at opening, 0 for release and 1 for trial": it stays
  pub for_release : take 4 (said_as 0) ≡ 30 ∷ 2 ∷ 15 ∷ 0 ∷ []
  pub for_trial : take 4 (said_as 1) ≡ 30 ∷ 2 ∷ 15 ∷ 1 ∷ []
  -- "and any other value is 3 (5 in open)"
  pub open_other : opening_as 2 ≡ refused 5 0
  pub read_other : register_content (4 ∷ 0 ∷ 0 ∷ 2 ∷ []) ≡ refused 3 0
  -- "Opening leaves none standing", and a refused one leaves the list, of whatever length
  pub opened_list : marks_after_open (opening_as 1) two_standing ≡ 0 ∷ 5 ∷ 22 ∷ 1 ∷ 0 ∷ 6 ∷ 30 ∷ 2 ∷ 15 ∷ replicate 24 7
  pub opened_none : marks_after_open (opening_as 0) [] ≡ []
  pub opened_other : marks_after_open (opening_as 1) (2 ∷ 5 ∷ []) ≡ 0 ∷ 5 ∷ []
  pub refused_list : marks_after_open (opening_as 2) two_standing ≡ two_standing
  -- "A mark has a number; it keeps the words used, the record count and the latest day"; the words past it are
  -- unchanged
  pub set_one : after_mark (mark_call (opened_as 1) none_standing 5) none_standing ≡ one_standing
  pub set_two : after_mark (mark_call (said_as 1) one_standing 6) one_standing ≡ two_standing
  -- "setting a standing one replaces it": it is the last that was set
  pub set_again : after_mark (mark_call (said_as 1) two_standing 5) two_standing ≡ 2 ∷ 6 ∷ 30 ∷ 2 ∷ 15 ∷ 5 ∷ 30 ∷ 2 ∷ 15 ∷ replicate 24 7
  -- of a number that stands twice both are replaced; a number has no limit
  pub set_twice : after_mark (mark_call (said_as 1) five_twice 5) five_twice ≡ 1 ∷ 5 ∷ 30 ∷ 2 ∷ 15 ∷ 5 ∷ 30 ∷ 2 ∷ 15 ∷ replicate 24 7
  pub set_largest : after_mark (mark_call (opened_as 1) none_standing 4294967295) none_standing ≡ 1 ∷ 4294967295 ∷ 22 ∷ 1 ∷ 0 ∷ replicate 28 7
  -- "Eight may stand", "a ninth is 28"
  pub ninth : mark_call (opened_as 1) eight_standing 9 ≡ refused 28 0
  pub eight_again : without_value (mark_call (opened_as 1) eight_standing 8) ≡ ok tt
  pub eighth : told_on_trial (mark 1 ∷ mark 2 ∷ mark 3 ∷ mark 4 ∷ mark 5 ∷ mark 6 ∷ mark 7 ∷ mark 8 ∷ mark 9 ∷ mark 3 ∷ return_to 8 ∷ []) ≡
      marked (ok tt) ∷ marked (ok tt) ∷ marked (ok tt) ∷ marked (ok tt) ∷ marked (ok tt) ∷ marked (ok tt) ∷ marked (ok tt) ∷ marked (ok tt) ∷
      marked (refused 28 0) ∷ marked (ok tt) ∷ returned (ok tt) ∷ []
  -- "Returning restores these three, makes later records unread": no other word changes
  pub restores : take 4 (after_return (return_call (said_as 1) two_standing 5) (said_as 1)) ≡ 22 ∷ 1 ∷ 0 ∷ 1 ∷ []
  pub keeps_words : drop 4 (after_return (return_call (said_as 1) two_standing 5) (said_as 1)) ≡ drop 4 (said_as 1)
  pub reads_no_more : read_call (after_return (return_call (said_as 1) two_standing 5) (said_as 1)) 1 ≡ refused 17 0
  pub restores_last : after_return (return_call (said_as 1) two_standing 6) (said_as 1) ≡ said_as 1
  -- "and removes marks set after it"; it still stands
  pub removes : marks_after_return (return_call (said_as 1) two_standing 5) two_standing ≡ 1 ∷ 5 ∷ 22 ∷ 1 ∷ 0 ∷ 6 ∷ 30 ∷ 2 ∷ 15 ∷ replicate 24 7
  pub removes_none : marks_after_return (return_call (said_as 1) two_standing 6) two_standing ≡ two_standing
  -- of a number that stands twice the first counts
  pub first_of_two : take 4 (after_return (return_call (said_as 1) five_twice 5) (said_as 1)) ≡ 22 ∷ 1 ∷ 0 ∷ 1 ∷ []
  pub removes_second : marks_after_return (return_call (said_as 1) five_twice 5) five_twice ≡ 1 ∷ 5 ∷ 22 ∷ 1 ∷ 0 ∷ 5 ∷ 30 ∷ 2 ∷ 15 ∷ replicate 24 7
  pub still_stands : told_on_trial (mark 1 ∷ mark 2 ∷ return_to 1 ∷ return_to 1 ∷ return_to 2 ∷ []) ≡
      marked (ok tt) ∷ marked (ok tt) ∷ returned (ok tt) ∷ returned (ok tt) ∷ returned (refused 27 0) ∷ []
  pub set_last : told_on_trial (mark 1 ∷ mark 2 ∷ mark 1 ∷ return_to 2 ∷ return_to 1 ∷ []) ≡
      marked (ok tt) ∷ marked (ok tt) ∷ marked (ok tt) ∷ returned (ok tt) ∷ returned (refused 27 0) ∷ []
  -- "The history then is that of the calls before the mark was set": the request fits again, on its old day
  pub full : told_on_trial (made say_consent ∷ mark 1 ∷ made (request_on 18) ∷ made (request_on 18) ∷ []) ≡
      replied (said (ok true)) ∷ marked (ok tt) ∷ replied (requested (ok tt)) ∷ replied (requested (refused 16 0)) ∷ []
  pub again : told_on_trial (made say_consent ∷ mark 1 ∷ made (request_on 18) ∷ return_to 1 ∷ made request_extract ∷ []) ≡
      replied (said (ok true)) ∷ marked (ok tt) ∷ replied (requested (ok tt)) ∷ returned (ok tt) ∷ replied (requested (ok tt)) ∷ []
  pub amounts : amounts_to (made say_consent ∷ mark 1 ∷ made (request_on 18) ∷ return_to 1 ∷ made request_extract ∷ []) ≡ say_consent ∷ request_extract ∷ []
  -- what is unread is not held
  pub unsaid : told_on_trial (mark 1 ∷ made say_consent ∷ return_to 1 ∷ made request_extract ∷ []) ≡
      marked (ok tt) ∷ replied (said (ok true)) ∷ returned (ok tt) ∷ replied (requested (refused 14 23)) ∷ []
  -- "Returning to a mark that is unknown" is 27, also where another stands, and behind those that stand
  pub unknown : return_call (said_as 1) two_standing 7 ≡ refused 27 0
  pub not_standing : return_call (said_as 1) (1 ∷ 5 ∷ 22 ∷ 1 ∷ 0 ∷ 6 ∷ 30 ∷ 2 ∷ 15 ∷ replicate 24 7) 6 ≡ refused 27 0
  -- "or isn't at the header's or a record's end of this register with its count", on any day
  pub at_record : returned_by_hand 22 1 4000 ≡ ok tt
  pub at_header : returned_by_hand 4 0 0 ≡ ok tt
  pub day_as_kept : take 4 (after_return (return_call (opened_as 1) (kept_by_hand 22 1 4000) 5) (opened_as 1)) ≡ 22 ∷ 1 ∷ 4000 ∷ 1 ∷ []
  pub within_record : returned_by_hand 21 1 0 ≡ refused 27 0
  pub other_count : returned_by_hand 22 0 0 ≡ refused 27 0
  pub header_counted : returned_by_hand 4 1 0 ≡ refused 27 0
  pub past_end : returned_by_hand 30 2 0 ≡ refused 27 0
  -- "as is any mark call on a release register": before 28 and before the list is looked at
  pub release_mark : mark_call (opened_as 0) none_standing 1 ≡ refused 27 0
  pub release_ninth : mark_call (opened_as 0) eight_standing 9 ≡ refused 27 0
  pub release_return : return_call (opened_as 0) one_standing 5 ≡ refused 27 0
  -- "both after 2 and 3"
  pub too_short : mark_call (4 ∷ 0 ∷ 0 ∷ []) [] 1 ≡ refused 2 0
  pub broken : mark_call (5 ∷ 0 ∷ 0 ∷ 0 ∷ 0 ∷ []) [] 1 ≡ refused 3 0
  pub return_short : return_call (4 ∷ 0 ∷ 0 ∷ []) [] 1 ≡ refused 2 0
  pub return_broken : return_call (5 ∷ 0 ∷ 0 ∷ 0 ∷ 0 ∷ []) [] 1 ≡ refused 3 0
  -- in a list of another length, or with a count over 8, no mark is known
  pub short_list : mark_call (opened_as 1) (0 ∷ replicate 31 0) 1 ≡ refused 27 0
  pub long_list : mark_call (opened_as 1) (0 ∷ replicate 33 0) 1 ≡ refused 27 0
  pub long_full : mark_call (opened_as 1) (eight_standing ++ (7 ∷ [])) 9 ≡ refused 27 0
  pub count_over : mark_call (opened_as 1) (9 ∷ replicate 32 0) 1 ≡ refused 27 0
  pub return_over : return_call (opened_as 1) (9 ∷ 5 ∷ 22 ∷ 1 ∷ 0 ∷ replicate 28 0) 5 ≡ refused 27 0
  pub read_none : marks_of none_standing ≡ some []
  -- "makes later records unread": behind the return above and behind an opening alone the words past those used differ,
  -- and the registers count as the same; a register of another length does not, nor one with another word in use
  pub unread : SameFront (after_return (return_call (said_as 1) two_standing 5) (said_as 1)) (opened_as 1)
  pub other_length : SameFront (4 ∷ 0 ∷ 5 ∷ 1 ∷ []) (4 ∷ 0 ∷ 5 ∷ 1 ∷ 7 ∷ []) → ⊥
  pub other_day : SameFront (4 ∷ 0 ∷ 5 ∷ 1 ∷ 7 ∷ []) (4 ∷ 0 ∷ 6 ∷ 1 ∷ 7 ∷ []) → ⊥

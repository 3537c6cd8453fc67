-- Lists of calls by literals: the words behind the records that calls leave, what later calls see, which lists have a
-- refusal and are of one day, what a verdict does not depend on, and where a first Sign is not held. The theorems on
-- lists of calls, on verdicts and on what lapses speak by these definitions, and no contract cites most of them; here
-- they are met by registers and calls that are written out. proofs/HistoryGuards computes them.
use Rattle.std.specs.Prelude.{ℕ, ◌≡◌, true, List, [], ◌∷◌, ◌++◌, replicate}
use Rattle.logic.specs.Result.{ok, refused}
use Rattle.logic.specs.Term.{Term, sign, P, Const, Text, Name, Says, App, Bind, encode}
use Rattle.logic.specs.Worked.{sample, listed, consent}
use Rattle.register.specs.Records.{Statement, Ask, Content, statement_of, ask_of}
use Rattle.register.specs.Calls.{check_call, open_call, after_open, say_call, after_say, request_call, after_request}
use Rattle.register.specs.Verdict.{Alike, SameSigns, SameDay, SameStatement, SameForAll}
use Rattle.register.specs.Lapse.{HeldBefore}
use Rattle.register.specs.History.{Setting, lent, Call, batch, said, requested, checked, NoRefusal, OneDay, Later, call, check, replies}
use Rattle.register.specs.Worked.{setting, opened_sample, say_from, say_consent, request_on, request_extract, receipt_proved}
use Rattle.register.specs.BatchGuards.{permitted, desk_permits, worked_batch}

-- a check of what a3 said, on a day
abbrev pub check_consent : (day : ℕ) → Later
check_consent day = check setting 12288 day (encode (sign 3 consent))

-- the sample with two operations, of which the second has no receipt
abbrev pub second_unreceipted : Setting
second_unreceipted = record { sig = listed sample; n = 2 }

-- two says of one day: a3 and a4 say App C2 s7
abbrev pub two_says : List Call
two_says = say_from 15 3 12 18 ∷ say_from 15 4 12 18 ∷ []

abbrev pub two_says_turned : List Call
two_says_turned = say_from 15 4 12 18 ∷ say_from 15 3 12 18 ∷ []

-- a register in which the principal a says App C2 s7 for the days 1 to 4, with the latest day 5
abbrev pub consent_by : (a : ℕ) → List ℕ
consent_by a = 12 ∷ 1 ∷ 5 ∷ 0 ∷ 2 ∷ 6 ∷ a ∷ 1 ∷ 4 ∷ encode consent

-- the desk states the permission of operation 0 for the extract 7, for the days 1 to 9; behind that stand so many words
-- 8, and 77
abbrev pub permitting : (free : ℕ) → List ℕ
permitting free = 12 ∷ 1 ∷ 5 ∷ 0 ∷ 1 ∷ 6 ∷ 0 ∷ 1 ∷ 9 ∷ encode permitted ++ replicate free 8 ++ (77 ∷ [])

abbrev pub consent_for : (first last : ℕ) → Statement
consent_for first last = statement_of 3 first last (encode consent)

abbrev pub desk_asks : Ask
desk_asks = ask_of 0 7 9 6 (encode desk_permits)

-- what an opening for trial, without rules, leaves of a register, a say by a3 of App C2 s7 on day 15, and a request of
-- day 6 with the desk's statement for its proof
abbrev pub opened_over : List ℕ → List ℕ
opened_over old = after_open (open_call (lent setting 12288) old 1 []) old 1

abbrev pub said_over : (first last : ℕ) → List ℕ → List ℕ
said_over first last old = after_say (say_call (lent setting 12288) old 15 (consent_for first last)) old 15 (consent_for first last)

abbrev pub granted_over : List ℕ → List ℕ
granted_over old = after_request (request_call (lent setting 12288) old desk_asks) old desk_asks

-- a3 says App C2 s7 for the days 1 to 9 and App C2 s8 for the days 1 to 4; a proof with both as Signs, at the words 1
-- and 5
abbrev pub other_consent : Term
other_consent = App (Const 2) (Text 8)

abbrev pub both_consents : Term
both_consents = Bind (sign 3 consent) (sign 3 other_consent)

abbrev pub consents : List ℕ
consents = 20 ∷ 2 ∷ 5 ∷ 0 ∷ 2 ∷ 6 ∷ 3 ∷ 1 ∷ 9 ∷ encode consent ++ (2 ∷ 6 ∷ 3 ∷ 1 ∷ 4 ∷ encode other_consent)

abbrev pub consents_content : Content
consents_content = record {
  mode = 0;
  latest = 5;
  records = record { kind = 2; body = 3 ∷ 1 ∷ 9 ∷ encode consent } ∷ record { kind = 2; body = 3 ∷ 1 ∷ 4 ∷ encode other_consent } ∷ [];
}

pub record HistoryGuards : Type 0 where
  -- "words past the new used count are unchanged", by an opening, a say, a repeated say and a request
  pub open_behind : opened_over (9 ∷ 9 ∷ 9 ∷ 9 ∷ 9 ∷ 77 ∷ []) ≡ 4 ∷ 0 ∷ 0 ∷ 1 ∷ 9 ∷ 77 ∷ []
  pub say_behind : said_over 12 18 (permitting 9) ≡
      20 ∷ 2 ∷ 15 ∷ 0 ∷ 1 ∷ 6 ∷ 0 ∷ 1 ∷ 9 ∷ encode permitted ++ (2 ∷ 6 ∷ 3 ∷ 12 ∷ 18 ∷ encode consent) ++ (8 ∷ 77 ∷ [])
  pub repeated_behind : said_over 1 4 (consent_by 3 ++ (8 ∷ 77 ∷ [])) ≡ 12 ∷ 1 ∷ 15 ∷ 0 ∷ 2 ∷ 6 ∷ 3 ∷ 1 ∷ 4 ∷ encode consent ++ (8 ∷ 77 ∷ [])
  pub request_behind : granted_over (permitting 19) ≡
      30 ∷ 3 ∷ 6 ∷ 0 ∷ 1 ∷ 6 ∷ 0 ∷ 1 ∷ 9 ∷ encode permitted ++ (3 ∷ 8 ∷ 0 ∷ 7 ∷ 9 ∷ 6 ∷ encode desk_permits) ++
      (4 ∷ 6 ∷ 0 ∷ encode receipt_proved) ++ (8 ∷ 77 ∷ [])
  -- "every call getting the register as the one before left it": the check behind the say finds it, and the one before
  -- it does not
  pub later_behind : replies (opened_sample 76) (call setting say_consent ∷ check_consent 15 ∷ []) ≡
      said (ok true) ∷ checked (ok (Says (Name 3) consent)) ∷ []
  pub later_before : replies (opened_sample 76) (check_consent 15 ∷ call setting say_consent ∷ []) ≡ checked (refused 14 0) ∷ said (ok true) ∷ []
  -- each on its day, with its signature and n
  pub later_day : replies (opened_sample 76) (call setting say_consent ∷ check_consent 19 ∷ []) ≡ said (ok true) ∷ checked (refused 22 0) ∷ []
  pub later_setting : replies (opened_sample 76) (call second_unreceipted say_consent ∷ call setting say_consent ∷ call setting (request_on 14) ∷ []) ≡
      said (refused 5 0) ∷ said (ok true) ∷ requested (refused 23 0) ∷ []
  -- "if neither order has a refusal": a list of every kind of call that succeeds, a repeated say and an empty batch among
  -- them; two orders that have none; and two lists that have one, the first call's and the last's
  pub no_refusal_of_all : NoRefusal setting (opened_sample 160) (say_consent ∷ say_consent ∷ request_extract ∷ worked_batch ∷ batch 12288 15 [] ∷ [])
  pub no_refusal : NoRefusal setting (opened_sample 90) two_says
  pub no_refusal_turned : NoRefusal setting (opened_sample 90) two_says_turned
  pub first_refused : NoRefusal setting (opened_sample 90) (request_extract ∷ say_consent ∷ []) → ⊥
  pub last_refused : NoRefusal setting (opened_sample 90) (say_consent ∷ request_on 14 ∷ []) → ⊥
  -- "within lists of one day": that of the calls, whatever days a statement has
  pub of_one_day : OneDay 15 (say_from 15 3 12 18 ∷ request_on 15 ∷ batch 12288 15 [] ∷ [])
  pub of_another_day : OneDay 15 (say_from 16 3 15 15 ∷ []) → ⊥
  -- "A verdict .. depends only on .. which embedded signatures are held": a term without a Sign gets one verdict
  -- whoever said what, also of a request, of a say whose statement is in neither, and of a batch of such requests; and
  -- on two broken registers each term does
  pub alike_check : Alike (SameSigns 3 (encode P)) (consent_by 3) (consent_by 4)
  pub alike_request : Alike (SameDay 6 (encode P)) (consent_by 3) (consent_by 4)
  pub alike_batch : Alike (SameForAll (ask_of 0 7 9 6 (encode P) ∷ [])) (consent_by 3) (consent_by 4)
  pub alike_broken : Alike (SameSigns 3 (encode (sign 3 consent))) (9 ∷ 0 ∷ 5 ∷ 0 ∷ []) (9 ∷ 1 ∷ 6 ∷ 0 ∷ [])
  pub alike_say : Alike (SameStatement 6 (statement_of 5 1 4 (encode P))) (consent_by 3) (consent_by 4)
  -- "the first Sign with either decides": on day 6 the first is held, and the second is not
  pub held_before : HeldBefore (lent setting 12288) consents 6 (encode both_consents) 3 other_consent 5 consents_content
  pub second_lapsed : check_call (lent setting 12288) consents 6 (encode both_consents) ≡ refused 22 5

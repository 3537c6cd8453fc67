-- Document 01's worked register, with the days of document 02: its signature list, rule, say and request.
use Rattle.std.specs.Prelude.{ℕ, ◌≡◌, true, false, List, [], ◌∷◌, ◌++◌, replicate}
use Rattle.logic.specs.Result.{Result, ok, refused}
use Rattle.logic.specs.Term.{Term, sign, Const, Text, Name, App, Says, size, encode}
use Rattle.logic.specs.Worked.{sample, listed, consent, rule, p}
use Rattle.logic.specs.SignatureList.{signature}
use Rattle.register.specs.Records.{Record, Ask, Content, statement_of, ask_of, grant, receipt, used, count, latest, register_content, written}
use Rattle.register.specs.Records.{release, trial}
use Rattle.register.specs.Calls.{open_call, after_open, check_call}
use Rattle.register.specs.History.{Setting, lent, Call, say, request, Reply, said, requested, run, answers}

abbrev pub setting : Setting
setting = record { sig = listed sample; n = 1 }

-- the rule r for some days, as words of a rule list
abbrev pub rule_for : (first last : ℕ) → List ℕ
rule_for first last = 0 ∷ first ∷ last ∷ size rule ∷ encode rule

-- a register of zeros, opened for release with a rule list
abbrev pub opened_with : (len : ℕ) → List ℕ → List ℕ
opened_with len rules = after_open (open_call (lent setting 12288) (replicate len 0) release rules) (replicate len 0) release

-- opened with the rule r for the days 10 to 20
abbrev pub opened_sample : ℕ → List ℕ
opened_sample len = opened_with len (rule_for 10 20)

-- a says App C2 s7 on a day, for the days from first to last
abbrev pub say_from : (day a first last : ℕ) → Call
say_from day a first last = say 12288 day (statement_of a first last (encode consent))

abbrev pub say_consent : Call
say_consent = say_from 15 3 12 18

abbrev pub request_on : (day : ℕ) → Call
request_on day = request 12288 (ask_of 0 7 9 day (encode p))

abbrev pub request_extract : Call
request_extract = request_on 15

-- "Rule r, a3 says App C2 s7, request 0, 7, 9 with p"; "The worked counts become 30, 71 and 70"
pub record WorkedRegister : Type 0 where
  pub accepted : signature (listed sample) ≡ ok sample
  pub used_before : used (run setting (opened_sample 71) (say_consent ∷ [])) ≡ 30
  pub used_after : used (run setting (opened_sample 71) (say_consent ∷ request_extract ∷ [])) ≡ 71
  pub suffices : answers setting (opened_sample 71) (say_consent ∷ request_extract ∷ []) ≡ said (ok true) ∷ requested (ok tt) ∷ []
  pub too_short : answers setting (opened_sample 70) (say_consent ∷ request_extract ∷ []) ≡ said (ok true) ∷ requested (refused 16 0) ∷ []

-- what the receipt states, and that as a Sign
abbrev pub receipt_proved : Term
receipt_proved = App (App (Const 1) (Text 7)) (Text 9)

abbrev pub receipt_sign : Term
receipt_sign = sign 0 receipt_proved

-- a say of the consent on day 15, and then one more call
abbrev pub after_consent : Call → List Reply
after_consent c = answers setting (opened_sample 76) (say_consent ∷ c ∷ [])

-- a check of the receipt as a Sign, after the request of day 15
abbrev pub check_receipt : (day : ℕ) → Result Term
check_receipt day = check_call (lent setting 12288) (run setting (opened_sample 71) (say_consent ∷ request_extract ∷ [])) day (encode receipt_sign)

-- a request of one word, on day 15, and a register with some records of it
abbrev pub short_ask : Ask
short_ask = ask_of 0 7 9 15 (0 ∷ [])

abbrev pub content_with : List Record → Content
content_with rs = record { mode = trial; latest = 15; records = rs }

abbrev pub read_again : List Record → Result Content
read_again rs = register_content (written (replicate 40 0) (content_with rs))

-- the tests on days, and their order
pub record WorkedDays : Type 0 where
  -- "a day before the latest is 23"
  pub before_latest : after_consent (request_on 14) ≡ said (ok true) ∷ requested (refused 23 0) ∷ []
  -- the consent has lapsed on day 19, and the rule, which stands first, on day 21
  pub consent_lapsed : after_consent (request_on 19) ≡ said (ok true) ∷ requested (refused 22 23) ∷ []
  pub rule_lapsed : after_consent (request_on 21) ≡ said (ok true) ∷ requested (refused 22 1) ∷ []
  -- both days are inclusive: the consent begins on day 12 and ends on day 18, which a say on day 10 leaves open
  pub on_last_day : after_consent (request_on 18) ≡ said (ok true) ∷ requested (ok tt) ∷ []
  pub on_first_day : answers setting (opened_sample 76) (say_from 10 3 12 18 ∷ request_on 12 ∷ []) ≡ said (ok true) ∷ requested (ok tt) ∷ []
  pub before_first_day : answers setting (opened_sample 76) (say_from 10 3 12 18 ∷ request_on 11 ∷ []) ≡ said (ok true) ∷ requested (refused 22 23) ∷ []
  -- a repeated say adds nothing and sets the latest day; "The same statement with other days is another statement"
  pub repeated : after_consent (say_from 16 3 12 18) ≡ said (ok true) ∷ said (ok false) ∷ []
  pub repeated_sets_day : latest (run setting (opened_sample 71) (say_consent ∷ say_from 16 3 12 18 ∷ [])) ≡ 16
  pub other_days : after_consent (say_from 15 3 12 19) ≡ said (ok true) ∷ said (ok true) ∷ []
  pub repeated_rule : count (opened_with 76 (rule_for 10 20 ++ rule_for 10 20)) ≡ 1
  pub other_days_rule : count (opened_with 76 (rule_for 10 20 ++ rule_for 10 21)) ≡ 2
  -- the latest day is 0 at opening; a say for one day, which need not be its own, passes
  pub opened_on : latest (opened_sample 71) ≡ 0
  pub one_day : after_consent (say_from 15 4 30 30) ≡ said (ok true) ∷ said (ok true) ∷ []
  -- 5, then 23, then 15
  pub days_first : after_consent (say_from 14 0 19 12) ≡ said (ok true) ∷ said (refused 5 0) ∷ []
  pub latest_next : after_consent (say_from 14 0 12 18) ≡ said (ok true) ∷ said (refused 23 0) ∷ []
  pub desk_last : after_consent (say_from 15 0 12 18) ≡ said (ok true) ∷ said (refused 15 0) ∷ []
  -- a receipt holds from the day of its grant, without end
  pub receipt_before : check_receipt 14 ≡ refused 22 0
  pub receipt_from : check_receipt 15 ≡ ok (Says (Name 0) receipt_proved)
  pub receipt_later : check_receipt 4294967295 ≡ ok (Says (Name 0) receipt_proved)
  -- "a receipt standing elsewhere is 3"; a grant without one is not
  pub receipt_alone : read_again (receipt short_ask ∷ []) ≡ refused 3 0
  pub receipt_twice : read_again (grant short_ask ∷ receipt short_ask ∷ receipt short_ask ∷ []) ≡ refused 3 0
  pub grant_alone : read_again (grant short_ask ∷ []) ≡ ok (content_with (grant short_ask ∷ []))

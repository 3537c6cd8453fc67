-- The order of the calls' tests, by literals: from line to line one fault is mended, and the first that is left in
-- the documents' table answers. proofs/Order computes them, so that they rest on no other proof.
use Rattle.std.specs.Prelude.{ℕ, ◌≡◌, List, [], ◌∷◌, ◌++◌, replicate}
use Rattle.logic.specs.Result.{refused}
use Rattle.logic.specs.Term.{Term, var, sign, P, S, Const, Text, Name, Says, Pi, App, Ret, Bind, size, encode}
use Rattle.logic.specs.Worked.{sample, listed, consent, rule, p}
use Rattle.logic.specs.Order.{within_signs}
use Rattle.logic.specs.Sentences.{of_consent}
use Rattle.register.specs.Records.{statement_of, ask_of}
use Rattle.register.specs.Calls.{Lent, check_call, request_call, say_call, open_call, read_call}

-- what is lent beside a register: a workspace, a signature list, n
abbrev pub with_lent : ℕ → List ℕ → ℕ → Lent
with_lent workspace sig n = record { sig = sig; n = n; workspace = workspace }

-- document 01's sample, with a workspace that suffices
abbrev pub lends : Lent
lends = with_lent 12288 (listed sample) 1

-- a constant of no words
abbrev pub constant_of_none : List ℕ
constant_of_none = 0 ∷ []

-- a register of three words, one too few; one with a used count past its end; one of four words, with no records and
-- the latest day 5, for trial
abbrev pub short_register : List ℕ
short_register = 4 ∷ 0 ∷ 5 ∷ []

abbrev pub broken_register : List ℕ
broken_register = 9 ∷ 0 ∷ 5 ∷ 1 ∷ []

abbrev pub empty_register : List ℕ
empty_register = 4 ∷ 0 ∷ 5 ∷ 1 ∷ []

-- two with a statement for the days 1 to 4: a3 says App C2 s7, and the rule r
abbrev pub consent_register : List ℕ
consent_register = 12 ∷ 1 ∷ 5 ∷ 0 ∷ 2 ∷ 6 ∷ 3 ∷ 1 ∷ 4 ∷ encode consent

abbrev pub rule_register : List ℕ
rule_register = 22 ∷ 1 ∷ 5 ∷ 0 ∷ 1 ∷ 16 ∷ 0 ∷ 1 ∷ 4 ∷ encode rule

-- a proposition in which Sign3 App C2 s7 stands at word 14
abbrev pub embeds : Term
embeds = Pi (Pi (Says (Name 3) consent) consent) (App (Const 3) (App (var 0) (sign 3 consent)))

-- terms of 18, 19 and 20, each with a Sign that is not held
abbrev pub bad_function : Term
bad_function = App (Text 7) (sign 3 consent)

abbrev pub bad_argument : Term
bad_argument = App (Const 2) (sign 3 consent)

abbrev pub escape : Term
escape = Bind (sign 3 consent) (Ret (Name 3) of_consent)

-- for each property of proofs that a3 says App C2 s7, what it says of Sign3 App C2 s7 implies App C2 s7
abbrev pub sign_in_domain : Term
sign_in_domain = Pi (Pi (Says (Name 3) consent) P) (Pi (App (var 0) (sign 3 consent)) consent)

-- a rule as words of a rule list, for the days 1 to 4
abbrev pub listed_rule : ℕ → Term → List ℕ
listed_rule a q = a ∷ 1 ∷ 4 ∷ size q ∷ encode q

-- two operations, with the types of C0 to C3
abbrev pub permit_type : Term
permit_type = Pi S P

abbrev pub receipt_type : Term
receipt_type = Pi S (Pi S P)

abbrev pub of_operations : (A B C D : Term) → Lent
of_operations A B C D = with_lent 12288 (listed (A ∷ B ∷ C ∷ D ∷ [])) 2

pub record CallOrder : Type 0 where
  -- check: 1 to 8, then 9 to 12 and 18 to 20 as met, then 14 or 22; no 23, though its day is before the latest
  pub check_1 : check_call (with_lent 12287 constant_of_none 0) short_register 0 [] ≡ refused 1 0
  pub check_2 : check_call (with_lent 12288 constant_of_none 0) short_register 0 [] ≡ refused 2 0
  pub check_3 : check_call (with_lent 12288 constant_of_none 0) broken_register 0 [] ≡ refused 3 0
  pub check_4 : check_call (with_lent 12288 constant_of_none 0) empty_register 0 [] ≡ refused 4 0
  pub check_5 : check_call (with_lent 12288 (listed sample) 0) empty_register 0 [] ≡ refused 5 0
  -- of two operations each one's permit and receipt
  pub check_5_two : check_call (of_operations permit_type receipt_type permit_type receipt_type) empty_register 0 [] ≡ refused 6 0
  pub check_5_permit : check_call (of_operations receipt_type receipt_type permit_type receipt_type) empty_register 0 [] ≡ refused 5 0
  pub check_5_receipt : check_call (of_operations permit_type permit_type permit_type receipt_type) empty_register 0 [] ≡ refused 5 0
  pub check_5_last_permit : check_call (of_operations permit_type receipt_type receipt_type receipt_type) empty_register 0 [] ≡ refused 5 0
  pub check_5_last_receipt : check_call (of_operations permit_type receipt_type permit_type permit_type) empty_register 0 [] ≡ refused 5 0
  pub check_6 : check_call lends empty_register 0 [] ≡ refused 6 0
  pub check_6_long : check_call lends empty_register 0 (replicate 2049 0) ≡ refused 6 0
  pub check_7 : check_call lends empty_register 0 (replicate 2048 0) ≡ refused 7 0
  pub check_8 : check_call lends empty_register 0 (encode (within_signs 32 (var 0))) ≡ refused 8 32
  pub check_9 : check_call lends empty_register 0 (encode (sign 3 (var 0))) ≡ refused 9 1
  pub check_18 : check_call lends empty_register 0 (encode bad_function) ≡ refused 18 0
  pub check_19 : check_call lends empty_register 0 (encode bad_argument) ≡ refused 19 0
  pub check_20 : check_call lends empty_register 0 (encode escape) ≡ refused 20 0
  pub check_14 : check_call lends empty_register 0 (encode (sign 3 consent)) ≡ refused 14 0
  -- "one nested in a proposition or a domain counts too": at word 11, the argument of a property in a domain
  pub check_14_domain : check_call lends empty_register 0 (encode sign_in_domain) ≡ refused 14 11
  pub check_22 : check_call lends consent_register 0 (encode (sign 3 consent)) ≡ refused 22 0
  -- request: the same, i, v and u, then 23, before the proof, and 13, 14 or 22, 16. Of the two Signs of p that of the
  -- rule stands first, and decides
  pub request_1 : request_call (with_lent 12287 constant_of_none 0) short_register (ask_of 1 16777216 16777216 4 []) ≡ refused 1 0
  pub request_2 : request_call (with_lent 12288 constant_of_none 0) short_register (ask_of 1 16777216 16777216 4 []) ≡ refused 2 0
  pub request_3 : request_call (with_lent 12288 constant_of_none 0) broken_register (ask_of 1 16777216 16777216 4 []) ≡ refused 3 0
  pub request_4 : request_call (with_lent 12288 constant_of_none 0) empty_register (ask_of 1 16777216 16777216 4 []) ≡ refused 4 0
  pub request_5_i : request_call lends empty_register (ask_of 1 7 9 4 []) ≡ refused 5 0
  pub request_5_v : request_call lends empty_register (ask_of 0 16777216 9 4 []) ≡ refused 5 0
  pub request_5_u : request_call lends empty_register (ask_of 0 7 16777216 4 []) ≡ refused 5 0
  pub request_23 : request_call lends empty_register (ask_of 0 7 9 4 []) ≡ refused 23 0
  pub request_6 : request_call lends empty_register (ask_of 0 7 9 5 []) ≡ refused 6 0
  pub request_9 : request_call lends empty_register (ask_of 0 7 9 5 (encode (sign 3 (var 0)))) ≡ refused 9 1
  pub request_18 : request_call lends empty_register (ask_of 0 7 9 5 (encode bad_function)) ≡ refused 18 0
  pub request_19 : request_call lends empty_register (ask_of 0 7 9 5 (encode bad_argument)) ≡ refused 19 0
  pub request_20 : request_call lends empty_register (ask_of 0 7 9 5 (encode escape)) ≡ refused 20 0
  pub request_13 : request_call lends empty_register (ask_of 0 7 9 5 (encode (sign 3 consent))) ≡ refused 13 0
  pub request_14 : request_call lends consent_register (ask_of 0 7 9 5 (encode p)) ≡ refused 14 1
  pub request_22 : request_call lends rule_register (ask_of 0 7 9 5 (encode p)) ≡ refused 22 1
  -- say: 5, 23, then 15, before the proposition, whose limits are one less, and 14 or 22 before 16
  pub say_1 : say_call (with_lent 12287 constant_of_none 0) short_register 4 (statement_of 0 4 1 []) ≡ refused 1 0
  pub say_2 : say_call (with_lent 12288 constant_of_none 0) short_register 4 (statement_of 0 4 1 []) ≡ refused 2 0
  pub say_3 : say_call (with_lent 12288 constant_of_none 0) broken_register 4 (statement_of 0 4 1 []) ≡ refused 3 0
  pub say_4 : say_call (with_lent 12288 constant_of_none 0) empty_register 4 (statement_of 0 4 1 []) ≡ refused 4 0
  pub say_5 : say_call (with_lent 12288 (listed sample) 0) empty_register 4 (statement_of 0 4 1 []) ≡ refused 5 0
  pub say_5_principal : say_call lends empty_register 4 (statement_of 16777216 1 4 []) ≡ refused 5 0
  pub say_5_days : say_call lends empty_register 4 (statement_of 0 4 1 []) ≡ refused 5 0
  pub say_23 : say_call lends empty_register 4 (statement_of 0 1 4 []) ≡ refused 23 0
  pub say_15 : say_call lends empty_register 5 (statement_of 0 1 4 []) ≡ refused 15 0
  pub say_6 : say_call lends empty_register 5 (statement_of 4 1 4 []) ≡ refused 6 0
  pub say_6_long : say_call lends empty_register 5 (statement_of 4 1 4 (replicate 2048 0)) ≡ refused 6 0
  pub say_7 : say_call lends empty_register 5 (statement_of 4 1 4 (replicate 2047 0)) ≡ refused 7 0
  pub say_8 : say_call lends empty_register 5 (statement_of 4 1 4 (encode (within_signs 31 (var 0)))) ≡ refused 8 31
  pub say_9 : say_call lends empty_register 5 (statement_of 4 1 4 (encode (sign 3 (var 0)))) ≡ refused 9 1
  pub say_18 : say_call lends empty_register 5 (statement_of 4 1 4 (encode bad_function)) ≡ refused 18 0
  pub say_19 : say_call lends empty_register 5 (statement_of 4 1 4 (encode bad_argument)) ≡ refused 19 0
  pub say_20 : say_call lends empty_register 5 (statement_of 4 1 4 (encode escape)) ≡ refused 20 0
  pub say_14 : say_call lends empty_register 5 (statement_of 4 1 4 (encode embeds)) ≡ refused 14 14
  pub say_22 : say_call lends consent_register 5 (statement_of 4 1 4 (encode embeds)) ≡ refused 22 14
  pub say_16 : say_call lends empty_register 5 (statement_of 3 1 4 (encode consent)) ≡ refused 16 0
  -- open: no 3; its mode is neither 0 nor 1; then rules in turn, each at its principal word; 16 last
  pub open_1 : open_call (with_lent 12287 constant_of_none 0) short_register 2 (16777216 ∷ []) ≡ refused 1 0
  pub open_2 : open_call (with_lent 12288 constant_of_none 0) short_register 2 (16777216 ∷ []) ≡ refused 2 0
  pub open_4 : open_call (with_lent 12288 constant_of_none 0) broken_register 2 (16777216 ∷ []) ≡ refused 4 0
  pub open_5 : open_call (with_lent 12288 (listed sample) 0) broken_register 1 (listed_rule 0 rule ++ (16777216 ∷ [])) ≡ refused 5 0
  pub open_5_mode : open_call lends broken_register 2 (listed_rule 0 rule ++ (16777216 ∷ [])) ≡ refused 5 0
  pub open_rule_5 : open_call lends broken_register 1 (listed_rule 0 rule ++ (16777216 ∷ 1 ∷ 4 ∷ 0 ∷ [])) ≡ refused 5 17
  pub open_rule_5_lone : open_call lends broken_register 1 (listed_rule 0 rule ++ (16777216 ∷ [])) ≡ refused 5 17
  pub open_rule_5_days : open_call lends broken_register 1 (listed_rule 0 rule ++ (0 ∷ 4 ∷ 1 ∷ 0 ∷ [])) ≡ refused 5 17
  pub open_rule_5_cut : open_call lends broken_register 1 (listed_rule 0 rule ++ (0 ∷ 4 ∷ 1 ∷ [])) ≡ refused 5 17
  pub open_rule_6 : open_call lends broken_register 1 (listed_rule 0 rule ++ (0 ∷ 1 ∷ 4 ∷ 0 ∷ [])) ≡ refused 6 17
  pub open_rule_6_long : open_call lends broken_register 1 (listed_rule 0 rule ++ (0 ∷ 1 ∷ 4 ∷ 2048 ∷ [])) ≡ refused 6 17
  pub open_rule_7 : open_call lends broken_register 1 (listed_rule 0 rule ++ (0 ∷ [])) ≡ refused 7 17
  pub open_rule_7_day : open_call lends broken_register 1 (listed_rule 0 rule ++ (0 ∷ 4 ∷ [])) ≡ refused 7 17
  pub open_rule_7_days : open_call lends broken_register 1 (listed_rule 0 rule ++ (0 ∷ 1 ∷ 4 ∷ [])) ≡ refused 7 17
  pub open_rule_7_cut : open_call lends broken_register 1 (listed_rule 0 rule ++ (0 ∷ 1 ∷ 4 ∷ 2047 ∷ [])) ≡ refused 7 17
  pub open_rule_9 : open_call lends broken_register 1 (listed_rule 0 rule ++ listed_rule 0 (sign 3 (var 0))) ≡ refused 9 17
  pub open_rule_18 : open_call lends broken_register 1 (listed_rule 0 rule ++ listed_rule 0 bad_function) ≡ refused 18 17
  pub open_rule_19 : open_call lends broken_register 1 (listed_rule 0 rule ++ listed_rule 0 bad_argument) ≡ refused 19 17
  pub open_rule_20 : open_call lends broken_register 1 (listed_rule 0 rule ++ listed_rule 0 escape) ≡ refused 20 17
  pub open_rule_14 : open_call lends broken_register 1 (listed_rule 0 rule ++ listed_rule 4 embeds ++ (16777216 ∷ [])) ≡ refused 14 17
  pub open_16 : open_call lends broken_register 1 (listed_rule 0 rule) ≡ refused 16 0
  -- "any earlier rule serves there": one for day 9 alone passes 14
  pub open_any_days : open_call lends broken_register 1 (3 ∷ 9 ∷ 9 ∷ 3 ∷ encode consent ++ listed_rule 4 embeds) ≡ refused 16 0
  -- read: 2, 3, 17
  pub read_2 : read_call short_register 0 ≡ refused 2 0
  pub read_3 : read_call broken_register 0 ≡ refused 3 0
  pub read_17 : read_call empty_register 0 ≡ refused 17 0

-- Batches by literals, a sentence of document 02's slip 7 at a time; the words of lists, registers and records are
-- written out. proofs/BatchGuards computes them, so that they rest on no other proof.
use Rattle.std.specs.Prelude.{ℕ, zero, suc, ◌≡◌, true, List, [], ◌∷◌, ◌++◌, replicate}
use Rattle.logic.specs.Result.{ok}
use Rattle.logic.specs.Term.{Term, sign, Const, Text, App, Bind, encode}
use Rattle.logic.specs.Worked.{sample, listed, consent, p}
use Rattle.register.specs.Records.{Record, Content, ask_of, used, latest}
use Rattle.register.specs.Calls.{Lent}
use Rattle.register.specs.Batch.{items, Batched, all_granted, refused_at, batch_call, batch_leaves, SomeItems}
use Rattle.register.specs.BatchTests.{batch_once}
use Rattle.register.specs.History.{Call, request, batch, said, requested, batched, run, answers, read_off, added_words, grants, days, singles}
use Rattle.register.specs.History.{single_answers, NoBatch}
use Rattle.register.specs.Worked.{setting, opened_sample, say_consent, request_extract, receipt_proved, receipt_sign}
use Rattle.register.specs.Order.{with_lent, lends, constant_of_none, short_register, broken_register, empty_register, permit_type, receipt_type}
use Rattle.register.specs.Order.{of_operations}

-- ---- proofs of the permission of operation 0 for the extract 7

-- the desk's statement of it, as a Sign: 4 words
abbrev pub permitted : Term
permitted = App (Const 0) (Text 7)

abbrev pub desk_permits : Term
desk_permits = sign 0 permitted

-- one that uses the receipt of the delivery 9, at its word 1: 11 words
abbrev pub using_receipt : Term
using_receipt = Bind receipt_sign desk_permits

-- ---- lists of items: operation, v, u, length, proof

abbrev pub plain_item : (u : ℕ) → List ℕ
plain_item u = 0 ∷ 7 ∷ u ∷ 4 ∷ encode desk_permits

abbrev pub using_item : List ℕ
using_item = 0 ∷ 7 ∷ 10 ∷ 11 ∷ encode using_receipt

-- the same with the receipt at word 6
abbrev pub using_later : List ℕ
using_later = 0 ∷ 7 ∷ 10 ∷ 16 ∷ encode (Bind desk_permits using_receipt)

abbrev pub empty_proof : List ℕ
empty_proof = 0 ∷ 7 ∷ 9 ∷ 0 ∷ []

-- the second needs the receipt of the first
abbrev pub both_items : List ℕ
both_items = plain_item 9 ++ using_item

-- the words ws k times
unfoldable pub times : ℕ → List ℕ → List ℕ
times zero ws = []
times (suc k) ws = ws ++ times k ws

-- ---- registers

-- what the receipt of the delivery 10 states
abbrev pub other_receipt_proved : Term
other_receipt_proved = App (App (Const 1) (Text 7)) (Text 10)

-- the rule for the days 10 to 20, and the grants of both items on day 15 with their receipts
abbrev pub rule_record : List ℕ
rule_record = 1 ∷ 6 ∷ 0 ∷ 10 ∷ 20 ∷ encode permitted

abbrev pub first_records : List ℕ
first_records = 3 ∷ 8 ∷ 0 ∷ 7 ∷ 9 ∷ 15 ∷ encode desk_permits ++ (4 ∷ 6 ∷ 0 ∷ encode receipt_proved)

abbrev pub second_records : List ℕ
second_records = 3 ∷ 15 ∷ 0 ∷ 7 ∷ 10 ∷ 15 ∷ encode using_receipt ++ (4 ∷ 6 ∷ 0 ∷ encode other_receipt_proved)

-- a register with the rule, the latest day 12 and some words free; the first item's entry takes 18, the second's 25
abbrev pub ruled : (free : ℕ) → List ℕ
ruled free = 12 ∷ 1 ∷ 12 ∷ 1 ∷ rule_record ++ replicate free 0

abbrev pub with_both : List ℕ
with_both = 55 ∷ 5 ∷ 15 ∷ 1 ∷ rule_record ++ first_records ++ second_records

-- what a batch of day 15 answers on such a register, and what it leaves
abbrev pub answer_to_batch : (free : ℕ) → List ℕ → Batched
answer_to_batch free ws = batch_call lends (ruled free) 15 ws

abbrev pub left_by_batch : (free : ℕ) → List ℕ → List ℕ
left_by_batch free ws = batch_leaves lends (ruled free) 15 ws

-- ---- two operations: 1 has the permit C2 and the receipt C3

abbrev pub lends_two : Lent
lends_two = of_operations permit_type receipt_type permit_type receipt_type

-- the rules of both, a register of these with room for a request of each, and what the requests leave
abbrev pub two_rules : List ℕ
two_rules = rule_record ++ (1 ∷ 6 ∷ 0 ∷ 10 ∷ 20 ∷ encode consent)

abbrev pub two_ruled : List ℕ
two_ruled = 20 ∷ 2 ∷ 12 ∷ 1 ∷ two_rules ++ replicate 36 0

abbrev pub two_items : List ℕ
two_items = plain_item 9 ++ (1 ∷ 7 ∷ 9 ∷ 4 ∷ encode (sign 0 consent))

abbrev pub with_two : List ℕ
with_two = 56 ∷ 6 ∷ 15 ∷ 1 ∷ two_rules ++ first_records ++ (3 ∷ 8 ∷ 1 ∷ 7 ∷ 9 ∷ 15 ∷ encode (sign 0 consent)) ++
    (4 ∷ 6 ∷ 0 ∷ encode (App (App (Const 3) (Text 7)) (Text 9)))

-- ---- signature lists that are refused

-- the sample's first constant, and one of no words behind it, at word 4
abbrev pub second_bad : List ℕ
second_bad = listed (permit_type ∷ []) ++ (0 ∷ [])

-- two constants of a type
abbrev pub twice : Term → List ℕ
twice A = listed (A ∷ A ∷ [])

-- ---- the worked register: p, and one that uses its receipt, in 27 and 34 words

abbrev pub worked_batch : Call
worked_batch = batch 12288 15 (0 ∷ 7 ∷ 9 ∷ 27 ∷ encode p ++ (0 ∷ 7 ∷ 10 ∷ 34 ∷ encode (Bind receipt_sign p)))

-- ---- both items in a list of calls, as a batch and one by one

abbrev pub batch_both : Call
batch_both = batch 12288 15 both_items

abbrev pub first_request : Call
first_request = request 12288 (ask_of 0 7 9 15 (encode desk_permits))

abbrev pub second_request : Call
second_request = request 12288 (ask_of 0 7 10 15 (encode using_receipt))

-- the records of the register before and behind them
abbrev pub record_with : (kind : ℕ) → List ℕ → Record
record_with kind body = record { kind = kind; body = body }

abbrev pub rule_of_desk : Record
rule_of_desk = record_with 1 (0 ∷ 10 ∷ 20 ∷ encode permitted)

abbrev pub ruled_content : Content
ruled_content = record { mode = 1; latest = 12; records = rule_of_desk ∷ [] }

abbrev pub entered : List Record
entered = record_with 3 (0 ∷ 7 ∷ 9 ∷ 15 ∷ encode desk_permits) ∷ record_with 4 (0 ∷ encode receipt_proved) ∷
    record_with 3 (0 ∷ 7 ∷ 10 ∷ 15 ∷ encode using_receipt) ∷ record_with 4 (0 ∷ encode other_receipt_proved) ∷ []

pub record BatchGuards : Type 0 where
  -- "A delivery often needs up to 16 requests granted together": 1, 2 and 16, and the last of 16 is tried
  pub one : answer_to_batch 18 (plain_item 9) ≡ all_granted
  pub both : answer_to_batch 43 both_items ≡ all_granted
  pub sixteen : answer_to_batch 288 (times 16 (plain_item 9)) ≡ all_granted
  pub sixteen_items : SomeItems (items 15 (times 16 (plain_item 9)))
  pub sixteenth : answer_to_batch 288 (times 15 (plain_item 9) ++ empty_proof) ≡ refused_at 15 6 0
  -- "A batch is one day and a word list of operation, v, u, length, proof"
  pub both_left : left_by_batch 43 both_items ≡ with_both
  pub two_operations : batch_call lends_two two_ruled 15 two_items ≡ all_granted
  pub two_operations_left : batch_leaves lends_two two_ruled 15 two_items ≡ with_two
  pub other_operation : answer_to_batch 43 (plain_item 9 ++ (1 ∷ 7 ∷ 10 ∷ 11 ∷ encode using_receipt)) ≡ refused_at 1 5 0
  pub other_extract : answer_to_batch 43 (plain_item 9 ++ (0 ∷ 8 ∷ 10 ∷ 11 ∷ encode using_receipt)) ≡ refused_at 1 13 0
  pub other_day : batch_call lends (ruled 43) 21 both_items ≡ refused_at 0 22 0
  pub day_before : batch_call lends (ruled 43) 11 both_items ≡ refused_at 0 23 0
  -- and a batch sets the latest day, as its requests would
  pub both_latest : latest (left_by_batch 43 both_items) ≡ 15
  -- "an item cut short is 7 at 0": in its head, in its proof, by a length word that says more than any list has
  pub cut_1 : answer_to_batch 43 (plain_item 9 ++ (0 ∷ [])) ≡ refused_at 1 7 0
  pub cut_2 : answer_to_batch 43 (plain_item 9 ++ (0 ∷ 7 ∷ [])) ≡ refused_at 1 7 0
  pub cut_3 : answer_to_batch 43 (plain_item 9 ++ (0 ∷ 7 ∷ 9 ∷ [])) ≡ refused_at 1 7 0
  pub cut_4 : answer_to_batch 43 (plain_item 9 ++ (0 ∷ 7 ∷ 9 ∷ 1 ∷ [])) ≡ refused_at 1 7 0
  pub cut_proof : answer_to_batch 43 (plain_item 9 ++ (0 ∷ 7 ∷ 9 ∷ 5 ∷ encode desk_permits)) ≡ refused_at 1 7 0
  pub cut_by_length : answer_to_batch 43 (plain_item 9 ++ (0 ∷ 7 ∷ 9 ∷ 4294967295 ∷ encode desk_permits)) ≡ refused_at 1 7 0
  -- "before its other tests": 1, 2 and 4 would refuse, and 5; and after the items before it
  pub cut_before_1 : batch_call (with_lent 12287 constant_of_none 0) short_register 4 (0 ∷ []) ≡ refused_at 0 7 0
  pub cut_before_5 : answer_to_batch 43 (1 ∷ 16777216 ∷ 16777216 ∷ 1 ∷ []) ≡ refused_at 0 7 0
  pub cut_behind : answer_to_batch 43 (empty_proof ++ (0 ∷ [])) ≡ refused_at 0 6 0
  pub cut_behind_1 : batch_call (with_lent 12287 (listed sample) 1) (ruled 43) 15 (plain_item 9 ++ (0 ∷ [])) ≡ refused_at 0 1 0
  -- a length of 0 is an empty proof; one that a proof does not fill has a place of its own
  pub empty_second : answer_to_batch 43 (plain_item 9 ++ empty_proof) ≡ refused_at 1 6 0
  pub words_missing : answer_to_batch 43 (plain_item 9 ++ (0 ∷ 7 ∷ 9 ∷ 2 ∷ 167772160 ∷ 100663296 ∷ [])) ≡ refused_at 1 7 2
  -- "The batch grants all or changes no word": the first alone has room, and is not entered
  pub room : answer_to_batch 42 both_items ≡ refused_at 1 16 0
  pub room_left : left_by_batch 42 both_items ≡ ruled 42
  pub third_left : left_by_batch 61 (both_items ++ empty_proof) ≡ ruled 61
  -- "it succeeds exactly when making them one after another would grant each": not in the other order, and not with the
  -- receipt of another delivery
  pub other_order : answer_to_batch 43 (using_item ++ plain_item 9) ≡ refused_at 0 14 1
  pub other_receipt : answer_to_batch 43 (plain_item 8 ++ using_item) ≡ refused_at 1 14 1
  -- "and then leaves the same register"
  pub as_requests : run setting (ruled 43) (first_request ∷ second_request ∷ []) ≡ with_both
  -- the same where the items are tested without writing: the receipt of the first is held, and its words are counted
  pub once : batch_once lends (ruled 43) 15 both_items ≡ all_granted
  pub once_room : batch_once lends (ruled 42) 15 both_items ≡ refused_at 1 16 0
  pub once_other_receipt : batch_once lends (ruled 43) 15 (plain_item 8 ++ using_item) ≡ refused_at 1 14 1
  -- "an empty batch makes tests 1 to 4, 5 for n and the permit and receipt types, and 23, at index and place as a first
  -- request would": from line to line one fault is mended
  pub none_1 : batch_call (with_lent 12287 second_bad 0) short_register 4 [] ≡ refused_at 0 1 0
  pub none_2 : batch_call (with_lent 12288 second_bad 0) short_register 4 [] ≡ refused_at 0 2 0
  pub none_3 : batch_call (with_lent 12288 second_bad 0) broken_register 4 [] ≡ refused_at 0 3 0
  pub none_4 : batch_call (with_lent 12288 second_bad 0) empty_register 4 [] ≡ refused_at 0 4 4
  pub none_5 : batch_call (with_lent 12288 (listed sample) 0) empty_register 4 [] ≡ refused_at 0 5 0
  pub none_5_permit : batch_call (with_lent 12288 (twice receipt_type) 1) empty_register 4 [] ≡ refused_at 0 5 0
  pub none_5_receipt : batch_call (with_lent 12288 (twice permit_type) 1) empty_register 4 [] ≡ refused_at 0 5 0
  pub none_23 : batch_call lends empty_register 4 [] ≡ refused_at 0 23 0
  -- so a first request
  pub first_4 : batch_call (with_lent 12288 second_bad 0) empty_register 4 both_items ≡ refused_at 0 4 4
  -- "and then succeeds and changes no word": its day is not set, and no word has to be free
  pub none : batch_call lends empty_register 6 [] ≡ all_granted
  pub none_left : batch_leaves lends empty_register 6 [] ≡ 4 ∷ 0 ∷ 5 ∷ 1 ∷ []
  -- "The refusal is that of the first request that fails, with its index and its own place": its third has the number
  -- that is tested first
  pub first_that_fails : answer_to_batch 99 (plain_item 8 ++ using_later ++ (1 ∷ 7 ∷ 9 ∷ 0 ∷ [])) ≡ refused_at 1 14 6
  pub third_fails : answer_to_batch 99 (plain_item 9 ++ using_later ++ (1 ∷ 7 ∷ 9 ∷ 0 ∷ [])) ≡ refused_at 2 5 0
  -- "More than 16 requests, one cut short included, is 5 at index 0, before any is tried": 1, 2 and 4 would refuse
  pub seventeen : batch_call (with_lent 12287 constant_of_none 0) short_register 4 (times 17 empty_proof) ≡ refused_at 0 5 0
  pub seventeen_left : left_by_batch 306 (times 17 (plain_item 9)) ≡ ruled 306
  pub seventeenth_cut : batch_call (with_lent 12287 constant_of_none 0) short_register 4 (times 16 empty_proof ++ (0 ∷ [])) ≡ refused_at 0 5 0
  pub sixteenth_cut : answer_to_batch 288 (times 15 (plain_item 9) ++ (0 ∷ [])) ≡ refused_at 15 7 0
  -- "Batches join the lists that histories are made of": the worked register has 119 words in use then, and 118 give 16
  pub worked : answers setting (opened_sample 119) (say_consent ∷ worked_batch ∷ []) ≡ said (ok true) ∷ batched all_granted ∷ []
  pub worked_used : used (run setting (opened_sample 119) (say_consent ∷ worked_batch ∷ [])) ≡ 119
  pub worked_short : answers setting (opened_sample 118) (say_consent ∷ worked_batch ∷ []) ≡ said (ok true) ∷ batched (refused_at 1 16 0) ∷ []
  -- "a refused one as a single refused call": the request behind it is granted where no word more has room
  pub refused_between : answers setting (opened_sample 71) (say_consent ∷ worked_batch ∷ request_extract ∷ []) ≡
      said (ok true) ∷ batched (refused_at 1 16 0) ∷ requested (ok tt) ∷ []
  -- and it has no grants, days, words or records
  pub refused_grants : grants setting (ruled 42) (batch_both ∷ []) ≡ []
  pub refused_words : added_words setting (ruled 42) (batch_both ∷ []) ≡ 0
  pub refused_read_off : read_off setting 54 ruled_content (batch_both ∷ []) ≡ ruled_content
  pub refused_singles : singles setting (ruled 42) (batch_both ∷ []) ≡ []
  pub refused_days : days setting (opened_sample 71) (say_consent ∷ worked_batch ∷ request_extract ∷ []) ≡ 15 ∷ 15 ∷ []
  -- "each that succeeds counting as its requests in turn": in the grants, the days, the words added, the records
  pub both_grants : grants setting (ruled 43) (batch_both ∷ []) ≡ ask_of 0 7 9 15 (encode desk_permits) ∷ ask_of 0 7 10 15 (encode using_receipt) ∷ []
  pub both_days : days setting (ruled 43) (batch_both ∷ []) ≡ 15 ∷ 15 ∷ []
  pub both_words : added_words setting (ruled 43) (batch_both ∷ []) ≡ 43
  pub both_read_off : read_off setting 55 ruled_content (batch_both ∷ []) ≡ record { mode = 1; latest = 15; records = rule_of_desk ∷ entered }
  -- and as the list that it is replaced by
  pub both_singles : singles setting (ruled 43) (batch_both ∷ []) ≡ first_request ∷ second_request ∷ []
  pub both_not_singles : NoBatch (batch_both ∷ []) → ⊥
  pub both_single_answers : single_answers setting (ruled 43) (batch_both ∷ []) ≡ requested (ok tt) ∷ requested (ok tt) ∷ []
  -- an empty one has no request, and sets no day
  pub none_between : answers setting (ruled 43) (first_request ∷ batch 12288 16 [] ∷ second_request ∷ []) ≡
      requested (ok tt) ∷ batched all_granted ∷ requested (ok tt) ∷ []
  pub none_read_off : read_off setting 55 ruled_content (batch 12288 16 [] ∷ []) ≡ ruled_content
  pub none_days : days setting (ruled 43) (first_request ∷ batch 12288 16 [] ∷ []) ≡ 15 ∷ []

-- The order of the calls' tests, by computation.
use mathlib.Core.Path.{refl}
use native.Mathlib.Decide.{ℕ_discrete}
use Rattle.logic.specs.Term.{size, encode}
use Rattle.logic.specs.Move.{shift, fill_at, occurs}
use Rattle.logic.specs.Reading.{read, too_deep, first_miss}
use Rattle.logic.specs.Infer.{infer, same_term, conclusion}
use Rattle.logic.specs.SignatureList.{constants, operations}
use Rattle.logic.specs.Order.{within_signs}
use Rattle.logic.specs.Worked.{listed}
use Rattle.register.specs.Records.{records, words_of, statements_from, same_words, some_of}
use Rattle.register.specs.Calls.{opening}
use Rattle.register.specs.Order.{CallOrder}

pub call_order : CallOrder
unfolding infer same_term conclusion read too_deep first_miss shift fill_at occurs size encode ℕ_discrete constants operations records
    words_of statements_from same_words some_of opening listed within_signs
call_order = record {
  check_1 = refl;
  check_2 = refl;
  check_3 = refl;
  check_4 = refl;
  check_5 = refl;
  check_5_two = refl;
  check_5_permit = refl;
  check_5_receipt = refl;
  check_5_last_permit = refl;
  check_5_last_receipt = refl;
  check_6 = refl;
  check_6_long = refl;
  check_7 = refl;
  check_8 = refl;
  check_9 = refl;
  check_18 = refl;
  check_19 = refl;
  check_20 = refl;
  check_14 = refl;
  check_14_domain = refl;
  check_22 = refl;
  request_1 = refl;
  request_2 = refl;
  request_3 = refl;
  request_4 = refl;
  request_5_i = refl;
  request_5_v = refl;
  request_5_u = refl;
  request_23 = refl;
  request_6 = refl;
  request_9 = refl;
  request_18 = refl;
  request_19 = refl;
  request_20 = refl;
  request_13 = refl;
  request_14 = refl;
  request_22 = refl;
  say_1 = refl;
  say_2 = refl;
  say_3 = refl;
  say_4 = refl;
  say_5 = refl;
  say_5_principal = refl;
  say_5_days = refl;
  say_23 = refl;
  say_15 = refl;
  say_6 = refl;
  say_6_long = refl;
  say_7 = refl;
  say_8 = refl;
  say_9 = refl;
  say_18 = refl;
  say_19 = refl;
  say_20 = refl;
  say_14 = refl;
  say_22 = refl;
  say_16 = refl;
  open_1 = refl;
  open_2 = refl;
  open_4 = refl;
  open_5 = refl;
  open_5_mode = refl;
  open_rule_5 = refl;
  open_rule_5_lone = refl;
  open_rule_5_days = refl;
  open_rule_5_cut = refl;
  open_rule_6 = refl;
  open_rule_6_long = refl;
  open_rule_7 = refl;
  open_rule_7_day = refl;
  open_rule_7_days = refl;
  open_rule_7_cut = refl;
  open_rule_9 = refl;
  open_rule_18 = refl;
  open_rule_19 = refl;
  open_rule_20 = refl;
  open_rule_14 = refl;
  open_16 = refl;
  open_any_days = refl;
  read_2 = refl;
  read_3 = refl;
  read_17 = refl;
}

-- Batches by literals, by computation.
use mathlib.Core.Path.{refl}
use native.Mathlib.Decide.{ℕ_discrete}
use native.Mathlib.Omega.{arith}
use Rattle.logic.specs.Term.{size, encode}
use Rattle.logic.specs.Move.{shift, fill_at, occurs}
use Rattle.logic.specs.Reading.{read, too_deep, first_miss}
use Rattle.logic.specs.Infer.{infer, same_term, conclusion}
use Rattle.logic.specs.SignatureList.{constants, operations}
use Rattle.logic.specs.Worked.{listed}
use Rattle.register.specs.Records.{records, words_of, statements_from, same_words, some_of}
use Rattle.register.specs.Calls.{opening}
use Rattle.register.specs.Batch.{item_list, asks, in_turn, after_requests, all_entries, granted_words}
use Rattle.register.specs.BatchTests.{items_own}
use Rattle.register.specs.History.{run, answers, read_off, added_words, grants, days, singles, single_answers, NoBatch}
use Rattle.register.specs.BatchGuards.{times, BatchGuards}

pub batch_guards : BatchGuards
unfolding infer same_term conclusion read too_deep first_miss shift fill_at occurs size encode ℕ_discrete constants operations records
    words_of statements_from same_words some_of opening item_list asks in_turn after_requests all_entries granted_words items_own run answers read_off
    added_words grants days singles single_answers NoBatch listed times
batch_guards = record {
  one = refl;
  both = refl;
  sixteen = refl;
  sixteen_items = (omega arith, omega arith);
  sixteenth = refl;
  both_left = refl;
  two_operations = refl;
  two_operations_left = refl;
  other_operation = refl;
  other_extract = refl;
  other_day = refl;
  day_before = refl;
  both_latest = refl;
  cut_1 = refl;
  cut_2 = refl;
  cut_3 = refl;
  cut_4 = refl;
  cut_proof = refl;
  cut_by_length = refl;
  cut_before_1 = refl;
  cut_before_5 = refl;
  cut_behind = refl;
  cut_behind_1 = refl;
  empty_second = refl;
  words_missing = refl;
  room = refl;
  room_left = refl;
  third_left = refl;
  other_order = refl;
  other_receipt = refl;
  as_requests = refl;
  once = refl;
  once_room = refl;
  once_other_receipt = refl;
  none_1 = refl;
  none_2 = refl;
  none_3 = refl;
  none_4 = refl;
  none_5 = refl;
  none_5_permit = refl;
  none_5_receipt = refl;
  none_23 = refl;
  first_4 = refl;
  none = refl;
  none_left = refl;
  first_that_fails = refl;
  third_fails = refl;
  seventeen = refl;
  seventeen_left = refl;
  seventeenth_cut = refl;
  sixteenth_cut = refl;
  worked = refl;
  worked_used = refl;
  worked_short = refl;
  refused_between = refl;
  refused_grants = refl;
  refused_words = refl;
  refused_read_off = refl;
  refused_singles = refl;
  refused_days = refl;
  both_grants = refl;
  both_days = refl;
  both_words = refl;
  both_read_off = refl;
  both_singles = refl;
  both_not_singles = λ h. h.0;
  both_single_answers = refl;
  none_between = refl;
  none_read_off = refl;
  none_days = refl;
}

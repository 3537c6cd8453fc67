-- Marks by literals, by computation.
use Prim.Native.Nat.{ℕ, ◌≤◌}
use mathlib.Core.Path.{◌≡◌, refl, ap}
use mathlib.Core.List.{List, [], ◌∷◌, ◌++◌}
use native.Mathlib.Omega.{arith}
use native.Mathlib.Decide.{ℕ_discrete}
use Rattle.logic.specs.Term.{size, encode}
use Rattle.logic.specs.Move.{shift, fill_at, occurs}
use Rattle.logic.specs.Reading.{read, too_deep, first_miss}
use Rattle.logic.specs.Infer.{infer, same_term, conclusion}
use lib.ListN.{length, drop, replicate, length-append}
use Rattle.logic.specs.Worked.{listed, rule}
use Rattle.logic.specs.SignatureList.{constants, operations}
use Rattle.register.specs.Records.{latest, records, words_of, statements_from, same_words, some_of}
use Rattle.register.specs.Calls.{opening}
use Rattle.register.specs.Marks.{standing, others, up_to, marks_words, front_marks}
use Rattle.register.specs.History.{run}
use Rattle.register.specs.Trials.{trial_run, trial_answers, trail}
use Rattle.register.specs.MarkGuards.{said_as, MarkGuards}

-- two registers with one front of four words or more have one latest day
same_day : (front behind behind' : List ℕ) → 4 ≤ length front → (4 ∷ 0 ∷ 5 ∷ 1 ∷ 7 ∷ []) ≡ front ++ behind →
    (4 ∷ 0 ∷ 6 ∷ 1 ∷ 7 ∷ []) ≡ front ++ behind' → ⊥
same_day [] behind behind' l e e' = omega arith
same_day (a ∷ []) behind behind' l e e' = omega arith
same_day (a ∷ b ∷ []) behind behind' l e e' = omega arith
same_day (a ∷ b ∷ c ∷ rest) behind behind' l e e' = omega (arith, ap latest e, ap latest e')

pub mark_guards : MarkGuards
unfolding infer same_term conclusion read too_deep first_miss shift fill_at occurs size encode ℕ_discrete constants operations records
    words_of statements_from same_words some_of opening run listed standing others up_to marks_words front_marks trial_run trial_answers trail
mark_guards = record {
  for_release = refl;
  for_trial = refl;
  open_other = refl;
  read_other = refl;
  opened_list = refl;
  opened_none = refl;
  opened_other = refl;
  refused_list = refl;
  set_one = refl;
  set_two = refl;
  set_again = refl;
  set_twice = refl;
  set_largest = refl;
  ninth = refl;
  eight_again = refl;
  eighth = refl;
  restores = refl;
  keeps_words = refl;
  reads_no_more = refl;
  restores_last = refl;
  removes = refl;
  removes_none = refl;
  first_of_two = refl;
  removes_second = refl;
  still_stands = refl;
  set_last = refl;
  full = refl;
  again = refl;
  amounts = refl;
  unsaid = refl;
  unknown = refl;
  not_standing = refl;
  at_record = refl;
  at_header = refl;
  day_as_kept = refl;
  within_record = refl;
  other_count = refl;
  header_counted = refl;
  past_end = refl;
  release_mark = refl;
  release_ninth = refl;
  release_return = refl;
  too_short = refl;
  broken = refl;
  return_short = refl;
  return_broken = refl;
  short_list = refl;
  long_list = refl;
  long_full = refl;
  count_over = refl;
  return_over = refl;
  read_none = refl;
  unread = record {
    front = 22 ∷ 1 ∷ 0 ∷ 1 ∷ 1 ∷ 16 ∷ 0 ∷ 10 ∷ 20 ∷ encode rule;
    behind = drop 22 (said_as 1);
    behind' = replicate 49 0;
    words = refl;
    words' = refl;
    whole_header = omega arith;
    all_used = omega arith;
    as_long = refl;
  };
  other_length = λ f.
      let l = length-append f.front f.behind in
      let l' = length-append f.front f.behind' in
      omega (arith, ap length f.words, ap length f.words', f.as_long);
  other_day = λ f. same_day f.front f.behind f.behind' f.whole_header f.words f.words';
}

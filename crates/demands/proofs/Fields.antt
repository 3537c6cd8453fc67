-- Each claim on calls, field by field: one that loses a field, or gains one, is refused here.
use Prim.Native.Nat.{ℕ}
use mathlib.Core.List.{List}
use Rattle.logic.specs.Result.{Result, Answers}
use Rattle.register.specs.Records.{Record, Ask, Content}
use Rattle.register.specs.Calls.{Lent}
use Rattle.register.specs.Succeeds.{Demand2}
use Rattle.register.specs.Refuses.{BatchAnswers, Demand1}
use Rattle.register.specs.Marks.{Mark, Spot}
use Rattle.register.specs.Leaves.{Leaves, LeavesMarks, Restores, Leaving}
use Rattle.register.specs.Stated.{StatedRight}
use Rattle.register.specs.Verdict.{Verdicts}
use Rattle.register.specs.Lapse.{Lapses}
use Rattle.register.specs.Batch.{Batched, Batches}
use Rattle.register.specs.BatchTests.{TestedOnce}
use Rattle.register.specs.History.{Setting, Call, Reordered, Replaced, Demand}
use Rattle.register.specs.Unread.{Unread}
use Rattle.register.specs.Trials.{TrialCall, Behaviour, Amounts, HoldsAfter, HoldsAlike, TrialDemand}
use Rattle.homes.specs.Right.{WritingStep}
use Rattle.extract.specs.Demands.{ExtractDemands}
use Rattle.extract.specs.Desk.{DeskCall, DeskDemand, DeskTrialDemand}
use Rattle.editions.specs.Laws.{Laws}
use Rattle.editions.specs.Refuses.{ConvertersDemand}
use Rattle.uses.specs.Demands.{UsesDemand}
use Rattle.reduction.specs.Refuses.{SimplifyDemands}
use Rattle.reduction.specs.Laws.{SimplifyLaws}

-- ---- answers, and what calls leave

pub answers_fields : {X : Type 0} {o : Result X} {S : X → Type 0} {R : ℕ → ℕ → Type 0} → Answers o S R → Answers o S R
answers_fields a = record {
  succeeds = a.succeeds;
  refuses = a.refuses;
  either = a.either;
  not_both = a.not_both;
  one_success = a.one_success;
  one_refusal = a.one_refusal;
}

pub batch_answers_fields : {b : Batched} {S : Type 0} {R : ℕ → ℕ → ℕ → Type 0} → BatchAnswers b S R → BatchAnswers b S R
batch_answers_fields a = record {
  succeeds = a.succeeds;
  refuses = a.refuses;
  either = a.either;
  not_both = a.not_both;
  one_refusal = a.one_refusal;
}

pub leaves_fields : {old : List ℕ} {mode day : ℕ} {rs : List Record} {new : List ℕ} → Leaves old mode day rs new → Leaves old mode day rs new
leaves_fields l = record {
  unbroken = l.unbroken;
  size = l.size;
  behind = l.behind;
}

pub leaves_marks_fields : {old : List ℕ} {ms : List Mark} {new : List ℕ} → LeavesMarks old ms new → LeavesMarks old ms new
leaves_marks_fields l = record {
  listed = l.listed;
  behind = l.behind;
}

pub restores_fields : {old : List ℕ} {c : Content} {m : Spot} {new : List ℕ} → Restores old c m new → Restores old c m new
restores_fields r = record {
  unbroken = r.unbroken;
  size = r.size;
  behind = r.behind;
}

-- ---- the first and the second demand

pub demand1_fields : Demand1 → Demand1
demand1_fields d = record {
  checks = λ l reg day ws. answers_fields (d.checks l reg day ws);
  requests = λ l reg k. answers_fields (d.requests l reg k);
  batches = λ l reg day ws xs h. batch_answers_fields (d.batches l reg day ws xs h);
  says = λ l reg day st. answers_fields (d.says l reg day st);
  opens = λ l reg mode rules. answers_fields (d.opens l reg mode rules);
  reads = λ reg k. answers_fields (d.reads reg k);
  marks = λ reg list n. answers_fields (d.marks reg list n);
  returns = λ reg list n. answers_fields (d.returns reg list n);
  check_empty = d.check_empty;
  read_empty = d.read_empty;
  request_unchanged = d.request_unchanged;
  batch_unchanged = d.batch_unchanged;
  say_unchanged = d.say_unchanged;
  open_unchanged = d.open_unchanged;
  open_marks_unchanged = d.open_marks_unchanged;
  mark_unchanged = d.mark_unchanged;
  return_unchanged = d.return_unchanged;
}

pub demand2_fields : Demand2 → Demand2
demand2_fields d = record {
  checks = d.checks;
  grants = d.grants;
  batches = d.batches;
  says = d.says;
  opens = d.opens;
  marks = d.marks;
  returns = d.returns;
  well_formed = d.well_formed;
  unique = d.unique;
}

pub extract_fields : {l : Lent} {reg : List ℕ} {k : Ask} {hs t : List ℕ} {room : ℕ} → ExtractDemands l reg k hs t room → ExtractDemands l reg k hs t room
extract_fields d = record {
  answers = answers_fields d.answers;
  form_first = d.form_first;
  then_request = d.then_request;
  as_request = d.as_request;
  register_kept = d.register_kept;
  output_right = d.output_right;
  output_kept = d.output_kept;
  unread = d.unread;
}

pub converters_fields : ConvertersDemand → ConvertersDemand
converters_fields d = record {
  answers = λ e ws room. answers_fields (d.answers e ws room);
  unchanged = d.unchanged;
  past = d.past;
}

pub uses_fields : UsesDemand → UsesDemand
uses_fields d = record {
  answers = λ k ws. answers_fields (d.answers k ws);
  differ = d.differ;
}

pub simplify_fields : SimplifyDemands → SimplifyDemands
simplify_fields d = record {
  answers = λ l reg day ws budget room. answers_fields (d.answers l reg day ws budget room);
  unchanged = d.unchanged;
  written = d.written;
  unread = d.unread;
}

-- ---- the third demand

pub reordered_fields : {s : Setting} {reg : List ℕ} {c : Content} {xs ys : List Call} → Reordered s reg c xs ys → Reordered s reg c xs ys
reordered_fields r = record {
  held_alike = r.held_alike;
  replies_alike = r.replies_alike;
}

pub replaced_fields : {s : Setting} {reg : List ℕ} {c : Content} {xs : List Call} → Replaced s reg c xs → Replaced s reg c xs
replaced_fields r = record {
  no_batch = r.no_batch;
  same_register = r.same_register;
  same_content = r.same_content;
  same_answers = r.same_answers;
  same_grants = r.same_grants;
  same_days = r.same_days;
  same_words = r.same_words;
  same_refusals = r.same_refusals;
}

pub demand3_fields : {s : Setting} {reg : List ℕ} {c : Content} {xs : List Call} → Demand s reg c xs → Demand s reg c xs
demand3_fields d = record {
  content = d.content;
  answered = d.answered;
  desk = d.desk;
  rechecks = d.rechecks;
  size = d.size;
  words = d.words;
  day = d.day;
  mode = d.mode;
  reordered = λ day ys o p n n'. reordered_fields (d.reordered day ys o p n n');
  replaced = replaced_fields d.replaced;
  reordered_singles = λ day ys o p n n'. reordered_fields (d.reordered_singles day ys o p n n');
}

pub desk_demand3_fields : {s : Setting} {reg : List ℕ} {c : Content} {xs : List DeskCall} → DeskDemand s reg c xs → DeskDemand s reg c xs
desk_demand3_fields d = record {
  same_register = d.same_register;
  answered = d.answered;
  demand = demand3_fields d.demand;
  recorded = d.recorded;
  reordered = λ day ys o p n n'. reordered_fields (d.reordered day ys o p n n');
  reordered_singles = λ day ys o p n n'. reordered_fields (d.reordered_singles day ys o p n n');
}

-- ---- with marks

pub amounts_fields : {X : Type 0} {b : Behaviour X} {left : List X → List ℕ} {reg list : List ℕ} {xs : List (TrialCall X)} → Amounts b left reg list xs →
    Amounts b left reg list xs
amounts_fields a = record {
  same = a.same;
  marks = a.marks;
  answered = a.answered;
  later = a.later;
}

pub holds_after_fields : {s : Setting} {reg : List ℕ} {c : Content} {calls : List Call} {end : List ℕ} → HoldsAfter s reg c calls end →
    HoldsAfter s reg c calls end
holds_after_fields h = record {
  content = h.content;
  rechecks = h.rechecks;
  words = h.words;
  day = h.day;
  later = h.later;
}

pub holds_alike_fields : {reg reg' : List ℕ} → HoldsAlike reg reg' → HoldsAlike reg reg'
holds_alike_fields h = record {
  content = h.content;
  content' = h.content';
  read = h.read;
  read' = h.read';
  held = h.held;
  later = h.later;
}

pub trial_demand3_fields : {s : Setting} {reg list : List ℕ} {c : Content} {xs : List (TrialCall Call)} → TrialDemand s reg list c xs →
    TrialDemand s reg list c xs
trial_demand3_fields d = record {
  amounts = amounts_fields d.amounts;
  demand = demand3_fields d.demand;
  holds = holds_after_fields d.holds;
  reordered = λ day ys o p n n'. holds_alike_fields (d.reordered day ys o p n n');
  reordered_singles = λ day ys o p n n'. holds_alike_fields (d.reordered_singles day ys o p n n');
}

pub desk_trial_demand3_fields : {s : Setting} {reg list : List ℕ} {c : Content} {xs : List (TrialCall DeskCall)} → DeskTrialDemand s reg list c xs →
    DeskTrialDemand s reg list c xs
desk_trial_demand3_fields d = record {
  amounts = amounts_fields d.amounts;
  demand = desk_demand3_fields d.demand;
  holds = holds_after_fields d.holds;
  reordered = λ day ys o p n n'. holds_alike_fields (d.reordered day ys o p n n');
  reordered_singles = λ day ys o p n n'. holds_alike_fields (d.reordered_singles day ys o p n n');
}

pub unread_fields : Unread → Unread
unread_fields t = record {
  contents = t.contents;
  checks = t.checks;
  says = t.says;
  requests = t.requests;
  batches = t.batches;
  reads = t.reads;
  marks = t.marks;
  returns = t.returns;
  opens = t.opens;
  leaves = t.leaves;
  leaves_return = t.leaves_return;
  later = t.later;
}

-- ---- the theorems beside them

pub leaving_fields : Leaving → Leaving
leaving_fields t = record {
  opened = λ h. leaves_fields (t.opened h);
  said = λ h. leaves_fields (t.said h);
  said_again = λ h. leaves_fields (t.said_again h);
  granted = λ h. leaves_fields (t.granted h);
  batched = λ k ks i h u. leaves_fields (t.batched k ks i h u);
  opened_marks = t.opened_marks;
  opened_list = t.opened_list;
  marked = λ h. leaves_marks_fields (t.marked h);
  returned = λ h. let (r, m) = t.returned h in (restores_fields r, leaves_marks_fields m);
  returned_whole = t.returned_whole;
}

pub stated_right_fields : StatedRight → StatedRight
stated_right_fields t = record {
  listed = t.listed;
  right = t.right;
}

pub verdicts_fields : Verdicts → Verdicts
verdicts_fields t = record {
  checks = t.checks;
  requests = t.requests;
  says = t.says;
  batches = t.batches;
}

pub lapses_fields : Lapses → Lapses
lapses_fields t = record {
  stays = t.stays;
  outside = t.outside;
  unheld = t.unheld;
  passed = t.passed;
  passed_22 = t.passed_22;
}

pub batches_fields : Batches → Batches
batches_fields t = record {
  listed = t.listed;
  succeeds = t.succeeds;
  leaves = t.leaves;
  fails = t.fails;
  unchanged = t.unchanged;
  too_many = t.too_many;
  empty = t.empty;
  empty_leaves = t.empty_leaves;
}

pub tested_once_fields : TestedOnce → TestedOnce
tested_once_fields t = record {
  same_verdict = t.same_verdict;
  same_answer = t.same_answer;
}

pub writing_step_fields : WritingStep → WritingStep
writing_step_fields t = record {
  form = t.form;
  right = t.right;
  counted = t.counted;
}

pub laws_fields : Laws → Laws
laws_fields t = record {
  reads = t.reads;
  malformed_at = t.malformed_at;
  one_binder = t.one_binder;
  all_bound = t.all_bound;
  first_unbound = t.first_unbound;
  kept = t.kept;
  named_by_count = t.named_by_count;
  well_formed = t.well_formed;
  document_01 = t.document_01;
  same_words = t.same_words;
  back = t.back;
  closed = t.closed;
  back_words = t.back_words;
  checked = t.checked;
}

pub step_laws_fields : SimplifyLaws → SimplifyLaws
step_laws_fields t = record {
  finds_first = t.finds_first;
  finds_none = t.finds_none;
  one_first = t.one_first;
  settles = t.settles;
  stands = t.stands;
  stepped_at = t.stepped_at;
  gives = t.gives;
  refuses = t.refuses;
  same_type = t.same_type;
  signs = t.signs;
  well_formed = t.well_formed;
  checks = t.checks;
  grants = t.grants;
}

-- Histories with marks: "The history then is that of the calls before the mark was set." A list of calls on a trial
-- register, with marks that are set and returned to, amounts to a list of calls without them. What it amounts to is
-- said of calls of any kind X, so that it is said once: here these are says, requests and batches, and in `extract` also
-- extracts.
use Rattle.std.specs.Prelude.{ℕ, ◌+◌, ◌≤◌, ◌≡◌, ◌⊎◌, ◌≢◌, true, cond, length}
use mathlib.Core.List.{List, [], ◌∷◌, ◌++◌, map, Memᴰ, Permᴰ}
use Rattle.std.proofs.Math.Option.{Option, some, none}
use Rattle.logic.specs.Limits.{least_workspace}
use Rattle.logic.specs.Refusals.{no_mark, marks_full}
use Rattle.logic.specs.Result.{Result, ok, require, known, without_value}
use Rattle.register.specs.Records.{Record, Ask, Content, trial, release, used, latest, register_content, statements, written}
use Rattle.register.specs.Calls.{open_call, new_content, check_call, permission}
use Rattle.register.specs.Marks.{Marked, Mark, standing, up_to, with_mark, room_for_mark, mark_list, marks_of, spot_of}
use Rattle.register.specs.Marks.{mark_call, after_mark, return_call, after_return, marks_after_return, cleared}
use Rattle.register.specs.History.{Setting, lent, Call, Reply, reply, after, run, Later, replies, read_off, grants, added_words, days, last_of}
use Rattle.register.specs.History.{OneDay, NoRefusal, singles, Demand}
use Rattle.register.specs.Unread.{SameFront}

-- a call, the setting of a mark, or a return to one
pub data TrialCall (X : Type 0) : Type 0 where
  made : X → TrialCall X
  mark : (number : ℕ) → TrialCall X
  return_to : (number : ℕ) → TrialCall X

-- what calls of a kind answer, and the register that each leaves
pub record Behaviour (X : Type 0) : Type 0 where
  pub reply : List ℕ → X → Reply
  pub after : List ℕ → X → List ℕ

-- says, requests and batches
abbrev pub calls_in : Setting → Behaviour Call
calls_in s = record { reply = reply s; after = after s }

-- "Marks are handed in and back beside the register, as the last call left them": the two lists that are kept
pub record TrialState : Type 0 where
  pub register : List ℕ
  pub marks : List ℕ

-- what a call answers
pub data TrialReply : Type 0 where
  replied : Reply → TrialReply
  marked : Result (Unit {0}) → TrialReply
  returned : Result (Unit {0}) → TrialReply

-- ---- a list of them, each on the two lists as the one before left them

module _ {X : Type 0} (b : Behaviour X) where
  abbrev pub trial_reply : TrialState → TrialCall X → TrialReply
  trial_reply d (made x) = replied (b.reply d.register x)
  trial_reply d (mark n) = marked (without_value (mark_call d.register d.marks n))
  trial_reply d (return_to n) = returned (without_value (return_call d.register d.marks n))

  -- only mark and return look at the list of marks
  abbrev pub trial_after : TrialState → TrialCall X → TrialState
  trial_after d (made x) = record { register = b.after d.register x; marks = d.marks }
  trial_after d (mark n) = record { register = d.register; marks = after_mark (mark_call d.register d.marks n) d.marks }
  trial_after d (return_to n) = record {
    register = after_return (return_call d.register d.marks n) d.register;
    marks = marks_after_return (return_call d.register d.marks n) d.marks;
  }

  unfoldable pub trial_run : TrialState → List (TrialCall X) → TrialState
  trial_run d [] = d
  trial_run d (x ∷ xs) = trial_run (trial_after d x) xs

  unfoldable pub trial_answers : TrialState → List (TrialCall X) → List TrialReply
  trial_answers d [] = []
  trial_answers d (x ∷ xs) = trial_reply d x ∷ trial_answers (trial_after d x) xs

-- ---- what a list amounts to, read off it alone

-- the calls so far, and for each mark that stands the calls before it was set
pub record Trail (X : Type 0) : Type 0 where
  pub calls : List X
  pub marks : List (Marked (List X))

module _ {X : Type 0} where
  -- "Returning .. removes marks set after it": the calls are those before the mark was set; an unknown one changes
  -- nothing
  abbrev pub back_to : Trail X → ℕ → Option (List X) → Trail X
  back_to t n none = t
  back_to t n (some before) = record { calls = before; marks = up_to n t.marks }

  abbrev pub follow : Trail X → TrialCall X → Trail X
  follow t (made x) = record { calls = t.calls ++ (x ∷ []); marks = t.marks }
  follow t (mark n) = record { calls = t.calls; marks = cond (room_for_mark n t.marks) (with_mark n t.calls t.marks) t.marks }
  follow t (return_to n) = back_to t n (standing n t.marks)

  unfoldable pub trail : Trail X → List (TrialCall X) → Trail X
  trail t [] = t
  trail t (x ∷ xs) = trail (follow t x) xs

  -- "Opening leaves none standing"
  abbrev pub start : Trail X
  start = record { calls = []; marks = [] }

  -- the calls that a list on a trial register amounts to
  abbrev pub amounts_to : List (TrialCall X) → List X
  amounts_to xs = (trail start xs).calls

-- a mark as it stands in the list, where `left` gives the register that calls leave
abbrev pub set_after : {X : Type 0} → (left : List X → List ℕ) → Marked (List X) → Mark
set_after left m = record { number = m.number; kept = spot_of (left m.kept) }

module _ {X : Type 0} (b : Behaviour X) (left : List X → List ℕ) where
  -- the answers: those of the calls that the list so far amounts to; a mark is set unless it is a ninth, and a return
  -- succeeds exactly if the mark stands
  abbrev pub reply_along : Trail X → TrialCall X → TrialReply
  reply_along t (made x) = replied (b.reply (left t.calls) x)
  reply_along t (mark n) = marked (require (room_for_mark n t.marks) marks_full 0)
  reply_along t (return_to n) = returned (without_value (known no_mark 0 (standing n t.marks)))

  unfoldable pub answers_along : Trail X → List (TrialCall X) → List TrialReply
  answers_along t [] = []
  answers_along t (x ∷ xs) = reply_along t x ∷ answers_along (follow t x) xs

-- the two lists at the end, from a register and a list of marks
abbrev pub trial_end : {X : Type 0} → Behaviour X → (reg list : List ℕ) → List (TrialCall X) → TrialState
trial_end b reg list xs = trial_run b (record { register = reg; marks = list }) xs

-- a list of calls on the register reg, just opened for trial, and on a list of marks of which none stands: it leaves and
-- answers what the calls do that it amounts to
pub record Amounts {X : Type 0} (b : Behaviour X) (left : List X → List ℕ) (reg list : List ℕ) (xs : List (TrialCall X)) : Type 0 where
  -- the register at the end is the one that these calls leave, up to the words used
  pub same : SameFront (trial_end b reg list xs).register (left (amounts_to xs))
  -- each mark that stands keeps what the calls before it was set left
  pub marks : marks_of (trial_end b reg list xs).marks ≡ some (map (set_after left) (trail start xs).marks)
  -- the answers are those of the calls so far
  pub answered : trial_answers b (record { register = reg; marks = list }) xs ≡ answers_along b left start xs
  -- later ones, marks and returns too, get the answers that they get behind these calls
  pub later : (ys : List (TrialCall X)) → trial_answers b (trial_end b reg list xs) ys ≡
      trial_answers b (record { register = left (amounts_to xs); marks = (trial_end b reg list xs).marks }) ys

-- ---- the third demand with marks

-- the register `end` holds what calls leave of reg, whatever words stand past those used: its content is read off the
-- calls, their logged proofs check on it, the words used are their sum, the latest day is that of the last that
-- succeeded, and all later calls get the answers that they get behind the calls
pub record HoldsAfter (s : Setting) (reg : List ℕ) (c : Content) (calls : List Call) (end : List ℕ) : Type 0 where
  pub content : register_content end ≡ ok (read_off s (length reg) c calls)
  pub rechecks : (k : Ask) → Memᴰ k (grants s reg calls) → (w : ℕ) → least_workspace ≤ w →
      check_call (lent s w) end k.day k.proof ≡ ok (permission k)
  pub words : used end ≡ used reg + added_words s reg calls
  pub day : latest end ≡ last_of (latest reg) (days s reg calls)
  pub later : (later : List Later) → replies end later ≡ replies (run s reg calls) later

-- two registers hold the same statements, each with its days and as often, and later calls get the same answers
pub record HoldsAlike (reg reg' : List ℕ) : Type 0 where
  pub content : Content
  pub content' : Content
  pub read : register_content reg ≡ ok content
  pub read' : register_content reg' ≡ ok content'
  pub held : Permᴰ (statements content.records) (statements content'.records)
  pub later : (later : List Later) → replies reg later ≡ replies reg' later

-- for one list: reg is the trial register just opened, c its content, and in `list` no mark stands
pub record TrialDemand (s : Setting) (reg list : List ℕ) (c : Content) (xs : List (TrialCall Call)) : Type 0 where
  pub amounts : Amounts (calls_in s) (run s reg) reg list xs
  -- the third demand holds, whole, of the calls that it amounts to, and they are what the register at the end holds
  pub demand : Demand s reg c (amounts_to xs)
  pub holds : HoldsAfter s reg c (amounts_to xs) (trial_end (calls_in s) reg list xs).register
  -- another list that amounts to the same calls of one day in another order, neither with a refusal, leaves a register
  -- that holds the same; also where these have the same calls only once batches are replaced
  pub reordered : (day : ℕ) (ys : List (TrialCall Call)) → OneDay day (amounts_to xs) → Permᴰ (amounts_to xs) (amounts_to ys) →
      NoRefusal s reg (amounts_to xs) → NoRefusal s reg (amounts_to ys) →
      HoldsAlike (trial_end (calls_in s) reg list xs).register (trial_end (calls_in s) reg list ys).register
  pub reordered_singles : (day : ℕ) (ys : List (TrialCall Call)) → OneDay day (singles s reg (amounts_to xs)) →
      Permᴰ (singles s reg (amounts_to xs)) (singles s reg (amounts_to ys)) → NoRefusal s reg (amounts_to xs) → NoRefusal s reg (amounts_to ys) →
      HoldsAlike (trial_end (calls_in s) reg list xs).register (trial_end (calls_in s) reg list ys).register

-- for every opening of a trial register that succeeded, with a list that can hold marks, and every list of calls after
-- it
abbrev pub TrialDemand3 : Type 0
TrialDemand3 = (s : Setting) (w : ℕ) (given list rule_words : List ℕ) (rules : List Record) (xs : List (TrialCall Call)) →
    open_call (lent s w) given trial rule_words ≡ ok rules → length list ≡ mark_list →
    let c = new_content trial rules in
    TrialDemand s (written given c) (cleared list) c xs

-- ---- the sentence itself

module _ {X : Type 0} where
  -- a list in which the mark n is not set
  unfoldable pub NeverSet : ℕ → List (TrialCall X) → Type 0
  NeverSet n [] = Unit {0}
  NeverSet n (made x ∷ xs) = NeverSet n xs
  NeverSet n (mark k ∷ xs) = (k ≢ n) × NeverSet n xs
  NeverSet n (return_to k ∷ xs) = NeverSet n xs

  -- the calls of a list, without marks and returns
  unfoldable pub calls_made : List (TrialCall X) → List X
  calls_made [] = []
  calls_made (made x ∷ xs) = x ∷ calls_made xs
  calls_made (mark n ∷ xs) = calls_made xs
  calls_made (return_to n ∷ xs) = calls_made xs

-- the mark n is set behind xs, where it is no ninth, and not again in ys. If it still stands, then after a return to it
-- "The history then is that of the calls before the mark was set"
abbrev pub BackToMark : Type 0 → Type 0
BackToMark X = (n : ℕ) (xs ys : List (TrialCall X)) (before : List X) → room_for_mark n (trail start xs).marks ≡ true → NeverSet n ys →
    standing n (trail start (xs ++ (mark n ∷ ys))).marks ≡ some before →
    (before ≡ amounts_to xs) × (amounts_to (xs ++ (mark n ∷ (ys ++ (return_to n ∷ [])))) ≡ amounts_to xs)

-- ---- where no mark can be set, on a release register or beside a list of another length, a list amounts to its calls

abbrev pub NoMarkLaw : Type 0
NoMarkLaw = (s : Setting) (w : ℕ) (given : List ℕ) (mode : ℕ) (list rule_words : List ℕ) (rules : List Record) (xs : List (TrialCall Call)) →
    open_call (lent s w) given mode rule_words ≡ ok rules → (mode ≡ release) ⊎ (length list ≢ mark_list) →
    let reg = written given (new_content mode rules) in
    trial_end (calls_in s) reg list xs ≡ record { register = run s reg (calls_made xs); marks = list }

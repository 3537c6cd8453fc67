-- What the code between the children of a node is asked and what it ensures.
use Rattle.std.specs.Prelude.{ℕ, ◌+◌, ◌-◌, ◌≤◌, ◌≡◌, List, ◌++◌, length, get_or}
use Rattle.logic.specs.Limits.{most_words, most_type_words}
use Rattle.logic.specs.Result.{Result, ok, refused, ◌>>◌}
use Rattle.logic.specs.Term.{Op, saysO, piO, lamO, appO, retO, bindO, Term, Says, op_word, size}
use Rattle.words.specs.Place.{At, written_at}
use Rattle.words.specs.Typed.{TypeAt}
use Rattle.rules.specs.Rule.{ready}
use Rattle.rules.specs.Scope.{tail, binder_entry}
use Rattle.rules.specs.Form.{front_words, level_words}
use Rattle.std.specs.Prelude.{Result as Answer}
use Rattle.logic.specs.Answer.{answer as told}
use Rattle.logic.specs.declared.refusal.Refusal.{Refusal}
use Rattle.rules.specs.declared.enter.Entered.{Entered}

-- the first child a of a node o stands in the proof, and its type A at the front of the workspace
pub record Enters (proof ws : List ℕ) (at next n : ℕ) (o : Op) (a A : Term) : Type 0 where
  pub head : get_or proof at 0 ≡ op_word o
  pub here : At proof (at + 1) a
  pub next_is : next ≡ at + 1 + size a
  pub type : TypeAt ws 0 A
  pub type_words : n ≡ size A

pub record NodeEnterable (proof ws : List ℕ) (used at next n : ℕ) : Type 0 where
  pub o : Op
  pub a : Term
  pub A : Term
  pub enters : Enters proof ws at next n o a A
  pub small : n ≤ most_type_words
  pub short : length proof ≤ most_words
  pub room : used + level_words + front_words ≤ length ws

-- the words xs were written before the `used` words kept at the end, and r are kept now
pub record Kept (xs : List ℕ) (used : ℕ) (old new : List ℕ) (r : ℕ) : Type 0 where
  pub count : r ≡ used + length xs
  pub words : new ≡ written_at old (length old - (used + length xs)) xs

-- the type of a Bind's proof stands at the front of the workspace
pub record Keepable (ws : List ℕ) (used n : ℕ) : Type 0 where
  pub p : Term
  pub q : Term
  pub type : TypeAt ws 0 (Says p q)
  pub type_words : n ≡ size (Says p q)
  pub small : n ≤ most_type_words
  pub room : used + level_words + front_words ≤ length ws

-- the words at the front that are kept: an App's function's type
abbrev pub keep_of : Op → ℕ → ℕ
keep_of saysO n = 0
keep_of piO n = 0
keep_of lamO n = 0
keep_of appO n = n
keep_of retO n = 0
keep_of bindO n = 0

-- the test passed: the entry of the binder, if any, is kept at the end, before what
-- was; or it failed, and nothing was written
abbrev pub EntryKept : Result (Unit {0}) → Op → ℕ → (a A : Term) → (used : ℕ) → (old new : List ℕ) → Type 0
EntryKept (ok _) o at a A used old new = (tail (used + length (binder_entry o at a A)) new ≡ binder_entry o at a A ++ tail used old) × TypeAt new 0 A
EntryKept (refused m p) o at a A used old new = new ≡ old

pub record Entering (o : Op) (at : ℕ) (a A : Term) (n used : ℕ) (old new : List ℕ) (r : Answer Entered Refusal) : Type 0 where
  pub answer : told r ≡ (ready o at A >> ok (record { keep = keep_of o n; used = used + length (binder_entry o at a A) }))
  pub kept : EntryKept (ready o at A) o at a A used old new

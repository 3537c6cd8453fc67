-- What a batch answers and leaves, and what is asked before it writes.
use Rattle.std.specs.Prelude.{ℕ, ◌<◌, ◌≡◌, List}
use Rattle.logic.specs.Limits.{payloads, most_operations}
use Rattle.register.specs.Records.{Ask}
use Rattle.register.specs.Calls.{Lent, entry}
use Rattle.register.specs.Batch.{items, batch_call, batch_leaves, GrantedInTurn}
use Rattle.records.specs.Answers.{Room}
use Rattle.std.specs.Prelude.{Result as Answer}
use Rattle.batch_tests.specs.declared.ItemRefusal.{ItemRefusal}
use Rattle.batch_tests.specs.Answers.{batched_answer}

-- the answer, and the register afterwards
pub record BatchedAs (l : Lent) (old : List ℕ) (day : ℕ) (words new : List ℕ) (r : Answer (Unit {0}) ItemRefusal) : Type 0 where
  pub answer : batched_answer r ≡ batch_call l old day words
  pub register : new ≡ batch_leaves l old day words

-- the items are granted in turn
pub record AllGranted (reg : List ℕ) (day : ℕ) (words : List ℕ) : Type 0 where
  pub lent : Lent
  pub new : List ℕ
  pub granted : GrantedInTurn lent reg (items day words) new

-- numbers in range, and room for the grant and its receipt
abbrev pub GrantRoom : List ℕ → Ask → Type 0
GrantRoom reg k = (k.operation < most_operations) × (k.extract < payloads) × (k.delivery < payloads) × Room reg (entry k)

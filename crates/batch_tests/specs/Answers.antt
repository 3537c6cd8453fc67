-- What the tests of a batch are asked, and answer.
use Rattle.std.specs.Prelude.{ℕ, ◌≤◌, ◌≡◌, List, length, Ok, Err}
use Rattle.std.specs.Prelude.{Result as Answer}
use Rattle.logic.specs.Answer.{reason_number}
use Rattle.logic.specs.Limits.{least_workspace, most_register, most_operations}
use Rattle.logic.specs.Result.{ok}
use Rattle.logic.specs.Term.{Term}
use Rattle.typing.specs.Check.{ConstantsOf}
use Rattle.register.specs.Records.{Content, register_content}
use Rattle.register.specs.Batch.{Batched, all_granted, refused_at}
use Rattle.search.specs.declared.view.View.{View}
use Rattle.search.specs.Sources.{IsView}
use Rattle.buckets.specs.Buckets.{Buckets}
use Rattle.batch_tests.specs.declared.ItemRefusal.{ItemRefusal}

-- index, number and place of each case
abbrev pub batched_answer : Answer (Unit {0}) ItemRefusal → Batched
batched_answer (Ok _) = all_granted
batched_answer (Err b) = refused_at b.index (reason_number b.refusal.reason) b.refusal.place

-- the shared tests passed
pub record TestableItems (sig : List ℕ) (n : ℕ) (table : List ℕ) (v : View) (buckets ws : List ℕ) : Type 0 where
  pub content : Content
  pub reads : register_content v.source.list.now ≡ ok content
  pub view : IsView v v.source.list.now
  pub bucketed : Buckets v.source.span v.source.list.now buckets
  pub not_longer : length v.source.list.now ≤ most_register
  pub Σ : List Term
  pub constants : ConstantsOf sig table Σ
  pub operations : n ≤ most_operations
  pub workspace : least_workspace ≤ length ws

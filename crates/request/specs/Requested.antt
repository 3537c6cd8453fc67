-- What a request answers and leaves, by the definitions of `register`; and what its own tests are asked.
use Rattle.std.specs.Prelude.{ℕ, ◌+◌, ◌≤◌, ◌<◌, ◌≡◌, List, length}
use Rattle.logic.specs.Limits.{payloads, least_workspace, most_words, most_operations}
use Rattle.logic.specs.Result.{ok}
use Rattle.logic.specs.Term.{Term}
use Rattle.words.specs.Place.{Is}
use Rattle.std.specs.Prelude.{Result as Answer}
use Rattle.logic.specs.Answer.{answer as told}
use Rattle.logic.specs.declared.refusal.Refusal.{Refusal}
use Rattle.typing.specs.Check.{ConstantsOf}
use Rattle.register.specs.Records.{Content, Ask, register_content, used, latest}
use Rattle.register.specs.Calls.{Lent, request_call, after_request}
use Rattle.register.specs.Batch.{day_if, granted_words}
use Rattle.register.specs.BatchTests.{AskedBefore}
use Rattle.search.specs.declared.view.View.{View}
use Rattle.search.specs.Sources.{register_span}
use Rattle.buckets.specs.Buckets.{Buckets}

-- the answer, and the register afterwards
pub record RequestedAs (l : Lent) (old : List ℕ) (k : Ask) (new : List ℕ) (r : Answer (Unit {0}) Refusal) : Type 0 where
  pub answer : told r ≡ request_call l old k
  pub register : new ≡ after_request (request_call l old k) old k

-- what the code looks at of a register that is not broken, behind the requests ks of a day, which stand as items of a
-- list and fit behind its words: the words used and the latest day are theirs
pub record Seen (v : View) (asked : List ℕ) (day : ℕ) (c : Content) (ks : List Ask) : Type 0 where
  pub reads : register_content v.source.list.now ≡ ok c
  pub span : v.source.span ≡ register_span v.source.list.now
  pub size : v.size ≡ length v.source.list.now
  pub used_is : v.used ≡ used v.source.list.now + granted_words ks
  pub latest_is : v.latest ≡ day_if ks (latest v.source.list.now) day
  pub before : AskedBefore asked ks
  pub fits : used v.source.list.now + granted_words ks ≤ length v.source.list.now

-- a proof whose type is the first n words of the workspace, and a register that is not broken
pub record Provable (v : View) (buckets asked : List ℕ) (k : Ask) (ws : List ℕ) (n : ℕ) : Type 0 where
  pub content : Content
  pub requests : List Ask
  pub seen : Seen v asked k.day content requests
  pub bucketed : Buckets v.source.span v.source.list.now buckets
  pub term : Term
  pub is : Is k.proof term
  pub operation : k.operation < most_operations
  pub extract : k.extract < payloads
  pub inside : n ≤ length ws
  pub short : length k.proof ≤ most_words

-- an accepted signature, a workspace that is not short, and such a register
pub record Askable (sig : List ℕ) (n : ℕ) (table : List ℕ) (v : View) (buckets asked : List ℕ) (day : ℕ) (ws : List ℕ) : Type 0 where
  pub content : Content
  pub requests : List Ask
  pub seen : Seen v asked day content requests
  pub bucketed : Buckets v.source.span v.source.list.now buckets
  pub Σ : List Term
  pub constants : ConstantsOf sig table Σ
  pub operations : n ≤ most_operations
  pub workspace : least_workspace ≤ length ws

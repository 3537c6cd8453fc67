-- What a host in C gets, by literals.
use Rattle.std.specs.Prelude.{ℕ, ◌+◌, ◌*◌, ◌≡◌, true, false, List, length}
use Rattle.logic.specs.Result.{ok, refused}
use Rattle.register.specs.Batch.{all_granted, refused_at}
use Rattle.reduction.specs.Simplify.{Simplified}
use Rattle.host.specs.Answers.{code_of, added_of, batch_code_of, index_of, written_of, count_of, steps_of}

pub record PaperHost : Type 1 where
  -- "one 64-bit number, the refusal number times 4294967296 plus the place"; "Success answers 0 at place 0"
  pub refusal : (X : Type 0) (m p : ℕ) → code_of {X = X} (refused m p) ≡ m * 4294967296 + p
  pub success : {X : Type 0} (x : X) → code_of (ok x) ≡ 0
  pub batch_refusal : (i m p : ℕ) → batch_code_of (refused_at i m p) ≡ m * 4294967296 + p
  pub batch_success : batch_code_of all_granted ≡ 0
  -- what is told beside it, which is 0 where refused: whether a record was added, how many words were written, how many
  -- variables stand free and how many steps were taken; of a batch the index of the item refused, and 0 where it succeeds
  pub added : added_of (ok true) ≡ 1
  pub held : added_of (ok false) ≡ 0
  pub not_said : (m p : ℕ) → added_of (refused m p) ≡ 0
  pub written : (xs : List ℕ) → written_of (ok xs) ≡ length xs
  pub not_written : (m p : ℕ) → written_of (refused m p) ≡ 0
  pub counted : (n : ℕ) → count_of (ok n) ≡ n
  pub not_counted : (m p : ℕ) → count_of (refused m p) ≡ 0
  pub stepped : (s : Simplified) → steps_of (ok s) ≡ s.steps
  pub not_stepped : (m p : ℕ) → steps_of (refused m p) ≡ 0
  pub item : (i m p : ℕ) → index_of (refused_at i m p) ≡ i
  pub no_item : index_of all_granted ≡ 0

-- Words past the used count are unread: no answer depends on them, nor does what a call leaves before them. So a return
-- "makes later records unread".
use Rattle.std.specs.Prelude.{ℕ, ◌≤◌, ◌≡◌, List, ◌++◌, length}
use Rattle.register.specs.Records.{Statement, Ask, header, used, register_content}
use Rattle.register.specs.Calls.{Lent, check_call, say_call, request_call, open_call, read_call}
use Rattle.register.specs.Batch.{batch_call}
use Rattle.register.specs.Marks.{mark_call, return_call, after_return}
use Rattle.register.specs.History.{Setting, Call, after, Later, replies}

-- registers of one length with the same words in front: the header and all words up to the used count are among these
pub record SameFront (reg reg' : List ℕ) : Type 0 where
  pub front : List ℕ
  pub behind : List ℕ
  pub behind' : List ℕ
  pub words : reg ≡ front ++ behind
  pub words' : reg' ≡ front ++ behind'
  pub whole_header : header ≤ length front
  pub all_used : used front ≤ length front
  pub as_long : length behind ≡ length behind'

-- broken or not, they get the same answers
pub record Unread : Type 0 where
  pub contents : {reg reg' : List ℕ} → SameFront reg reg' → register_content reg ≡ register_content reg'
  pub checks : {reg reg' : List ℕ} (l : Lent) (day : ℕ) (ws : List ℕ) → SameFront reg reg' → check_call l reg day ws ≡ check_call l reg' day ws
  pub says : {reg reg' : List ℕ} (l : Lent) (day : ℕ) (st : Statement) → SameFront reg reg' → say_call l reg day st ≡ say_call l reg' day st
  pub requests : {reg reg' : List ℕ} (l : Lent) (k : Ask) → SameFront reg reg' → request_call l reg k ≡ request_call l reg' k
  pub batches : {reg reg' : List ℕ} (l : Lent) (day : ℕ) (ws : List ℕ) → SameFront reg reg' → batch_call l reg day ws ≡ batch_call l reg' day ws
  pub reads : {reg reg' : List ℕ} (k : ℕ) → SameFront reg reg' → read_call reg k ≡ read_call reg' k
  pub marks : {reg reg' : List ℕ} (list : List ℕ) (n : ℕ) → SameFront reg reg' → mark_call reg list n ≡ mark_call reg' list n
  pub returns : {reg reg' : List ℕ} (list : List ℕ) (n : ℕ) → SameFront reg reg' → return_call reg list n ≡ return_call reg' list n
  -- of a register that is opened only the length counts
  pub opens : (reg reg' : List ℕ) (l : Lent) (mode : ℕ) (rules : List ℕ) → length reg ≡ length reg' →
      open_call l reg mode rules ≡ open_call l reg' mode rules
  -- what a call leaves agrees again up to the new used count
  pub leaves : {reg reg' : List ℕ} (s : Setting) (x : Call) → SameFront reg reg' → SameFront (after s reg x) (after s reg' x)
  pub leaves_return : {reg reg' : List ℕ} (list : List ℕ) (n : ℕ) → SameFront reg reg' →
      SameFront (after_return (return_call reg list n) reg) (after_return (return_call reg' list n) reg')
  -- and so do lists of calls, each on the register as the one before left it
  pub later : {reg reg' : List ℕ} (later : List Later) → SameFront reg reg' → replies reg later ≡ replies reg' later

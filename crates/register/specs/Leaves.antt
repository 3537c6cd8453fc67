-- What a call that succeeds leaves in the register, without the definitions that write it. With the first demand, by
-- which a refused call leaves the register as it was: every word that a call leaves.
use Rattle.std.specs.Prelude.{ℕ, ◌+◌, ◌*◌, ◌≡◌, true, false, List, [], ◌∷◌, ◌++◌, map, length, drop}
use Rattle.std.proofs.Math.Option.{some}
use Rattle.register.specs.Records.{Record, Statement, Ask, Content, Unbroken, used}
use Rattle.register.specs.Calls.{Lent, say_entry, entry, open_call, after_open, say_call, after_say, request_call, after_request}
use Rattle.register.specs.Batch.{ItemsOf, batch_leaves, all_entries}
use Rattle.register.specs.Marks.{Mark, Spot, MarkList, Returned, returned_to, mark_call, after_mark, return_call, after_return}
use Rattle.register.specs.Marks.{marks_after_return, marks_after_open}
use Rattle.register.specs.Succeeds.{Openable, Sayable, Grantable, Batchable, Markable, Returnable}

-- the register has the mode, the latest day and the records, and "words past the new used count are unchanged"
pub record Leaves (old : List ℕ) (mode day : ℕ) (rs : List Record) (new : List ℕ) : Type 0 where
  pub unbroken : Unbroken new (record { mode = mode; latest = day; records = rs })
  pub size : length new ≡ length old
  pub behind : drop (used new) new ≡ drop (used new) old

-- a list of marks has these and no others, and the words past them are unchanged
pub record LeavesMarks (old : List ℕ) (ms : List Mark) (new : List ℕ) : Type 0 where
  pub listed : MarkList new ms
  pub behind : drop (1 + 4 * length ms) new ≡ drop (1 + 4 * length ms) old

-- a register with the content c is brought back to a spot: "later records" are "unread", and no word behind the header
-- is changed
pub record Restores (old : List ℕ) (c : Content) (m : Spot) (new : List ℕ) : Type 0 where
  pub unbroken : Unbroken new (returned_to c m)
  pub size : length new ≡ length old
  pub behind : drop 4 new ≡ drop 4 old

pub record Leaving : Type 0 where
  -- open "writes it anew", of the mode that it is given and with the latest day 0
  pub opened : {l : Lent} {reg : List ℕ} {mode : ℕ} {rules : List ℕ} {rs : List Record} → Openable l reg mode rules rs →
      Leaves reg mode 0 rs (after_open (open_call l reg mode rules) reg mode)
  -- a say adds its statement behind the records there, "unless held"; either way it sets the latest day. The mode,
  -- "fixed at opening", stays, here and below
  pub said : {l : Lent} {reg : List ℕ} {day : ℕ} {st : Statement} (h : Sayable l reg day st true) →
      Leaves reg h.content.mode day (h.content.records ++ say_entry st) (after_say (say_call l reg day st) reg day st)
  pub said_again : {l : Lent} {reg : List ℕ} {day : ℕ} {st : Statement} (h : Sayable l reg day st false) →
      Leaves reg h.content.mode day h.content.records (after_say (say_call l reg day st) reg day st)
  -- a request adds grant and receipt, and sets the latest day
  pub granted : {l : Lent} {reg : List ℕ} {k : Ask} (h : Grantable l reg k) →
      Leaves reg h.proof.content.mode k.day (h.proof.content.records ++ entry k) (after_request (request_call l reg k) reg k)
  -- a batch adds the grant and the receipt of each request in turn, and sets the latest day; that an empty one leaves
  -- every word is said in Batches
  pub batched : {l : Lent} {reg : List ℕ} {day : ℕ} {ws : List ℕ} {c : Content} (k : Ask) (ks : List Ask) → ItemsOf day ws (map some (k ∷ ks)) →
      Batchable l reg day (map some (k ∷ ks)) → Unbroken reg c →
      Leaves reg c.mode day (c.records ++ all_entries (k ∷ ks)) (batch_leaves l reg day ws)
  -- "Opening leaves none standing", in a list of any length
  pub opened_marks : {l : Lent} {reg : List ℕ} {mode : ℕ} {rules : List ℕ} {rs : List Record} (list : List ℕ) → Openable l reg mode rules rs →
      ((ms : List Mark) → MarkList (marks_after_open (open_call l reg mode rules) list) ms → ms ≡ []) ×
      (drop 1 (marks_after_open (open_call l reg mode rules) list) ≡ drop 1 list)
  -- and in one that can hold marks
  pub opened_list : {l : Lent} {reg : List ℕ} {mode : ℕ} {rules : List ℕ} {rs : List Record} (list : List ℕ) → Openable l reg mode rules rs →
      length list ≡ 33 → MarkList (marks_after_open (open_call l reg mode rules) list) []
  -- a mark call only reads the register
  pub marked : {reg list : List ℕ} {n : ℕ} {after : List Mark} → Markable reg list n after → LeavesMarks list after (after_mark (mark_call reg list n) list)
  pub returned : {reg list : List ℕ} {n : ℕ} {r : Returned} (h : Returnable reg list n r) →
      Restores reg h.content r.spot (after_return (return_call reg list n) reg) ×
      LeavesMarks list r.marks (marks_after_return (return_call reg list n) list)
  -- whatever the list of marks, one of another register or one edited by hand: a register that is not broken stays so
  pub returned_whole : (reg list : List ℕ) (n : ℕ) {c : Content} → Unbroken reg c →
      (left : Content) × Unbroken (after_return (return_call reg list n) reg) left

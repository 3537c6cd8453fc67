-- Every refusal has one of the documents' numbers, and a place within what was lent.
use Rattle.std.specs.Prelude.{ℕ, ◌+◌, ◌≤◌, ◌<◌, ◌≡◌, ◌⊎◌, ◌≢◌, List, length}
use Rattle.logic.specs.Result.{refused}
use Rattle.register.specs.Records.{Statement, Ask}
use Rattle.register.specs.Calls.{Lent, check_call, say_call, request_call, open_call, read_call}
use Rattle.register.specs.Batch.{refused_at, batch_call}
use Rattle.register.specs.Marks.{mark_call, return_call}
use Rattle.editions.specs.Convert.{converted}
use Rattle.editions.specs.declared.Edition.{Edition}
use Rattle.uses.specs.Uses.{uses_call}
use Rattle.reduction.specs.Call.{simplify_call}

-- of check, say, request, batch, open and read: 21 is the extract desk's alone, 24 the converters', 25 theirs and
-- simplify's, 26 simplify's, 27 and 28 the mark calls'
abbrev pub CallNumber : ℕ → Type 0
CallNumber m = (1 ≤ m) × (m ≤ 23) × (m ≢ 21)

pub record Bounds : Type 0 where
  pub checks : (l : Lent) (reg : List ℕ) (day : ℕ) (ws : List ℕ) {m p : ℕ} → check_call l reg day ws ≡ refused m p →
      CallNumber m × (p ≤ length l.sig + length ws)
  pub says : (l : Lent) (reg : List ℕ) (day : ℕ) (st : Statement) {m p : ℕ} → say_call l reg day st ≡ refused m p →
      CallNumber m × (p ≤ length l.sig + length st.words)
  pub requests : (l : Lent) (reg : List ℕ) (k : Ask) {m p : ℕ} → request_call l reg k ≡ refused m p →
      CallNumber m × (p ≤ length l.sig + length k.proof)
  pub batches : (l : Lent) (reg : List ℕ) (day : ℕ) (ws : List ℕ) {i m p : ℕ} → batch_call l reg day ws ≡ refused_at i m p →
      (i < 16) × CallNumber m × (p ≤ length l.sig + length ws)
  pub opens : (l : Lent) (reg : List ℕ) (mode : ℕ) (rules : List ℕ) {m p : ℕ} → open_call l reg mode rules ≡ refused m p →
      CallNumber m × (p ≤ length l.sig + length rules)
  pub reads : (reg : List ℕ) (k : ℕ) {m p : ℕ} → read_call reg k ≡ refused m p → CallNumber m × (p ≡ 0)
  pub marks : (reg list : List ℕ) (n : ℕ) {m p : ℕ} → mark_call reg list n ≡ refused m p → ((m ≡ 28) ⊎ (m ≡ 2) ⊎ (m ≡ 3) ⊎ (m ≡ 27)) × (p ≡ 0)
  pub returns : (reg list : List ℕ) (n : ℕ) {m p : ℕ} → return_call reg list n ≡ refused m p → ((m ≡ 2) ⊎ (m ≡ 3) ⊎ (m ≡ 27)) × (p ≡ 0)
  pub converts : (e : Edition) (ws : List ℕ) (room m p : ℕ) → converted e ws room ≡ refused m p → (6 ≤ m) × (m ≤ 25) × (p ≤ length ws)
  pub counts : (k : ℕ) (ws : List ℕ) (m p : ℕ) → uses_call k ws ≡ refused m p → (6 ≤ m) × (m ≤ 8) × (p ≤ length ws)
  -- the place is within what was lent, or that of 8 in a step's result, which has at most 2,048 words
  pub simplifies : (l : Lent) (reg : List ℕ) (day : ℕ) (ws : List ℕ) (budget room : ℕ) {m p : ℕ} → simplify_call l reg day ws budget room ≡ refused m p →
      ((1 ≤ m) × (m ≤ 26) × (m ≢ 21) × (m ≢ 24)) × ((p ≤ length l.sig + length ws) ⊎ ((m ≡ 8) × (p < 2048)))

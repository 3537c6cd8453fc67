-- A batch tested without writing, as the code does it: the tests that calls share are made once, and each item is
-- tested on the first register and on the items before it, which are read off the list. proofs/BatchTests shows that
-- the answer is the same.
use Rattle.std.specs.Prelude.{ℕ, suc, ◌+◌, ◌<◌, ◌≡◌, Bool, cond, List, [], ◌∷◌, ◌++◌, map, leb, length}
use Rattle.std.proofs.Math.Option.{Option, some, none}
use Rattle.logic.specs.Limits.{payloads, most_operations}
use Rattle.logic.specs.Refusals.{bad_number, malformed}
use Rattle.logic.specs.Result.{Result, ok, refused}
use Rattle.register.specs.Records.{Ask, covered, receipt_dated, says, some_of}
use Rattle.register.specs.Calls.{Lent, Holding, View, on_register, day_test, request_own, request_call}
use Rattle.register.specs.Batch.{most_items, items, asks, item_words, Batched, all_granted, refused_at, at_index, batch_call, granted_words, day_if}
use Rattle.register.specs.Batch.{GrantedInTurn}

-- all are requests of one day
unfoldable pub AllOn : ℕ → List Ask → Type 0
AllOn day [] = Unit {0}
AllOn day (k ∷ ks) = (k.day ≡ day) × AllOn day ks

-- a receipt of one of the requests has the principal a and the words q
abbrev pub receipted : List Ask → ℕ → List ℕ → Bool
receipted ks a q = some_of (says a q) (map receipt_dated ks)

-- what is held with the receipts of the requests ks, on their day
abbrev pub with_receipts : List Ask → Holding → Holding
with_receipts ks h a q = cond (receipted ks a q) covered (h a q)

-- the words of requests in a list, one after another
unfoldable pub asks_words : List Ask → List ℕ
asks_words [] = []
asks_words (k ∷ ks) = item_words k ++ asks_words ks

-- each has numbers in range, whatever n is
unfoldable pub AllInRange : List Ask → Type 0
AllInRange [] = Unit {0}
AllInRange (k ∷ ks) = (k.operation < most_operations) × (k.extract < payloads) × (k.delivery < payloads) × AllInRange ks

-- the words are those of the requests ks, which passed test 5
pub record AskedBefore (ws : List ℕ) (ks : List Ask) : Type 0 where
  pub words : ws ≡ asks_words ks
  pub in_range : AllInRange ks

-- what an item's tests see behind the requests ks, which were granted on its day
abbrev pub view_behind : List Ask → (day : ℕ) → View → View
view_behind ks day s = record {
  Σ = s.Σ;
  n = s.n;
  holds = λ d. with_receipts ks (s.holds d);
  stands = s.stands;
  latest = day_if ks s.latest day;
  outline = record { size = s.outline.size; used = s.outline.used + granted_words ks };
}

-- the items from an index on, behind the requests ks
unfoldable pub items_own : (day index : ℕ) → List Ask → List (Option Ask) → View → Batched
items_own day i ks [] s = all_granted
items_own day i ks (none ∷ xs) s = refused_at i malformed 0
items_own day i ks (some k ∷ xs) s = at_index i (request_own k (view_behind ks day s)) (items_own day (suc i) (ks ++ (k ∷ [])) xs s)

-- a refusal of the shared tests is the first item's
abbrev pub at_start : Result Batched → Batched
at_start (ok b) = b
at_start (refused m p) = refused_at 0 m p

abbrev pub items_once : Lent → List ℕ → (day : ℕ) → List (Option Ask) → Batched
items_once l reg day [] = at_index 0 (on_register l reg (day_test day)) all_granted
items_once l reg day (none ∷ xs) = refused_at 0 malformed 0
items_once l reg day (some k ∷ xs) = at_start (on_register l reg (λ s. ok (items_own day 0 [] (some k ∷ xs) s)))

abbrev pub batch_once : Lent → List ℕ → (day : ℕ) → (words : List ℕ) → Batched
batch_once l reg day ws = cond (leb (length (items day ws)) most_items) (items_once l reg day (items day ws)) (refused_at 0 bad_number 0)

pub record TestedOnce : Type 0 where
  -- a request's verdict on the register that requests of its day leave is one on the first register
  pub same_verdict : (l : Lent) (reg reg' : List ℕ) (day : ℕ) (xs : List (Option Ask)) (k : Ask) → GrantedInTurn l reg xs reg' →
      AllOn day (asks xs) → k.day ≡ day → request_call l reg' k ≡ on_register l reg (λ s. request_own k (view_behind (asks xs) day s))
  -- so a batch is answered without those between
  pub same_answer : (l : Lent) (reg : List ℕ) (day : ℕ) (ws : List ℕ) → batch_call l reg day ws ≡ batch_once l reg day ws

-- Batches, document 02, slip 7: "A delivery often needs up to 16 requests granted together." A batch is defined by
-- making its requests one after another; it "grants all or changes no word".
use Rattle.std.specs.Prelude.{ℕ, zero, suc, ◌+◌, ◌≤◌, ◌<◌, ◌≡◌, ◌↔◌, cond, List, [], ◌∷◌, ◌++◌, leb, length, take, drop}
use Rattle.std.proofs.Math.Option.{Option, some, none}
use Rattle.logic.specs.Refusals.{bad_number, malformed}
use Rattle.logic.specs.Result.{Result, ok, refused}
use Rattle.register.specs.Records.{Record, Ask, ask_of, entry_extra, appended}
use Rattle.register.specs.Calls.{Lent, on_register, day_test, entry, request_call, after_request}

-- ---- the list: "one day and a word list of operation, v, u, length, proof"

-- "up to 16 requests"
abbrev pub most_items : ℕ
most_items = 16

-- what stands at the front of the list: nothing; an item that the list ends inside; or a whole one, with the words
-- behind it
pub data NextItem : Type 0 where
  no_item : NextItem
  cut_item : NextItem
  whole_item : Ask → List ℕ → NextItem

-- a length word past the list's end cuts its item short, whatever it says
abbrev pub next_item : (day : ℕ) → List ℕ → NextItem
next_item day [] = no_item
next_item day (i ∷ []) = cut_item
next_item day (i ∷ v ∷ []) = cut_item
next_item day (i ∷ v ∷ u ∷ []) = cut_item
next_item day (i ∷ v ∷ u ∷ n ∷ ws) = cond (leb n (length ws)) (whole_item (ask_of i v u day (take n ws)) (drop n ws)) cut_item

-- the item at the front, and those that `more` finds behind it; one cut short is `none`, and the last
abbrev pub item_before : (List ℕ → List (Option Ask)) → NextItem → List (Option Ask)
item_before more no_item = []
item_before more cut_item = none ∷ []
item_before more (whole_item k rest) = some k ∷ more rest

-- the items of a list; the first argument bounds how many are looked at
unfoldable pub item_list : (bound day : ℕ) → List ℕ → List (Option Ask)
item_list zero day ws = []
item_list (suc b) day ws = item_before (item_list b day) (next_item day ws)

abbrev pub items : (day : ℕ) → List ℕ → List (Option Ask)
items day ws = item_list (length ws) day ws

-- the requests among them
unfoldable pub asks : List (Option Ask) → List Ask
asks [] = []
asks (none ∷ xs) = asks xs
asks (some k ∷ xs) = k ∷ asks xs

-- ---- the call

-- what a batch answers: the refusal of an item has the item's index and its own place
pub data Batched : Type 0 where
  all_granted : Batched
  refused_at : (index number place : ℕ) → Batched

-- "an item cut short is 7 at 0 before its other tests"
abbrev pub item_call : Lent → List ℕ → Option Ask → Result (Unit {0})
item_call l reg none = refused malformed 0
item_call l reg (some k) = request_call l reg k

abbrev pub after_item : Lent → List ℕ → Option Ask → List ℕ
after_item l reg none = reg
after_item l reg (some k) = after_request (request_call l reg k) reg k

-- the refusal of the item at an index, or else the rest
abbrev pub at_index : (index : ℕ) → Result (Unit {0}) → Batched → Batched
at_index i (ok _) rest = rest
at_index i (refused m p) rest = refused_at i m p

-- the items one after another, the first at the index i: each gets the register as the one before left it
unfoldable pub in_turn : Lent → (index : ℕ) → List ℕ → List (Option Ask) → Batched
in_turn l i reg [] = all_granted
in_turn l i reg (x ∷ xs) = at_index i (item_call l reg x) (in_turn l (suc i) (after_item l reg x) xs)

-- "an empty batch makes tests 1 to 4, 5 for n and the permit and receipt types, and 23, at index and place as a first
-- request would"
abbrev pub items_call : Lent → List ℕ → (day : ℕ) → List (Option Ask) → Batched
items_call l reg day [] = at_index 0 (on_register l reg (day_test day)) all_granted
items_call l reg day (x ∷ xs) = in_turn l 0 reg (x ∷ xs)

-- "More than 16 requests, one cut short included, is 5 at index 0, before any is tried"
abbrev pub batch_call : Lent → List ℕ → (day : ℕ) → (words : List ℕ) → Batched
batch_call l reg day ws = cond (leb (length (items day ws)) most_items) (items_call l reg day (items day ws)) (refused_at 0 bad_number 0)

-- the register that requests made one after another leave
unfoldable pub after_requests : Lent → List ℕ → List Ask → List ℕ
after_requests l reg [] = reg
after_requests l reg (k ∷ ks) = after_requests l (after_request (request_call l reg k) reg k) ks

-- "The batch grants all or changes no word": the register that one of the requests ks leaves
abbrev pub after_batch : Batched → Lent → List ℕ → List Ask → List ℕ
after_batch all_granted l reg ks = after_requests l reg ks
after_batch (refused_at i m p) l reg ks = reg

-- the register that a batch leaves
abbrev pub batch_leaves : Lent → List ℕ → (day : ℕ) → (words : List ℕ) → List ℕ
batch_leaves l reg day ws = after_batch (batch_call l reg day ws) l reg (asks (items day ws))

-- ---- what requests that are all granted leave

-- the records that they add
unfoldable pub all_entries : List Ask → List Record
all_entries [] = []
all_entries (k ∷ ks) = entry k ++ all_entries ks

-- the words of these: p + 14 for each
unfoldable pub granted_words : List Ask → ℕ
granted_words [] = 0
granted_words (k ∷ ks) = length k.proof + entry_extra + granted_words ks

-- the latest day behind requests of one day: none set no day
abbrev pub day_if : List Ask → (old day : ℕ) → ℕ
day_if [] old day = old
day_if (k ∷ ks) old day = day

-- ---- the same by relations

-- an item's words in a list
abbrev pub item_words : Ask → List ℕ
item_words k = k.operation ∷ k.extract ∷ k.delivery ∷ length k.proof ∷ k.proof

-- what a list holds: whole items, and perhaps one that the list ends inside, where words are left and no whole item
-- stands in front of them
pub data ItemsOf (day : ℕ) : List ℕ → List (Option Ask) → Type 0 where
  no_more : ItemsOf day [] []
  cut_short : {ws : List ℕ} → (ws ≡ [] → ⊥) → ((k : Ask) (rest : List ℕ) → ws ≡ item_words k ++ rest → ⊥) → ItemsOf day ws (none ∷ [])
  one_item : {k : Ask} {rest : List ℕ} {xs : List (Option Ask)} → k.day ≡ day → ItemsOf day rest xs →
      ItemsOf day (item_words k ++ rest) (some k ∷ xs)

-- each item is a whole request and is granted on the register that those before it leave; reg' is left at last
pub data GrantedInTurn (l : Lent) : List ℕ → List (Option Ask) → List ℕ → Type 0 where
  none_left : {reg : List ℕ} → GrantedInTurn l reg [] reg
  one_more : {reg reg' : List ℕ} {k : Ask} {xs : List (Option Ask)} → request_call l reg k ≡ ok tt →
      GrantedInTurn l (appended reg k.day (entry k)) xs reg' → GrantedInTurn l reg (some k ∷ xs) reg'

-- the item at the index is the first that fails; number and place are its own, on the register that those before it
-- would have left
pub data FailsInTurn (l : Lent) : List ℕ → List (Option Ask) → (index number place : ℕ) → Type 0 where
  this_fails : {reg : List ℕ} {x : Option Ask} {xs : List (Option Ask)} {m p : ℕ} → item_call l reg x ≡ refused m p →
      FailsInTurn l reg (x ∷ xs) 0 m p
  later_fails : {reg : List ℕ} {k : Ask} {xs : List (Option Ask)} {i m p : ℕ} → request_call l reg k ≡ ok tt →
      FailsInTurn l (appended reg k.day (entry k)) xs i m p → FailsInTurn l reg (some k ∷ xs) (suc i) m p

-- 1 to 16 items
abbrev pub SomeItems : List (Option Ask) → Type 0
SomeItems xs = (1 ≤ length xs) × (length xs ≤ most_items)

pub record Batches : Type 0 where
  -- the items are those that the words hold
  pub listed : (day : ℕ) (ws : List ℕ) (xs : List (Option Ask)) → (items day ws ≡ xs) ↔ ItemsOf day ws xs
  -- "With 1 to 16 requests it succeeds exactly when making them one after another would grant each"
  pub succeeds : (l : Lent) (reg : List ℕ) (day : ℕ) (ws : List ℕ) → SomeItems (items day ws) →
      (batch_call l reg day ws ≡ all_granted) ↔ ((reg' : List ℕ) × GrantedInTurn l reg (items day ws) reg')
  -- "and then leaves the same register"
  pub leaves : (l : Lent) (reg : List ℕ) (day : ℕ) (ws reg' : List ℕ) → SomeItems (items day ws) →
      GrantedInTurn l reg (items day ws) reg' → batch_leaves l reg day ws ≡ reg'
  -- "The refusal is that of the first request that fails, with its index and its own place"
  pub fails : (l : Lent) (reg : List ℕ) (day : ℕ) (ws : List ℕ) (i m p : ℕ) → SomeItems (items day ws) →
      (batch_call l reg day ws ≡ refused_at i m p) ↔ FailsInTurn l reg (items day ws) i m p
  -- and no word is changed
  pub unchanged : (l : Lent) (reg : List ℕ) (day : ℕ) (ws : List ℕ) (i m p : ℕ) → batch_call l reg day ws ≡ refused_at i m p →
      batch_leaves l reg day ws ≡ reg
  pub too_many : (l : Lent) (reg : List ℕ) (day : ℕ) (ws : List ℕ) → most_items < length (items day ws) →
      batch_call l reg day ws ≡ refused_at 0 bad_number 0
  -- "an empty batch .. changes no word", whether it succeeds or not
  pub empty : (l : Lent) (reg : List ℕ) (day : ℕ) → batch_call l reg day [] ≡ at_index 0 (on_register l reg (day_test day)) all_granted
  pub empty_leaves : (l : Lent) (reg : List ℕ) (day : ℕ) → batch_leaves l reg day [] ≡ reg

-- When the calls succeed, said by the rules and relations and not by the tests.
-- The second demand: proofs/Succeeds shows that the calls succeed exactly then.
use Rattle.std.specs.Prelude.{ℕ, ◌+◌, ◌≤◌, ◌<◌, ◌≡◌, ◌≢◌, ◌↔◌, Bool, true, false, List, [], ◌∷◌, ◌++◌, length}
use Rattle.std.proofs.Math.Option.{Option, some, none}
use Rattle.std.proofs.Math.ListN.{get_elem?}
use Rattle.logic.specs.Limits.{payloads, least_workspace, most_register, most_operations}
use Rattle.logic.specs.Term.{Term, P, S, Pi, encode}
use Rattle.logic.specs.Typing.{Has}
use Rattle.logic.specs.Scope.{Signature}
use Rattle.logic.specs.Result.{ok}
use Rattle.logic.specs.Reading.{Embedded}
use Rattle.logic.specs.Check.{Passes, Stated}
use Rattle.logic.specs.SignatureList.{Lists, permit, receipt_of}
use Rattle.register.specs.Records.{Record, Statement, Ask, Content, whole, header, RegisterMode, Unbroken, used, used_by, words_of, Held}
use Rattle.register.specs.Records.{States, statement, rule_kind}
use Rattle.register.specs.Records.{next_rule, appended, trial}
use Rattle.register.specs.Calls.{Lent, permission, say_entry, entry, check_call, say_call, request_call, open_call}
use Rattle.register.specs.Batch.{most_items, ItemsOf, all_granted, batch_call}
use Rattle.register.specs.Marks.{Mark, mark_of, MarkList, Others, StandsFirst, Ends, spot_at_end, Returned, mark_call, return_call}

-- what every call but read needs of what it is lent; Σ are the
-- constants' types, and then a signature in the sense of Scope
pub record Ready (l : Lent) (len : ℕ) (Σ : List Term) : Type 0 where
  pub workspace : least_workspace ≤ l.workspace
  pub not_shorter : header ≤ len
  pub not_longer : len ≤ most_register
  pub accepted : Lists [] l.sig Σ
  pub some_operation : 1 ≤ l.n
  pub not_more : l.n ≤ most_operations
  pub permits : (i : ℕ) → i < l.n → get_elem? Σ (permit i) ≡ some (Pi S P)
  pub receipts : (i : ℕ) → i < l.n → get_elem? Σ (receipt_of i) ≡ some (Pi S (Pi S P))

-- every Sign embedded in t is held by a statement that covers
-- the day: "one nested in a proposition or a domain counts too"
abbrev pub SignsHeld : Option ℕ → List Record → Term → Type 0
SignsHeld day rs t = (n : ℕ) (q : Term) → Embedded n q t → Held day rs n (encode q)

-- a check on a day gives the type A
pub record Checkable (l : Lent) (reg : List ℕ) (day : ℕ) (ws : List ℕ) (A : Term) : Type 0 where
  pub content : Content
  pub unbroken : Unbroken reg content
  pub Σ : List Term
  pub ready : Ready l (length reg) Σ
  pub t : Term
  pub passes : Passes Σ ws t A
  pub signs : SignsHeld (some day) content.records t

-- a request is granted: its day is not before the latest, the
-- proof's words check on it with the permission, and the entry fits
pub record Grantable (l : Lent) (reg : List ℕ) (k : Ask) : Type 0 where
  pub operation : k.operation < l.n
  pub extract : k.extract < payloads
  pub delivery : k.delivery < payloads
  pub proof : Checkable l reg k.day k.proof (permission k)
  pub not_before : proof.content.latest ≤ k.day
  pub room : used reg + length (words_of (entry k)) ≤ length reg

-- requests that are granted one after another, each on the register that those before it leave
pub data GrantableInTurn (l : Lent) : List ℕ → List (Option Ask) → Type 0 where
  no_request : {reg : List ℕ} → GrantableInTurn l reg []
  one_request : {reg : List ℕ} {k : Ask} {xs : List (Option Ask)} → Grantable l reg k → GrantableInTurn l (appended reg k.day (entry k)) xs →
      GrantableInTurn l reg (some k ∷ xs)

-- an empty batch succeeds
pub record Idle (l : Lent) (reg : List ℕ) (day : ℕ) : Type 0 where
  pub content : Content
  pub unbroken : Unbroken reg content
  pub Σ : List Term
  pub ready : Ready l (length reg) Σ
  pub not_before : content.latest ≤ day

-- a batch of the items succeeds
pub data Batchable (l : Lent) (reg : List ℕ) (day : ℕ) : List (Option Ask) → Type 0 where
  empty : Idle l reg day → Batchable l reg day []
  together : {x : Option Ask} {xs : List (Option Ask)} → length (x ∷ xs) ≤ most_items → GrantableInTurn l reg (x ∷ xs) → Batchable l reg day (x ∷ xs)

-- what a say adds: nothing where the statement stands with the same days, and else it has to fit
pub data Adds (rs : List Record) (reg : List ℕ) (st : Statement) : Bool → Type 0 where
  held_before : States rs st → Adds rs reg st false
  added_now : (States rs st → ⊥) → used reg + length (words_of (say_entry st)) ≤ length reg → Adds rs reg st true

-- a say on a day succeeds, and answers whether it added a record
pub record Sayable (l : Lent) (reg : List ℕ) (day : ℕ) (st : Statement) (added : Bool) : Type 0 where
  pub content : Content
  pub unbroken : Unbroken reg content
  pub Σ : List Term
  pub ready : Ready l (length reg) Σ
  pub principal : st.principal < payloads
  pub in_order : st.first ≤ st.last
  pub not_before : content.latest ≤ day
  pub not_desk : st.principal ≢ 0
  pub q : Term
  pub stated : Stated Σ st.principal st.words q
  pub signs : SignsHeld (some day) content.records q
  pub adds : Adds content.records reg st added

-- behind the rules rs, a rule with the term t: its days are in order, it passes as a
-- Sign, and the Signs embedded in it are earlier rules, whatever their days
pub record Ruled (Σ : List Term) (rs : List Record) (st : Statement) (t : Term) : Type 0 where
  pub principal : st.principal < payloads
  pub in_order : st.first ≤ st.last
  pub stated : Stated Σ st.principal st.words t
  pub signs : SignsHeld none rs t

-- behind the rules rs, the words list rules that leave rs': "A repeated rule .. adds no record and succeeds"
pub data Opens (Σ : List Term) : List Record → List ℕ → List Record → Type 0 where
  no_rule : {rs : List Record} → Opens Σ rs [] rs
  new_rule : {rs rs' : List Record} {st : Statement} {ws rest : List ℕ} {t : Term} → next_rule ws ≡ whole st rest → Ruled Σ rs st t →
      (States rs st → ⊥) → Opens Σ (rs ++ (statement rule_kind st ∷ [])) rest rs' → Opens Σ rs ws rs'
  repeated_rule : {rs rs' : List Record} {st : Statement} {ws rest : List ℕ} {t : Term} → next_rule ws ≡ whole st rest → Ruled Σ rs st t →
      States rs st → Opens Σ rs rest rs' → Opens Σ rs ws rs'

-- an open of a register of the mode succeeds with the records rs
pub record Openable (l : Lent) (reg : List ℕ) (mode : ℕ) (rules : List ℕ) (rs : List Record) : Type 0 where
  pub Σ : List Term
  pub ready : Ready l (length reg) Σ
  pub known_mode : RegisterMode mode
  pub opens : Opens Σ [] rules rs
  pub room : used_by rs ≤ length reg

-- a register of the mode with the content c, of a length that is in range
pub record OfMode (mode : ℕ) (reg : List ℕ) (c : Content) : Type 0 where
  pub not_shorter : header ≤ length reg
  pub not_longer : length reg ≤ most_register
  pub unbroken : Unbroken reg c
  pub of_mode : c.mode ≡ mode

-- a mark is set at the end of a trial register's records, as no ninth: `after` stand then
pub record Markable (reg list : List ℕ) (n : ℕ) (after : List Mark) : Type 0 where
  pub content : Content
  pub on_trial : OfMode trial reg content
  pub ms : List Mark
  pub listed : MarkList list ms
  pub rest : List Mark
  pub others : Others n ms rest
  pub no_ninth : length rest < 8
  pub set : after ≡ rest ++ (mark_of n (spot_at_end content) ∷ [])

-- a return finds the mark, and it is at an end
pub record Returnable (reg list : List ℕ) (n : ℕ) (r : Returned) : Type 0 where
  pub content : Content
  pub on_trial : OfMode trial reg content
  pub ms : List Mark
  pub listed : MarkList list ms
  pub stands : StandsFirst n r.spot ms r.marks
  pub ends : Ends content.records r.spot

-- the second demand
pub record Demand2 : Type 0 where
  pub checks : (l : Lent) (reg : List ℕ) (day : ℕ) (ws : List ℕ) (A : Term) → (check_call l reg day ws ≡ ok A) ↔ Checkable l reg day ws A
  pub grants : (l : Lent) (reg : List ℕ) (k : Ask) → (request_call l reg k ≡ ok tt) ↔ Grantable l reg k
  pub batches : (l : Lent) (reg : List ℕ) (day : ℕ) (ws : List ℕ) (xs : List (Option Ask)) → ItemsOf day ws xs →
      (batch_call l reg day ws ≡ all_granted) ↔ Batchable l reg day xs
  pub says : (l : Lent) (reg : List ℕ) (day : ℕ) (st : Statement) (added : Bool) → (say_call l reg day st ≡ ok added) ↔ Sayable l reg day st added
  pub opens : (l : Lent) (reg : List ℕ) (mode : ℕ) (rules : List ℕ) (rs : List Record) →
      (open_call l reg mode rules ≡ ok rs) ↔ Openable l reg mode rules rs
  pub marks : (reg list : List ℕ) (n : ℕ) (after : List Mark) → (mark_call reg list n ≡ ok after) ↔ Markable reg list n after
  pub returns : (reg list : List ℕ) (n : ℕ) (r : Returned) → (return_call reg list n ≡ ok r) ↔ Returnable reg list n r
  -- an accepted signature is a signature in the sense of Scope
  pub well_formed : {l : Lent} {len : ℕ} {Σ : List Term} → Ready l len Σ → Signature Σ
  -- a term has at most one type
  pub unique : {Σ Γ : List Term} {t A B : Term} → Has Σ Γ t A → Has Σ Γ t B → A ≡ B

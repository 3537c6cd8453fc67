-- A batch that succeeds counts as its requests in turn, and a refused one as a single refused call.
use Prim.Native.Nat.{ℕ, ◌+◌}
use mathlib.Core.Path.{◌≡◌, refl, sym, ◌∙◌, ap, subst}
use mathlib.Core.Bool.{Bool, true, false, cond}
use mathlib.Core.List.{List, [], ◌∷◌, ◌++◌, map, append_assoc, append-nil}
use mathlib.Core.Option.{Option}
use native.Mathlib.Omega.{arith}
use lib.Dec.{leb}
use lib.ListN.{length}
use Rattle.logic.specs.Refusals.{bad_number}
use Rattle.logic.specs.Result.{Result, ok}
use Rattle.logic.proofs.Basics.{clash}
use Rattle.logic.proofs.Results.{ok_inj}
use Rattle.register.specs.Records.{Ask, Content, register_content}
use Rattle.register.specs.Calls.{Lent, after_request}
use Rattle.register.specs.Batch.{most_items, items, asks, Batched, all_granted, refused_at, items_call, batch_call, after_requests, after_batch}
use Rattle.register.specs.Batch.{granted_words, GrantedInTurn, none_left, one_more}
use Rattle.register.specs.History.{Setting, lent, Call, say, request, batch, requests, Reply, requested, batched, reply, after, run, answers}
use Rattle.register.specs.History.{read_off, if_granted, one_if_ok, grant_words, call_words, added_words, call_grant, grants, call_day, days}
use Rattle.register.specs.History.{Refused, batch_refused, NoRefusal, counts_as, counts_answers, singles, single_answers, NoBatch, Replaced}
use Rattle.register.proofs.Words.{Stores, stores_content}
use Rattle.register.proofs.Batch.{in_turn_granted}
use Rattle.register.proofs.Run.{run_stores}

-- ---- what calls leave, answer, log and add

record Trace : Type 0 where
  left : List ℕ
  answered : List Reply
  logged : List Ask
  dated : List ℕ
  added : ℕ

abbrev trace_of : List ℕ → List Reply → List Ask → List ℕ → ℕ → Trace
trace_of reg rs ks ds n = record { left = reg; answered = rs; logged = ks; dated = ds; added = n }

-- one behind another
abbrev followed_by : Trace → Trace → Trace
followed_by a b = trace_of b.left (a.answered ++ b.answered) (a.logged ++ b.logged) (a.dated ++ b.dated) (a.added + b.added)

followed_assoc : (a b c : Trace) → followed_by (followed_by a b) c ≡ followed_by a (followed_by b c)
followed_assoc a b c =
    let sum : a.added + b.added + c.added ≡ a.added + (b.added + c.added) = omega arith in
    λ i. trace_of c.left (append_assoc a.answered b.answered c.answered i) (append_assoc a.logged b.logged c.logged i)
    (append_assoc a.dated b.dated c.dated i) (sum i)

-- no call changes nothing, before others and behind them
nothing_before : (reg : List ℕ) (a : Trace) → a ≡ followed_by (trace_of reg [] [] [] 0) a
nothing_before reg a =
    let sum : a.added ≡ 0 + a.added = omega arith in
    λ i. trace_of a.left a.answered a.logged a.dated (sum i)

nothing_behind : (a : Trace) → followed_by a (trace_of a.left [] [] [] 0) ≡ a
nothing_behind a =
    let sum : a.added + 0 ≡ a.added = omega arith in
    λ i. trace_of a.left (append-nil a.answered i) (append-nil a.logged i) (append-nil a.dated i) (sum i)

-- a request with the verdict r, and requests that are all granted
abbrev request_trace : Result (Unit {0}) → List ℕ → Ask → Trace
request_trace r reg k = trace_of (after_request r reg k) (requested r ∷ []) (one_if_ok r k) (one_if_ok r k.day) (grant_words r k)

abbrev granted_trace : List ℕ → List Ask → Trace
granted_trace reg ks = trace_of reg (map (λ (k : Ask). requested (ok tt)) ks) ks (map (λ (k : Ask). k.day) ks) (granted_words ks)

-- a batch that succeeds is granted in turn, an empty one too
pub batch_granted : (l : Lent) (reg : List ℕ) (day : ℕ) (ws : List ℕ) → batch_call l reg day ws ≡ all_granted →
    GrantedInTurn l reg (items day ws) (after_requests l reg (requests day ws))
unfolding after_requests asks
batch_granted l reg day ws e = go (leb (length (items day ws)) most_items) (items day ws) e
  where
    go : (b : Bool) (xs : List (Option Ask)) → cond b (items_call l reg day xs) (refused_at 0 bad_number 0) ≡ all_granted →
        GrantedInTurn l reg xs (after_requests l reg (asks xs))
    go true [] e = none_left
    go true (x ∷ xs) e = in_turn_granted l 0 reg (x ∷ xs) e
    go false xs e = absurd (clash (cc))

module _ (s : Setting) where
  abbrev trace : List ℕ → List Call → Trace
  trace reg xs = trace_of (run s reg xs) (answers s reg xs) (grants s reg xs) (days s reg xs) (added_words s reg xs)

  -- one call with the answers rs
  abbrev call_trace : List ℕ → Call → List Reply → Trace
  call_trace reg x rs = trace_of (after s reg x) rs (call_grant s reg x) (call_day s reg x) (call_words s reg x)

  trace_append : (reg : List ℕ) (xs ys : List Call) → trace reg (xs ++ ys) ≡ followed_by (trace reg xs) (trace (run s reg xs) ys)
  unfolding run answers grants days added_words
  trace_append reg [] ys = nothing_before reg (trace reg ys)
  trace_append reg (x ∷ xs) ys =
      let one = call_trace reg x (reply s reg x ∷ []) in
      let reg₁ = after s reg x in
      ap (followed_by one) (trace_append reg₁ xs ys) ∙ sym (followed_assoc one (trace reg₁ xs) (trace (run s reg₁ xs) ys))

  in_turn_trace : (w : ℕ) {reg reg' : List ℕ} {xs : List (Option Ask)} → GrantedInTurn (lent s w) reg xs reg' →
      trace reg (map (request w) (asks xs)) ≡ granted_trace reg' (asks xs)
  unfolding asks run answers grants days added_words granted_words
  in_turn_trace w none_left = refl
  in_turn_trace w (one_more {reg} {k} {xs} e g) =
      ap (λ r. followed_by (request_trace r reg k) (trace (after_request r reg k) (map (request w) (asks xs)))) e
      ∙ ap (followed_by (request_trace (ok tt) reg k)) (in_turn_trace w g)

  -- what a call counts as has its trace
  counts_trace : (reg : List ℕ) (x : Call) → trace reg (counts_as s reg x) ≡ call_trace reg x (counts_answers s reg x)
  unfolding run answers grants days added_words
  counts_trace reg (say w day t) = nothing_behind (call_trace reg (say w day t) (reply s reg (say w day t) ∷ []))
  counts_trace reg (request w k) = nothing_behind (call_trace reg (request w k) (reply s reg (request w k) ∷ []))
  counts_trace reg (batch w day ws) = go (batch_call (lent s w) reg day ws) refl
    where
      ks : List Ask
      ks = requests day ws

      go : (b : Batched) → batch_call (lent s w) reg day ws ≡ b → trace reg (if_granted b (map (request w) ks) []) ≡
          trace_of (after_batch b (lent s w) reg ks) (if_granted b (map (λ (k : Ask). requested (ok tt)) ks) [])
          (if_granted b ks []) (if_granted b (map (λ (k : Ask). k.day) ks) []) (if_granted b (granted_words ks) 0)
      go all_granted e = in_turn_trace w (batch_granted (lent s w) reg day ws e)
      go (refused_at i m p) e = refl

  singles_trace : (reg : List ℕ) (calls : List Call) → trace reg (singles s reg calls) ≡
      trace_of (run s reg calls) (single_answers s reg calls) (grants s reg calls) (days s reg calls) (added_words s reg calls)
  unfolding singles single_answers run answers grants days added_words
  singles_trace reg [] = refl
  singles_trace reg (x ∷ xs) =
      let rest = singles s (after s reg x) xs in
      trace_append reg (counts_as s reg x) rest ∙ ap (λ t. followed_by t (trace t.left rest)) (counts_trace reg x)
      ∙ ap (followed_by (call_trace reg x (counts_answers s reg x))) (singles_trace (after s reg x) xs)

  -- both lists leave one register, so what is read off them is one content
  pub singles_content : {len : ℕ} {c : Content} {reg : List ℕ} → Stores len c reg → (calls : List Call) →
      read_off s len c (singles s reg calls) ≡ read_off s len c calls
  singles_content {reg} st calls = ok_inj (sym (stores_content (run_stores s st (singles s reg calls)))
      ∙ ap (λ t. register_content t.left) (singles_trace reg calls) ∙ stores_content (run_stores s st calls))

  -- ---- no batch, and no refusal

  singles_single : (reg : List ℕ) (calls : List Call) → NoBatch (singles s reg calls)
  unfolding singles NoBatch
  singles_single reg [] = tt
  singles_single reg (x ∷ xs) = behind (counts_as s reg x) _ (counted x) (singles_single (after s reg x) xs)
    where
      behind : (xs ys : List Call) → NoBatch xs → NoBatch ys → NoBatch (xs ++ ys)
      behind [] ys h k = k
      behind (x ∷ xs) ys h k = (h.0, behind xs ys h.1 k)

      all_single : (w : ℕ) (ks : List Ask) → NoBatch (map (request w) ks)
      all_single w [] = tt
      all_single w (k ∷ ks) = (tt, all_single w ks)

      if_single : (w : ℕ) (ks : List Ask) (b : Batched) → NoBatch (if_granted b (map (request w) ks) [])
      if_single w ks all_granted = all_single w ks
      if_single w ks (refused_at i m p) = tt

      counted : (x : Call) → NoBatch (counts_as s reg x)
      counted (say w day t) = (tt, tt)
      counted (request w k) = (tt, tt)
      counted (batch w day ws) = if_single w (requests day ws) (batch_call (lent s w) reg day ws)

  in_turn_unrefused : (w : ℕ) {reg reg' : List ℕ} {xs : List (Option Ask)} → GrantedInTurn (lent s w) reg xs reg' →
      NoRefusal s reg (map (request w) (asks xs))
  unfolding asks NoRefusal
  in_turn_unrefused w none_left = tt
  in_turn_unrefused w (one_more {reg} {k} {xs} e g) =
      subst (λ r. (Refused (requested r) → ⊥) × NoRefusal s (after_request r reg k) (map (request w) (asks xs))) (sym e)
      ((λ f. elim f [ ]), in_turn_unrefused w g)

  pub singles_unrefused : (reg : List ℕ) (calls : List Call) → NoRefusal s reg calls → NoRefusal s reg (singles s reg calls)
  unfolding singles NoRefusal run
  singles_unrefused reg [] h = tt
  singles_unrefused reg (x ∷ xs) h = behind reg (counts_as s reg x) rest (counted x h.0)
      (subst (λ t. NoRefusal s t.left rest) (sym (counts_trace reg x)) (singles_unrefused (after s reg x) xs h.1))
    where
      rest : List Call
      rest = singles s (after s reg x) xs

      behind : (reg : List ℕ) (xs ys : List Call) → NoRefusal s reg xs → NoRefusal s (run s reg xs) ys → NoRefusal s reg (xs ++ ys)
      behind reg [] ys h k = k
      behind reg (x ∷ xs) ys h k = (h.0, behind (after s reg x) xs ys h.1 k)

      if_unrefused : (w day : ℕ) (ws : List ℕ) (b : Batched) → batch_call (lent s w) reg day ws ≡ b → (Refused (batched b) → ⊥) →
          NoRefusal s reg (if_granted b (map (request w) (requests day ws)) [])
      if_unrefused w day ws all_granted e n = in_turn_unrefused w (batch_granted (lent s w) reg day ws e)
      if_unrefused w day ws (refused_at i m p) e n = absurd (n batch_refused)

      counted : (x : Call) → (Refused (reply s reg x) → ⊥) → NoRefusal s reg (counts_as s reg x)
      counted (say w day t) n = (n, tt)
      counted (request w k) n = (n, tt)
      counted (batch w day ws) n = if_unrefused w day ws (batch_call (lent s w) reg day ws) refl n

  pub replaced : {reg : List ℕ} {c : Content} → Stores (length reg) c reg → (calls : List Call) → Replaced s reg c calls
  replaced {reg} st calls =
      let e = singles_trace reg calls in
      record {
        no_batch = singles_single reg calls;
        same_register = ap (λ t. t.left) e;
        same_content = singles_content st calls;
        same_answers = ap (λ t. t.answered) e;
        same_grants = ap (λ t. t.logged) e;
        same_days = ap (λ t. t.dated) e;
        same_words = ap (λ t. t.added) e;
        same_refusals = singles_unrefused reg calls;
      }

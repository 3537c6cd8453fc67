-- Words past the used count are unread.
use Prim.Native.Nat.{ℕ, suc, ◌-◌, ◌+◌, ◌≤◌}
use mathlib.Core.Path.{◌≡◌, refl, sym, ◌∙◌, ap, ap₂, subst, subst₂}
use mathlib.Core.Bool.{Bool, ◌&&◌}
use mathlib.Core.List.{List, [], ◌∷◌, ◌++◌, append-nil}
use mathlib.Core.Option.{Option}
use native.Mathlib.Omega.{arith}
use lib.Dec.{leb, eqb}
use lib.ListN.{length, get_elem?, length-append}
use lib.Seq.{take-append-le}
use Rattle.logic.specs.Refusals.{register_broken, no_mark, marks_full, past_last_record}
use Rattle.logic.specs.Result.{Result, ok, refused, ◌>>=◌, ◌>>◌, require, known}
use Rattle.logic.proofs.Results.{not_ok, ok_inj}
use Rattle.register.specs.Records.{Ask, Content, header, trial, used, used_by, words_of, no_kind, mode_test, records, register_content, Unbroken}
use Rattle.register.specs.Calls.{Lent, View, shared, on_register, length_test, check_own, say_own, request_own, say_call, request_call}
use Rattle.register.specs.Calls.{after_say, after_request, open_own, new_content}
use Rattle.register.specs.Batch.{items, Batched, all_granted, refused_at, batch_call, after_batch, asks}
use Rattle.register.specs.Marks.{Spot, marks_of, standing, up_to, room_for_mark, with_mark, at_an_end, spot_of, trial_content, Returned}
use Rattle.register.specs.Marks.{mark_call, return_call}
use Rattle.register.specs.Marks.{after_return, returned_to, Ends}
use Rattle.register.specs.Succeeds.{Batchable, empty, together, one_request}
use Rattle.register.specs.Verdict.{Both, both_broken, both_whole, SameForAll}
use Rattle.register.specs.History.{Setting, lent, Call, say, request, batch, reply, after, said, requested, batched, checked, Later, call, check, replies}
use Rattle.register.specs.Unread.{SameFront, Unread}
use Rattle.register.proofs.Words.{register_of, unbroken_right, Stores, stores_content}
use Rattle.register.proofs.Batch.{batches}
use Rattle.register.proofs.Succeeds.{demand2}
use Rattle.register.proofs.Marks.{stores_restored, return_right}
use Rattle.register.proofs.Step.{step}
use Rattle.register.proofs.Verdict.{verdicts}
use Rattle.register.proofs.Alike.{like_refl, replies_alike}

-- what test 3 reads: the four words of the header, the length, and the words of the records
abbrev read_words : (a b d k n : ℕ) (l : List ℕ) → Result Content
read_words a b d k n l = do
  require (leb header a && leb a n) register_broken 0
  require (mode_test k) register_broken 0
  rs ← known register_broken 0 (records a no_kind l)
  require (eqb (length rs) b) register_broken 0
  ok (record { mode = k; latest = d; records = rs })

front_content : (front behind behind' : List ℕ) → header ≤ length front → used front ≤ length front → length behind ≡ length behind' →
    register_content (front ++ behind) ≡ register_content (front ++ behind')
front_content [] y z h u e = absurd (omega arith)
front_content (a ∷ []) y z h u e = absurd (omega arith)
front_content (a ∷ b ∷ []) y z h u e = absurd (omega arith)
front_content (a ∷ b ∷ d ∷ []) y z h u e = absurd (omega arith)
front_content (a ∷ b ∷ d ∷ k ∷ l) y z h u e =
    ap₂ (read_words a b d k)
    (ap (λ n. suc (suc (suc (suc n)))) (length-append l y ∙ ap (λ n. length l + n) e ∙ sym (length-append l z)))
    (take-append-le (a - header) l y (omega arith) ∙ sym (take-append-le (a - header) l z (omega arith)))

front_spot : (front behind : List ℕ) → header ≤ length front → spot_of (front ++ behind) ≡ spot_of front
front_spot [] y h = absurd (omega arith)
front_spot (a ∷ []) y h = absurd (omega arith)
front_spot (a ∷ b ∷ []) y h = absurd (omega arith)
front_spot (a ∷ b ∷ d ∷ l) y h = refl

module _ {reg reg' : List ℕ} (f : SameFront reg reg') where
  same_content : register_content reg ≡ register_content reg'
  same_content =
      ap register_content f.words ∙ front_content f.front f.behind f.behind' f.whole_header f.all_used f.as_long
      ∙ sym (ap register_content f.words')

  same_length : length reg ≡ length reg'
  same_length =
      ap length f.words ∙ length-append f.front f.behind ∙ ap (λ n. length f.front + n) f.as_long
      ∙ sym (length-append f.front f.behind') ∙ sym (ap length f.words')

  same_spot : spot_of reg ≡ spot_of reg'
  same_spot =
      ap spot_of f.words ∙ front_spot f.front f.behind f.whole_header ∙ sym (front_spot f.front f.behind' f.whole_header)
      ∙ sym (ap spot_of f.words')

  same_own : {Y : Type 0} (l : Lent) (own : View → Result Y) → on_register l reg own ≡ on_register l reg' own
  same_own l own = λ i. shared l (record { size = same_length i; used = (same_spot i).used }) (same_content i) own

  same_batch : (l : Lent) (day : ℕ) (ws : List ℕ) → batch_call l reg day ws ≡ batch_call l reg' day ws
  same_batch l day ws = verdicts.batches l reg reg' day ws (record {
    lengths = same_length;
    words_used = ap (λ (m : Spot). m.used) same_spot;
    contents = both (register_content reg) (register_content reg') same_content;
  })
    where
      both : (r r' : Result Content) → r ≡ r' → Both (SameForAll (asks (items day ws))) r r'
      both (ok c) r' e = subst (Both (SameForAll (asks (items day ws))) (ok c)) e (both_whole ((λ k m t w n q i. refl), refl))
      both (refused m p) r' e = subst (Both (SameForAll (asks (items day ws))) (refused m p)) e both_broken

  same_trial : trial_content reg ≡ trial_content reg'
  same_trial = ap₂ (λ (n : ℕ) (r : Result Content). length_test n >> (r >>= λ c. require (eqb c.mode trial) no_mark 0 >> ok c)) same_length same_content

  same_mark : (list : List ℕ) (n : ℕ) → mark_call reg list n ≡ mark_call reg' list n
  same_mark list n =
      ap₂ (λ (r : Result Content) (x : Spot). r >> (known no_mark 0 (marks_of list) >>= λ ms.
      require (room_for_mark n ms) marks_full 0 >> ok (with_mark n x ms)))
      same_trial same_spot

  same_return : (list : List ℕ) (n : ℕ) → return_call reg list n ≡ return_call reg' list n
  same_return list n = ap (λ (r : Result Content). r >>= λ c. known no_mark 0 (marks_of list) >>= λ ms. known no_mark 0 (standing n ms) >>= λ m.
      require (at_an_end c.records m) no_mark 0 >> ok (record { spot = m; marks = up_to n ms })) same_trial

-- ---- a broken register is left as it is

module _ (reg : List ℕ) {m p : ℕ} (broken : register_content reg ≡ refused m p) where
  never : {c : Content} → Unbroken reg c → ⊥
  never {c} u = not_ok (sym broken ∙ (unbroken_right reg c).1 u)

  never_batched : {l : Lent} {day : ℕ} {xs : List (Option Ask)} → Batchable l reg day xs → ⊥
  never_batched (empty h) = never h.unbroken
  never_batched (together few (one_request h g)) = never h.proof.unbroken

  kept_after : (s : Setting) (x : Call) → after s reg x ≡ reg
  kept_after s (say w day st) = go (say_call (lent s w) reg day st) refl
    where
      go : (r : Result Bool) → say_call (lent s w) reg day st ≡ r → after_say r reg day st ≡ reg
      go (ok b) e = absurd (never ((demand2.says (lent s w) reg day st b).0 e).unbroken)
      go (refused m p) e = refl
  kept_after s (request w k) = go (request_call (lent s w) reg k) refl
    where
      go : (r : Result (Unit {0})) → request_call (lent s w) reg k ≡ r → after_request r reg k ≡ reg
      go (ok tt) e = absurd (never ((demand2.grants (lent s w) reg k).0 e).proof.unbroken)
      go (refused m p) e = refl
  kept_after s (batch w day ws) = go (batch_call (lent s w) reg day ws) refl
    where
      go : (b : Batched) → batch_call (lent s w) reg day ws ≡ b → after_batch b (lent s w) reg (asks (items day ws)) ≡ reg
      go all_granted e = absurd (never_batched
          ((demand2.batches (lent s w) reg day ws (items day ws) ((batches.listed day ws (items day ws)).0 refl)).0 e))
      go (refused_at i m p) e = refl

  kept_return : (list : List ℕ) (n : ℕ) (r : Result Returned) → return_call reg list n ≡ r → after_return r reg ≡ reg
  kept_return list n (ok x) e = absurd (never ((return_right reg list n x).0 e).on_trial.unbroken)
  kept_return list n (refused m p) e = refl

-- ---- lists of calls

same_reply : {reg reg' : List ℕ} → SameFront reg reg' → (s : Setting) (x : Call) → reply s reg x ≡ reply s reg' x
same_reply f s (say w day st) = ap said (same_own f (lent s w) (say_own day st))
same_reply f s (request w k) = ap requested (same_own f (lent s w) (request_own k))
same_reply f s (batch w day ws) = ap batched (same_batch f (lent s w) day ws)

module _ {reg reg' : List ℕ} (f : SameFront reg reg') where
  replies_broken : {m p : ℕ} → register_content reg ≡ refused m p → register_content reg' ≡ refused m p → (later : List Later) →
      replies reg later ≡ replies reg' later
  unfolding replies
  replies_broken b b' [] = refl
  replies_broken b b' (call s x ∷ ls) =
      ap₂ (λ y ys. y ∷ ys) (same_reply f s x)
      (ap (λ r. replies r ls) (kept_after reg b s x) ∙ replies_broken b b' ls ∙ sym (ap (λ r. replies r ls) (kept_after reg' b' s x)))
  replies_broken b b' (check s w day t ∷ ls) = ap₂ (λ y ys. y ∷ ys) (ap checked (same_own f (lent s w) (check_own day t))) (replies_broken b b' ls)

  -- both are unbroken with one content
  stores : {c : Content} → register_content reg ≡ ok c → Stores (length reg) c reg × Stores (length reg) c reg'
  stores {c} e = (
    record { unbroken = (unbroken_right reg c).0 e; size = refl },
    record { unbroken = (unbroken_right reg' c).0 (sym (same_content f) ∙ e); size = sym (same_length f) },
  )

  same_replies : (later : List Later) → replies reg later ≡ replies reg' later
  same_replies later = go (register_content reg) refl
    where
      go : (r : Result Content) → register_content reg ≡ r → replies reg later ≡ replies reg' later
      go (ok c) e = let (st, st') = stores e in replies_alike st st' (like_refl c) later
      go (refused m p) e = replies_broken e (sym (same_content f) ∙ e) later

-- ---- what calls leave

-- registers of one length with one content
pub stores_front : {len : ℕ} {c : Content} {reg reg' : List ℕ} → Stores len c reg → Stores len c reg' → SameFront reg reg'
stores_front {c} st st' =
    let l = simp length-append at (ap length st.unbroken.words) in
    let l' = simp length-append at (ap length st'.unbroken.words) in
    record {
      front = register_of c [];
      behind = st.unbroken.tail;
      behind' = st'.unbroken.tail;
      words = st.unbroken.words ∙ split st.unbroken.tail;
      words' = st'.unbroken.words ∙ split st'.unbroken.tail;
      whole_header = omega arith;
      all_used = simp length-append (omega arith);
      as_long = omega (arith, l, l', st.size, st'.size);
    }
  where
    split : (tail : List ℕ) → register_of c tail ≡ register_of c [] ++ tail
    split tail =
        ap (λ l. used_by c.records ∷ length c.records ∷ c.latest ∷ c.mode ∷ (l ++ tail)) (sym (append-nil (words_of c.records)))

-- what a return leaves of two such registers
pub return_left : {len : ℕ} {c : Content} {reg reg' : List ℕ} → Stores len c reg → Stores len c reg' → (list : List ℕ) (n : ℕ) (r : Result Returned) →
    return_call reg list n ≡ r → (c₁ : Content) × Stores len c₁ (after_return r reg) × Stores len c₁ (after_return r reg')
return_left {c} st st' list n (refused m p) e = (c, st, st')
return_left {c} {reg} st st' list n (ok r) e =
    let h = (return_right reg list n r).0 e in
    let same : h.content ≡ c = ok_inj (sym ((unbroken_right reg h.content).1 h.on_trial.unbroken) ∙ stores_content st) in
    let at : Ends c.records r.spot = subst (λ (k : Content). Ends k.records r.spot) same h.ends in
    (returned_to c r.spot, stores_restored r.spot st at, stores_restored r.spot st' at)

module _ {reg reg' : List ℕ} (f : SameFront reg reg') where
  same_after : (s : Setting) (x : Call) → SameFront (after s reg x) (after s reg' x)
  same_after s x = go (register_content reg) refl
    where
      go : (r : Result Content) → register_content reg ≡ r → SameFront (after s reg x) (after s reg' x)
      go (ok c) e = let (st, st') = stores f e in stores_front (step s st x).stored (step s st' x).stored
      go (refused m p) e = subst₂ SameFront (sym (kept_after reg e s x)) (sym (kept_after reg' (sym (same_content f) ∙ e) s x)) f

  same_after_return : (list : List ℕ) (n : ℕ) →
      SameFront (after_return (return_call reg list n) reg) (after_return (return_call reg' list n) reg')
  same_after_return list n =
      subst (λ r. SameFront (after_return (return_call reg list n) reg) (after_return r reg')) (same_return f list n) (go (register_content reg) refl)
    where
      go : (r : Result Content) → register_content reg ≡ r →
          SameFront (after_return (return_call reg list n) reg) (after_return (return_call reg list n) reg')
      go (ok c) e =
          let (st, st') = stores f e in
          let (c₁, st₁, st₂) = return_left st st' list n (return_call reg list n) refl in
          stores_front st₁ st₂
      go (refused m p) e =
          let k = kept_return reg e list n (return_call reg list n) refl in
          let k' = kept_return reg' (sym (same_content f) ∙ e) list n (return_call reg list n) (sym (same_return f list n)) in
          subst₂ SameFront (sym k) (sym k') f

pub unread : Unread
unread = record {
  contents = λ f. same_content f;
  checks = λ l day ws f. same_own f l (check_own day ws);
  says = λ l day st f. same_own f l (say_own day st);
  requests = λ l k f. same_own f l (request_own k);
  batches = λ l day ws f. same_batch f l day ws;
  reads = λ k f. ap₂ (λ (n : ℕ) (r : Result Content). length_test n >> (r >>= λ c. known past_last_record 0 (get_elem? c.records k)))
      (same_length f) (same_content f);
  marks = λ list n f. same_mark f list n;
  returns = λ list n f. same_return f list n;
  opens = λ reg reg' l mode rules e. ap (λ (n : ℕ). shared l (record { size = n; used = header }) (ok (new_content mode [])) (open_own mode rules)) e;
  leaves = λ s x f. same_after f s x;
  leaves_return = λ list n f. same_after_return f list n;
  later = λ later f. same_replies f later;
}

-- An extract leaves the register that its request leaves, and answers what its request answers. So a list of calls with
-- extracts leaves what the list with their requests leaves.
use Prim.Native.Nat.{ℕ}
use mathlib.Core.Path.{◌≡◌, refl, sym, ap, ap₂, subst, ◌∙◌}
use mathlib.Core.Bool.{Bool, true, false, cond}
use mathlib.Core.List.Permᴰ
use mathlib.Core.List.{List, [], ◌∷◌, ◌++◌, append-nil, append_assoc, Permᴰ}
use lib.ListN.{length}
use Rattle.logic.specs.Refusals.{out_of_form}
use Rattle.logic.specs.Result.{Result, refused, without_value}
use Rattle.register.specs.Records.{Ask, Content, trial, register_content}
use Rattle.register.specs.Calls.{after_request}
use Rattle.register.specs.Marks.{MarkList}
use Rattle.register.specs.Trials.{TrialCall, HoldsAfter, amounts_to, trial_end}
use Rattle.register.specs.History.{Setting, lent, Call, Reply, request, requested, reply, after, Refused, run, read_off, NoRefusal}
use Rattle.register.proofs.Words.{Stores}
use Rattle.register.proofs.Marks.{cleared_marks}
use Rattle.register.proofs.Run.{read_off_grows, read_off_append, run_append, run_stores}
use Rattle.register.proofs.Alike.{like_refl, reply_alike}
use Rattle.register.proofs.Demand.{demand}
use Rattle.register.proofs.Trials.{Lawful, end_stores, amounts, no_mark_run, no_list, holds_after, holds_alike, Begun, begun}
use Rattle.homes.specs.Homes.{formed}
use Rattle.extract.specs.Desk.{DeskCall, plain, extract, desk_reply, desk_after, desk_run, desk_answers}
use Rattle.extract.specs.Desk.{as_request, as_requests, reply_as_request, answers_as_requests, NoDeskRefusal}
use Rattle.extract.specs.Desk.{DeskDemand, DeskDemand3, desk_calls_in, DeskTrialDemand, DeskTrialDemand3, DeskNoMarkLaw}
use Rattle.extract.proofs.Extracts.{broken_form, request_answer}

-- ---- one call

module _ (s : Setting) (reg : List ℕ) (w : ℕ) (k : Ask) (hs t : List ℕ) (room : ℕ) where
  -- the register that it leaves and its answer, by its form
  by_form : (b : Bool) → formed hs t room ≡ b →
      (desk_after s reg (extract w k hs t room) ≡ run s reg (cond b (request w k ∷ []) []))
      × (desk_reply s reg (extract w k hs t room) ≡ cond b (reply s reg (request w k)) (requested (refused out_of_form 0)))
  unfolding run
  by_form true e =
      let a = request_answer (lent s w) reg k hs t room e in
      (ap (λ (o : Result (Unit {0})). after_request o reg k) a, ap requested a)
  by_form false e =
      let a = broken_form (lent s w) reg k hs t room e in
      (ap (λ (o : Result (List ℕ)). after_request (without_value o) reg k) a, ap (λ (o : Result (List ℕ)). requested (without_value o)) a)

call_after : (s : Setting) (reg : List ℕ) (c : DeskCall) → desk_after s reg c ≡ run s reg (as_request c)
unfolding run
call_after s reg (plain c) = refl
call_after s reg (extract w k hs t room) = (by_form s reg w k hs t room (formed hs t room) refl).0

call_reply : (s : Setting) (reg : List ℕ) (c : DeskCall) → desk_reply s reg c ≡ reply_as_request s reg c
call_reply s reg (plain c) = refl
call_reply s reg (extract w k hs t room) = (by_form s reg w k hs t room (formed hs t room) refl).1

-- ---- the list

-- the register at the end is that of the requests
pub extracts_as_requests : (s : Setting) (reg : List ℕ) (cs : List DeskCall) → desk_run s reg cs ≡ run s reg (as_requests cs)
unfolding desk_run as_requests run
extracts_as_requests s reg [] = refl
extracts_as_requests s reg (c ∷ cs) =
    extracts_as_requests s (desk_after s reg c) cs ∙ ap (λ (r : List ℕ). run s r (as_requests cs)) (call_after s reg c)
    ∙ sym (run_append s reg (as_request c) (as_requests cs))

-- and so are the answers
answered : (s : Setting) (reg : List ℕ) (cs : List DeskCall) → desk_answers s reg cs ≡ answers_as_requests s reg cs
unfolding desk_answers answers_as_requests
answered s reg [] = refl
answered s reg (c ∷ cs) =
    ap₂ (λ (r : Reply) (rs : List Reply). r ∷ rs) (call_reply s reg c)
    (answered s (desk_after s reg c) cs ∙ ap (λ (r : List ℕ). answers_as_requests s r cs) (call_after s reg c))

-- ---- two orders

-- two lists in front of a third change places
fronts_swap : {X : Type 0} (xs ys zs : List X) → Permᴰ (xs ++ (ys ++ zs)) (ys ++ (xs ++ zs))
fronts_swap [] ys zs = Permᴰ.refl (ys ++ zs)
fronts_swap (x ∷ xs) ys zs = Permᴰ.trans (Permᴰ.cons refl (fronts_swap xs ys zs)) (Permᴰ.symm (Permᴰ.middle x ys (xs ++ zs)))

requests_perm : {cs ds : List DeskCall} → Permᴰ cs ds → Permᴰ (as_requests cs) (as_requests ds)
unfolding as_requests
requests_perm Permᴰ.nil = Permᴰ.nil
requests_perm (Permᴰ.cons {a} {b} {l₁} {l₂} e d) = rw e (Permᴰ.append_left (as_request b) (requests_perm d))
requests_perm (Permᴰ.swap {a} {b} {a'} {b'} {l} e f) = rw (e, f) (fronts_swap (as_request b') (as_request a') (as_requests l))
requests_perm (Permᴰ.trans d e) = Permᴰ.trans (requests_perm d) (requests_perm e)

-- a list without a refusal has none as requests
none_append : (s : Setting) (reg : List ℕ) (cs ds : List Call) → NoRefusal s reg cs → NoRefusal s (run s reg cs) ds → NoRefusal s reg (cs ++ ds)
unfolding NoRefusal run
none_append s reg [] ds m n = n
none_append s reg (c ∷ cs) ds m n = (m.0, none_append s (after s reg c) cs ds m.1 n)

none_first : (s : Setting) (reg : List ℕ) (c : DeskCall) → (Refused (desk_reply s reg c) → ⊥) → NoRefusal s reg (as_request c)
unfolding NoRefusal
none_first s reg (plain c) n = (n, tt)
none_first s reg (extract w k hs t room) n = go (formed hs t room) refl
  where
    go : (b : Bool) → formed hs t room ≡ b → NoRefusal s reg (cond b (request w k ∷ []) [])
    go true e = (λ r. n (rw (by_form s reg w k hs t room true e).1 r), tt)
    go false e = tt

none_refused : (s : Setting) (reg : List ℕ) (cs : List DeskCall) → NoDeskRefusal s reg cs → NoRefusal s reg (as_requests cs)
unfolding NoDeskRefusal NoRefusal as_requests
none_refused s reg [] n = tt
none_refused s reg (c ∷ cs) n =
    none_append s reg (as_request c) (as_requests cs) (none_first s reg c n.0)
    (rw (sym (call_after s reg c)) (none_refused s (desk_after s reg c) cs n.1))

-- ---- the third demand with extracts

desk_demand : (s : Setting) {reg : List ℕ} {c : Content} → Stores (length reg) c reg → (calls : List DeskCall) → DeskDemand s reg c calls
desk_demand s {reg} st calls =
    let d = demand s (as_requests calls) st in
    record {
      same_register = extracts_as_requests s reg calls;
      answered = answered s reg calls;
      demand = d;
      recorded = ap register_content (extracts_as_requests s reg calls) ∙ d.content;
      reordered = λ day calls' one π n n'.
          d.reordered day (as_requests calls') one (requests_perm π) (none_refused s reg calls n) (none_refused s reg calls' n');
      reordered_singles = λ day calls' one π n n'.
          d.reordered_singles day (as_requests calls') one π (none_refused s reg calls n) (none_refused s reg calls' n');
    }

pub desk_demand3 : DeskDemand3
desk_demand3 s w given mode rule_words rules calls e = desk_demand s (begun s w given mode rule_words rules e).stores calls

-- ---- with marks

as_requests_append : (cs ds : List DeskCall) → as_requests (cs ++ ds) ≡ as_requests cs ++ as_requests ds
unfolding as_requests
as_requests_append [] ds = refl
as_requests_append (c ∷ cs) ds =
    ap (λ l. as_request c ++ l) (as_requests_append cs ds) ∙ sym (append_assoc (as_request c) (as_requests cs) (as_requests ds))

-- what one call more is taken for
as_requests_last : (cs : List DeskCall) (c : DeskCall) → as_requests (cs ++ (c ∷ [])) ≡ as_requests cs ++ as_request c
unfolding as_requests
as_requests_last cs c = as_requests_append cs (c ∷ []) ∙ ap (λ l. as_requests cs ++ l) (append-nil (as_request c))

desk_run_append : (s : Setting) (reg : List ℕ) (cs ds : List DeskCall) → desk_run s reg (cs ++ ds) ≡ desk_run s (desk_run s reg cs) ds
unfolding desk_run
desk_run_append s reg [] ds = refl
desk_run_append s reg (c ∷ cs) ds = desk_run_append s (desk_after s reg c) cs ds

-- registers with one content answer alike
reply_as_request_alike : (s : Setting) {len : ℕ} {c : Content} {reg reg' : List ℕ} → Stores len c reg → Stores len c reg' → (x : DeskCall) →
    reply_as_request s reg x ≡ reply_as_request s reg' x
reply_as_request_alike s st st' (plain x) = reply_alike s st st' (like_refl _) x
reply_as_request_alike s st st' (extract w k hs t room) =
    ap (λ r. cond (formed hs t room) r (requested (refused out_of_form 0))) (reply_alike s st st' (like_refl _) (request w k))

lawful_desk_calls : (s : Setting) {len : ℕ} {c : Content} {reg : List ℕ} → Stores len c reg →
    Lawful (desk_calls_in s) len (desk_run s reg) (λ xs. read_off s len c (as_requests xs)) (λ k x. read_off s len k (as_request x))
unfolding desk_run
lawful_desk_calls s {len} {c} {reg} st = record {
  stores = λ xs. subst (Stores len _) (sym (extracts_as_requests s reg xs)) (run_stores s st (as_requests xs));
  last = λ xs x. ap (read_off s len c) (as_requests_last xs x) ∙ read_off_append s len c (as_requests xs) (as_request x);
  left_last = λ xs x. desk_run_append s reg xs (x ∷ []);
  step = λ {c} {reg} u x. subst (Stores len _) (sym (call_after s reg x)) (run_stores s u (as_request x));
  grows = λ k x. read_off_grows s len k (as_request x);
  alike = λ {c} {reg} {reg'} u u' x. call_reply s reg x ∙ reply_as_request_alike s u u' x ∙ sym (call_reply s reg' x);
}

desk_trial_demand : (s : Setting) {reg list : List ℕ} {c : Content} → Begun c reg → c.mode ≡ trial → MarkList list [] →
    (xs : List (TrialCall DeskCall)) → DeskTrialDemand s reg list c xs
unfolding read_off as_requests
desk_trial_demand s {reg} {list} o on_trial none-stands xs =
    let law = lawful_desk_calls s o.stores in
    let d = desk_demand s o.stores (amounts_to xs) in
    let holds : (ys : List (TrialCall DeskCall)) → HoldsAfter s reg _ (as_requests (amounts_to ys)) (trial_end (desk_calls_in s) reg list ys).register =
    λ ys. holds_after s (as_requests (amounts_to ys)) o.stores (end_stores law o.low o.high on_trial o.stores none-stands ys) in
    record {
      amounts = amounts law o.low o.high on_trial o.stores none-stands xs;
      demand = d;
      holds = holds xs;
      reordered = λ day ys h p n n'. holds_alike (holds xs) (holds ys) (d.reordered day (amounts_to ys) h p n n');
      reordered_singles = λ day ys h p n n'. holds_alike (holds xs) (holds ys) (d.reordered_singles day (amounts_to ys) h p n n');
    }

pub desk_trial_demand3 : DeskTrialDemand3
desk_trial_demand3 s w given list rule_words rules xs e size =
    desk_trial_demand s (begun s w given trial rule_words rules e) refl (cleared_marks list size) xs

pub desk_no_mark_law : DeskNoMarkLaw
unfolding desk_run read_off as_requests
desk_no_mark_law s w given mode list rule_words rules xs e unmarked =
    let o = begun s w given mode rule_words rules e in
    no_mark_run (lawful_desk_calls s o.stores) o.low o.high list (no_list unmarked) [] xs

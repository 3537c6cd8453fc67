-- Lists of calls on a trial register, with marks and returns: what they amount to. The invariant, `Follows`: the
-- register stores what the calls of the trail leave, the list of marks holds the trail's marks, and the calls that each
-- mark keeps begin those of the next, and the last those of the trail. It holds of calls of any kind that are `Lawful`.
use Prim.Native.Nat.{ℕ, ◌≤◌, ◌<◌}
use mathlib.Core.Path.{◌≡◌, refl, sym, ◌∙◌, ap, ap₂, subst, subst₂}
use mathlib.Core.Logic.{◌⊎◌, inl, inr, ◌≢◌}
use mathlib.Core.Bool.{Bool, true, false, cond}
use mathlib.Core.List.{List, [], ◌∷◌, ◌++◌, map, append-nil, append_assoc, map-append}
use mathlib.Core.Option.{Option, some, none}
use native.Mathlib.Omega.{arith}
use lib.Dec.{ltb, eqb}
use lib.ListN.{length, take, length-append, length-map}
use lib.Seq.{take-append_seam}
use borrow.Author.Tests.{le-leb, ltb-true, eqb-true, eq-eqb, ne_eqb}
use Rattle.logic.specs.Limits.{most_register}
use Rattle.logic.specs.Refusals.{register_length, no_mark, marks_full}
use Rattle.logic.specs.Result.{Result, ok, refused, ◌>>=◌, ◌>>◌, require, known, without_value}
use Rattle.logic.proofs.Basics.{clash, some_inj}
use Rattle.logic.proofs.Results.{bind_is, then_is, pass, true_both}
use Rattle.register.specs.Records.{Record, Content, header, RegisterMode, release_mode, trial_mode, release, trial, written}
use Rattle.register.specs.Calls.{length_test, new_content, open_call}
use Rattle.register.specs.History.{Setting, lent, Call, after, run, read_off, with_call}
use Rattle.register.specs.History.{Reordered}
use Rattle.register.specs.Marks.{Marked, Spot, Mark, mark_of, most_marks, standing, others, up_to, with_mark, room_for_mark, mark_list}
use Rattle.register.specs.Marks.{marks_of, MarkList}
use Rattle.register.specs.Marks.{with_marks, trial_content, spot_of, mark_call, after_mark, at_an_end, Returned, return_call, after_return, restored}
use Rattle.register.specs.Marks.{marks_after_return, spot_at_end, returned_to, Ends}
use Rattle.register.specs.Succeeds.{OfMode}
use Rattle.register.specs.Refuses.{NoMarks, MarkRefused, ReturnRefused, trial_27, mark_trial, mark_27, return_trial, return_27_list}
use Rattle.register.specs.Trials.{TrialCall, made, mark, return_to, Behaviour, calls_in, TrialState, replied, marked, returned, trial_reply}
use Rattle.register.specs.Trials.{trial_after, trial_run, Amounts, HoldsAfter, HoldsAlike}
use Rattle.register.specs.Trials.{trial_answers, trial_end, Trail, back_to, follow, trail, start, amounts_to, set_after, reply_along, answers_along}
use Rattle.register.specs.Trials.{TrialDemand, TrialDemand3, NeverSet, BackToMark, calls_made, NoMarkLaw}
use Rattle.register.proofs.Words.{Stores, stores_content}
use Rattle.register.proofs.Marks.{marks_right, marks_put, ends_right, unbroken_spot, stores_restored, up_to_fewer, cleared_marks}
use Rattle.register.proofs.MarkRefused.{mark_refused, return_refused}
use Rattle.register.proofs.Step.{step}
use Rattle.register.proofs.Run.{Grows, grows_refl, grows_trans, with_call_grows, read_off_append, run_append, run_stores}
use Rattle.register.proofs.Alike.{like_refl, reply_alike, check_alike, replies_alike}
use Rattle.register.proofs.Opening.{opened_stores}
use Rattle.register.proofs.Succeeds.{demand2}
use Rattle.register.proofs.Demand.{demand}
use Rattle.register.proofs.Unread.{stores_front, return_left, unread}

-- ---- the marks of a list of words, and those of a trail

module _ {X : Type 0} (left : List X → List ℕ) where
  abbrev set : List (Marked (List X)) → List Mark
  set ms = map (set_after left) ms

  others_set : (n : ℕ) (ms : List (Marked (List X))) → others n (set ms) ≡ set (others n ms)
  unfolding others
  others_set n [] = refl
  others_set n (m ∷ ms) = go (eqb m.number n) (others_set n ms)
    where
      go : (b : Bool) → others n (set ms) ≡ set (others n ms) →
          cond b (others n (set ms)) (set_after left m ∷ others n (set ms)) ≡ set (cond b (others n ms) (m ∷ others n ms))
      go true ih = ih
      go false ih = ap (λ (l : List Mark). set_after left m ∷ l) ih

  up_to_set : (n : ℕ) (ms : List (Marked (List X))) → up_to n (set ms) ≡ set (up_to n ms)
  unfolding up_to
  up_to_set n [] = refl
  up_to_set n (m ∷ ms) = ap (λ (l : List Mark). set_after left m ∷ l) (go (eqb m.number n) (up_to_set n ms))
    where
      go : (b : Bool) → up_to n (set ms) ≡ set (up_to n ms) → cond b [] (up_to n (set ms)) ≡ set (cond b [] (up_to n ms))
      go true ih = refl
      go false ih = ih

  -- the spot that calls leave
  abbrev spot_after : Option (List X) → Option Spot
  spot_after none = none
  spot_after (some before) = some (spot_of (left before))

  standing_set : (n : ℕ) (ms : List (Marked (List X))) → standing n (set ms) ≡ spot_after (standing n ms)
  unfolding standing
  standing_set n [] = refl
  standing_set n (m ∷ ms) = go (eqb m.number n) (standing_set n ms)
    where
      go : (b : Bool) → standing n (set ms) ≡ spot_after (standing n ms) →
          cond b (some (spot_of (left m.kept))) (standing n (set ms)) ≡ spot_after (cond b (some m.kept) (standing n ms))
      go true ih = refl
      go false ih = ih

  room_set : (n : ℕ) (ms : List (Marked (List X))) → room_for_mark n (set ms) ≡ room_for_mark n ms
  room_set n ms = ap (λ k. ltb k most_marks) (ap length (others_set n ms) ∙ length-map (others n ms) (set_after left))

-- ---- the marks of a trail are beginnings of each other and of its calls, in their order

record Begins {X : Type 0} (before calls : List X) : Type 0 where
  rest : List X
  split : calls ≡ before ++ rest

begins_refl : {X : Type 0} (calls : List X) → Begins calls calls
begins_refl calls = record { rest = []; split = sym (append-nil calls) }

begins_trans : {X : Type 0} {a b c : List X} → Begins a b → Begins b c → Begins a c
begins_trans {a} {b} {c} h k =
    record { rest = h.rest ++ k.rest; split = k.split ∙ ap (λ l. l ++ k.rest) h.split ∙ append_assoc a h.rest k.rest }

abbrev Chain : {X : Type 0} → List X → List (Marked (List X)) → List X → Type 0
Chain from [] calls = Begins from calls
Chain from (m ∷ ms) calls = Begins from m.kept × Chain m.kept ms calls

module _ {X : Type 0} (calls : List X) where
  chain_begins : (from : List X) (ms : List (Marked (List X))) → Chain from ms calls → Begins from calls
  chain_begins from [] h = h
  chain_begins from (m ∷ ms) h = begins_trans h.0 (chain_begins m.kept ms h.1)

  chain_from : (from to : List X) (ms : List (Marked (List X))) → Begins from to → Chain to ms calls → Chain from ms calls
  chain_from from to [] b h = begins_trans b h
  chain_from from to (m ∷ ms) b h = (begins_trans b h.0, h.1)

  chain_more : (more from : List X) (ms : List (Marked (List X))) → Begins calls more → Chain from ms calls → Chain from ms more
  chain_more more from [] b h = begins_trans h b
  chain_more more from (m ∷ ms) b h = (h.0, chain_more more m.kept ms b h.1)

  chain_others : (n : ℕ) (from : List X) (ms : List (Marked (List X))) → Chain from ms calls → Chain from (others n ms) calls
  unfolding others
  chain_others n from [] h = h
  chain_others n from (m ∷ ms) h = go (eqb m.number n) (chain_others n m.kept ms h.1)
    where
      go : (b : Bool) → Chain m.kept (others n ms) calls → Chain from (cond b (others n ms) (m ∷ others n ms)) calls
      go true ih = chain_from from m.kept (others n ms) h.0 ih
      go false ih = (h.0, ih)

  chain_last : (n : ℕ) (from : List X) (ms : List (Marked (List X))) → Chain from ms calls → Chain from (ms ++ (mark_of n calls ∷ [])) calls
  chain_last n from [] h = (h, begins_refl calls)
  chain_last n from (m ∷ ms) h = (h.0, chain_last n m.kept ms h.1)

  chain_up_to : (n : ℕ) (from : List X) (ms : List (Marked (List X))) (before : List X) → Chain from ms calls → standing n ms ≡ some before →
      Chain from (up_to n ms) before × Begins before calls
  unfolding standing up_to
  chain_up_to n from [] before h e = absurd (clash (cc))
  chain_up_to n from (m ∷ ms) before h e = go (eqb m.number n) e (chain_up_to n m.kept ms before h.1)
    where
      go : (b : Bool) → cond b (some m.kept) (standing n ms) ≡ some before →
          (standing n ms ≡ some before → Chain m.kept (up_to n ms) before × Begins before calls) →
          (Begins from m.kept × Chain m.kept (cond b [] (up_to n ms)) before) × Begins before calls
      go true e ih = subst (λ x. (Begins from m.kept × Begins m.kept x) × Begins x calls) (some_inj e)
          ((h.0, begins_refl m.kept), chain_begins m.kept ms h.1)
      go false e ih = let k = ih e in ((h.0, k.0), k.1)

-- ---- calls of a kind whose content is known

-- `content` is what calls leave of a register, `left` its words, and `next` what one call makes of a content
pub record Lawful {X : Type 0} (b : Behaviour X) (len : ℕ) (left : List X → List ℕ) (content : List X → Content) (next : Content → X → Content) : Type 0 where
  pub stores : (xs : List X) → Stores len (content xs) (left xs)
  pub last : (xs : List X) (x : X) → content (xs ++ (x ∷ [])) ≡ next (content xs) x
  pub left_last : (xs : List X) (x : X) → left (xs ++ (x ∷ [])) ≡ b.after (left xs) x
  pub step : {c : Content} {reg : List ℕ} → Stores len c reg → (x : X) → Stores len (next c x) (b.after reg x)
  pub grows : (c : Content) (x : X) → Grows c (next c x)
  pub alike : {c : Content} {reg reg' : List ℕ} → Stores len c reg → Stores len c reg' → (x : X) → b.reply reg x ≡ b.reply reg' x

in_range : {len : ℕ} → header ≤ len → len ≤ most_register → length_test len ≡ ok tt
in_range {len} low high = ap (λ b. require b register_length 0) (true_both (le-leb header len low) (le-leb len most_register high))

-- ---- a mark call on a register whose content is known, with a list whose marks are known

module _ {len : ℕ} {c : Content} {reg list : List ℕ} {ms : List Mark} (range : length_test len ≡ ok tt) (on_trial : c.mode ≡ trial) (st : Stores len c reg)
    (listed : MarkList list ms) where
  listed_marks : known no_mark 0 (marks_of list) ≡ ok ms
  listed_marks = ap (known no_mark 0) ((marks_right list ms).1 listed)

  trial_stores : trial_content reg ≡ ok c
  trial_stores = then_is _ (ap length_test st.size ∙ range) (bind_is _ (stores_content st) (pass _ _ (eq-eqb c.mode trial on_trial) refl))

  mark_stores : (n : ℕ) → mark_call reg list n ≡ (require (room_for_mark n ms) marks_full 0 >> ok (with_mark n (spot_of reg) ms))
  mark_stores n = then_is _ trial_stores (bind_is _ listed_marks refl)

  return_stores : (n : ℕ) (m : Spot) → standing n ms ≡ some m → Ends c.records m → return_call reg list n ≡ ok (record { spot = m; marks = up_to n ms })
  return_stores n m e h =
      bind_is _ trial_stores (bind_is _ listed_marks (bind_is _ (ap (known no_mark 0) e) (pass _ _ ((ends_right c.records m).1 h) refl)))

  return_unknown : (n : ℕ) → standing n ms ≡ none → return_call reg list n ≡ refused no_mark 0
  return_unknown n e =
      bind_is _ trial_stores (bind_is _ listed_marks
      (ap (λ (o : Option Spot). known no_mark 0 o >>= (λ m. require (at_an_end c.records m) no_mark 0 >> ok (record { spot = m; marks = up_to n ms }))) e))

-- ---- the two lists follow the trail

module _ {X : Type 0} {b : Behaviour X} {len : ℕ} {left : List X → List ℕ} {content : List X → Content} {next : Content → X → Content}
    (law : Lawful b len left content next) where
  grows_behind : (xs ys : List X) → Grows (content xs) (content (xs ++ ys))
  grows_behind xs [] = rw (append-nil xs) (grows_refl (content xs))
  grows_behind xs (y ∷ ys) =
      let one : Grows (content xs) (content (xs ++ (y ∷ []))) = subst (Grows (content xs)) (sym (law.last xs y)) (law.grows (content xs) y) in
      let all : Grows (content (xs ++ (y ∷ []))) (content (xs ++ (y ∷ ys))) =
      subst (λ zs. Grows (content (xs ++ (y ∷ []))) (content zs)) (append_assoc xs (y ∷ []) ys) (grows_behind (xs ++ (y ∷ [])) ys) in
      grows_trans one all

  grows_from : {before calls : List X} → Begins before calls → Grows (content before) (content calls)
  grows_from {before} h = subst (λ zs. Grows (content before) (content zs)) (sym h.split) (grows_behind before h.rest)

  of_mode : (calls : List X) → (content calls).mode ≡ (content []).mode
  of_mode calls = (grows_behind [] calls).mode

  spot_at : (calls : List X) → spot_of (left calls) ≡ spot_at_end (content calls)
  spot_at calls = unbroken_spot (law.stores calls).unbroken

  -- a mark that stands is at the end of a record
  ends : {before calls : List X} → Begins before calls → Ends (content calls).records (spot_of (left before))
  ends {before} {calls} h =
      let g = grows_from h in
      subst (Ends (content calls).records) (sym (spot_at before))
      (record { before = (content before).records; behind = g.more; split = g.records; count = refl; used = refl })

  -- and a return to it leaves what the calls before it left
  back : {before calls : List X} → Begins before calls → returned_to (content calls) (spot_of (left before)) ≡ content before
  back {before} {calls} h =
      let g = grows_from h in
      let m = spot_at before in
      let first : take (spot_of (left before)).count (content calls).records ≡ (content before).records =
      ap₂ take (ap (λ (x : Spot). x.count) m) g.records ∙ take-append_seam (content before).records g.more in
      λ i. record { mode = g.mode i; latest = (m i).latest; records = first i }

  record Follows (d : TrialState) (t : Trail X) : Type 0 where
    stored : Stores len (content t.calls) d.register
    listed : MarkList d.marks (set left t.marks)
    chain : Chain [] t.marks t.calls

  -- one call, on a trial register of a length that is in range
  module _ (range : length_test len ≡ ok tt) (on_trial : (content []).mode ≡ trial) where
    record Goes (d : TrialState) (t : Trail X) (x : TrialCall X) : Type 0 where
      follows : Follows (trial_after b d x) (follow t x)
      answer : trial_reply b d x ≡ reply_along b left t x

    still_trial : (calls : List X) → (content calls).mode ≡ trial
    still_trial calls = of_mode calls ∙ on_trial

    made_step : {d : TrialState} {t : Trail X} → Follows d t → (x : X) → Goes d t (made x)
    made_step {d} {t} f x = record {
      follows = record {
        stored = subst (λ k. Stores len k (b.after d.register x)) (sym (law.last t.calls x)) (law.step f.stored x);
        listed = f.listed;
        chain = chain_more t.calls (t.calls ++ (x ∷ [])) [] t.marks (record { rest = x ∷ []; split = refl }) f.chain;
      };
      answer = ap replied (law.alike f.stored (law.stores t.calls) x);
    }

    mark_step : {d : TrialState} {t : Trail X} → Follows d t → (n : ℕ) → Goes d t (mark n)
    mark_step {d} {t} f n = go (room_for_mark n t.marks) refl
      where
        ms : List Mark
        ms = set left t.marks

        -- what the call gives
        given : Bool → Result (List Mark)
        given b = require b marks_full 0 >> ok (with_mark n (spot_of d.register) ms)

        call : mark_call d.register d.marks n ≡ given (room_for_mark n t.marks)
        call = mark_stores range (still_trial t.calls) f.stored f.listed n ∙ ap given (room_set left n t.marks)

        same : with_mark n (spot_of d.register) ms ≡ set left (with_mark n t.calls t.marks)
        same =
            ap₂ (λ (l : List Mark) (m : Spot). l ++ (mark_of n m ∷ [])) (others_set left n t.marks)
            (unbroken_spot f.stored.unbroken ∙ sym (spot_at t.calls))
            ∙ sym (map-append (set_after left) (others n t.marks) (mark_of n t.calls ∷ []))

        by : (b : Bool) → room_for_mark n t.marks ≡ b → Follows (record { register = d.register; marks = after_mark (given b) d.marks })
            (record { calls = t.calls; marks = cond b (with_mark n t.calls t.marks) t.marks })
        by true r =
            let few : length (others n t.marks) < most_marks = ltb-true (length (others n t.marks)) most_marks r in
            let new = with_mark n t.calls t.marks in
            let size : length (set left new) ≤ most_marks =
            omega (arith, length-map new (set_after left), length-append (others n t.marks) (mark_of n t.calls ∷ [])) in
            record {
              stored = f.stored;
              listed = subst (λ (l : List Mark). MarkList (with_marks d.marks l) (set left new)) (sym same)
                  (marks_put d.marks (set left new) f.listed.size size);
              chain = chain_last t.calls n [] (others n t.marks) (chain_others t.calls n [] t.marks f.chain);
            }
        by false r = f

        told : (b : Bool) → without_value (given b) ≡ require b marks_full 0
        told true = refl
        told false = refl

        go : (b : Bool) → room_for_mark n t.marks ≡ b → Goes d t (mark n)
        go b r = record {
          follows = subst₂ Follows
              (ap (λ (x : Result (List Mark)). record { register = d.register; marks = after_mark x d.marks }) (sym (call ∙ ap given r)))
              (ap (λ x. record { calls = t.calls; marks = cond x (with_mark n t.calls t.marks) t.marks }) (sym r)) (by b r);
          answer = ap marked (ap without_value call ∙ told (room_for_mark n t.marks));
        }

    return_step : {d : TrialState} {t : Trail X} → Follows d t → (n : ℕ) → Goes d t (return_to n)
    return_step {d} {t} f n = go (standing n t.marks) refl
      where
        ms : List Mark
        ms = set left t.marks

        found : (o : Option (List X)) → standing n t.marks ≡ o → standing n ms ≡ spot_after left o
        found o e = standing_set left n t.marks ∙ ap (spot_after left) e

        -- by what the call answers
        by : (o : Option (List X)) (r : Result Returned) → standing n t.marks ≡ o → return_call d.register d.marks n ≡ r →
            without_value r ≡ without_value (known no_mark 0 o) →
            Follows (record { register = after_return r d.register; marks = marks_after_return r d.marks }) (back_to t n o) → Goes d t (return_to n)
        by o r e call e' h = record {
          follows = subst₂ Follows
              (ap (λ (x : Result Returned). record { register = after_return x d.register; marks = marks_after_return x d.marks }) (sym call))
              (ap (back_to t n) (sym e)) h;
          answer = ap returned (ap without_value call ∙ e' ∙ ap (λ (o : Option (List X)). without_value (known no_mark 0 o)) (sym e));
        }

        go : (o : Option (List X)) → standing n t.marks ≡ o → Goes d t (return_to n)
        go none e = by none (refused no_mark 0) e (return_unknown range (still_trial t.calls) f.stored f.listed n (found none e)) refl f
        go (some before) e =
            let (chain, begins) = chain_up_to t.calls n [] t.marks before f.chain e in
            let m : Spot = spot_of (left before) in
            let call = return_stores range (still_trial t.calls) f.stored f.listed n m (found (some before) e) (ends begins) in
            let few : length (up_to n ms) ≤ most_marks = omega (arith, up_to_fewer n ms, f.listed.few) in
            by (some before) (ok (record { spot = m; marks = up_to n ms })) e call refl (record {
              stored = subst (λ k. Stores len k (restored d.register m)) (back begins) (stores_restored m f.stored (ends begins));
              listed = subst (MarkList (with_marks d.marks (up_to n ms))) (up_to_set left n t.marks)
                  (marks_put d.marks (up_to n ms) f.listed.size few);
              chain = chain;
            })

    call_step : {d : TrialState} {t : Trail X} → Follows d t → (x : TrialCall X) → Goes d t x
    call_step f (made x) = made_step f x
    call_step f (mark n) = mark_step f n
    call_step f (return_to n) = return_step f n

    run_follows : {d : TrialState} {t : Trail X} → Follows d t → (xs : List (TrialCall X)) → Follows (trial_run b d xs) (trail t xs)
    unfolding trial_run trail
    run_follows f [] = f
    run_follows {d} {t} f (x ∷ xs) = run_follows {d = trial_after b d x} (call_step f x).follows xs

    run_answered : {d : TrialState} {t : Trail X} → Follows d t → (xs : List (TrialCall X)) → trial_answers b d xs ≡ answers_along b left t xs
    unfolding trial_answers answers_along
    run_answered f [] = refl
    run_answered {d} {t} f (x ∷ xs) = ap₂ (λ y ys. y ∷ ys) (call_step f x).answer (run_answered {d = trial_after b d x} (call_step f x).follows xs)

  -- registers with the same content answer alike, with marks and returns too
  answers_alike : {c : Content} {reg reg' : List ℕ} (list : List ℕ) → Stores len c reg → Stores len c reg' → (xs : List (TrialCall X)) →
      trial_answers b (record { register = reg; marks = list }) xs ≡ trial_answers b (record { register = reg'; marks = list }) xs
  unfolding trial_answers
  answers_alike list st st' [] = refl
  answers_alike {c} list st st' (made x ∷ xs) =
      ap₂ (λ y ys. y ∷ ys) (ap replied (law.alike st st' x)) (answers_alike {c = next c x} list (law.step st x) (law.step st' x) xs)
  answers_alike {reg} {reg'} list st st' (mark n ∷ xs) =
      let call = unread.marks list n (stores_front st st') in
      ap₂ (λ y ys. y ∷ ys) (ap (λ (r : Result (List Mark)). marked (without_value r)) call)
      (answers_alike (after_mark (mark_call reg list n) list) st st' xs
      ∙ ap (λ (r : Result (List Mark)). trial_answers b (record { register = reg'; marks = after_mark r list }) xs) call)
  answers_alike {reg} {reg'} list st st' (return_to n ∷ xs) =
      let call = unread.returns list n (stores_front st st') in
      let (c₁, st₁, st₂) = return_left st st' list n (return_call reg list n) refl in
      ap₂ (λ y ys. y ∷ ys) (ap (λ (r : Result Returned). returned (without_value r)) call)
      (answers_alike {c = c₁} (marks_after_return (return_call reg list n) list) st₁ st₂ xs
      ∙ ap (λ (r : Result Returned). trial_answers b (record { register = after_return r reg'; marks = marks_after_return r list }) xs) call)

  -- ---- what a list amounts to, on a trial register just opened

  module _ (low : header ≤ len) (high : len ≤ most_register) (on_trial : (content []).mode ≡ trial) {reg list : List ℕ} (st : Stores len (content []) reg)
      (none-stands : MarkList list []) (xs : List (TrialCall X)) where
    at_end : Follows (trial_end b reg list xs) (trail start xs)
    at_end = run_follows (in_range low high) on_trial (record { stored = st; listed = none-stands; chain = begins_refl [] }) xs

    pub end_stores : Stores len (content (amounts_to xs)) (trial_end b reg list xs).register
    end_stores = at_end.stored

    pub amounts : Amounts b left reg list xs
    amounts = record {
      same = stores_front end_stores (law.stores (amounts_to xs));
      marks = (marks_right (trial_end b reg list xs).marks (set left (trail start xs).marks)).1 at_end.listed;
      answered = run_answered (in_range low high) on_trial (record { stored = st; listed = none-stands; chain = begins_refl [] }) xs;
      later = answers_alike (trial_end b reg list xs).marks end_stores (law.stores (amounts_to xs));
    }

  -- ---- on a release register, and with a list that holds no marks, every mark call is refused

  module _ (low : header ≤ len) (high : len ≤ most_register) (list : List ℕ) (unmarked : ((content []).mode ≡ release) ⊎ NoMarks list) where
    opened_as : {m : ℕ} → (content []).mode ≡ m → (calls : List X) → OfMode m (left calls) (content calls)
    opened_as e calls =
        let u = law.stores calls in
        record { not_shorter = omega (arith, low, u.size); not_longer = omega (arith, high, u.size); unbroken = u.unbroken; of_mode = of_mode calls ∙ e }

    refused_27 : (calls : List X) (n : ℕ) → MarkRefused (left calls) list n no_mark 0 × ReturnRefused (left calls) list n no_mark 0
    refused_27 calls n = go unmarked
      where
        released : (content []).mode ≡ release → MarkRefused (left calls) list n no_mark 0 × ReturnRefused (left calls) list n no_mark 0
        released e = let no = trial_27 (opened_as e calls) in (mark_trial no, return_trial no)

        either : {m : ℕ} → RegisterMode m → (content []).mode ≡ m → NoMarks list →
            MarkRefused (left calls) list n no_mark 0 × ReturnRefused (left calls) list n no_mark 0
        either release_mode e none-known = released e
        either trial_mode e none-known = let o = opened_as e calls in (mark_27 o none-known, return_27_list o none-known)

        go : ((content []).mode ≡ release) ⊎ NoMarks list → MarkRefused (left calls) list n no_mark 0 × ReturnRefused (left calls) list n no_mark 0
        go (inl e) = released e
        go (inr none-known) = either (law.stores []).unbroken.known_mode refl none-known

    pub no_mark_run : (before : List X) (xs : List (TrialCall X)) →
        trial_end b (left before) list xs ≡ record { register = left (before ++ calls_made xs); marks = list }
    unfolding trial_run calls_made
    no_mark_run before [] = ap (λ l. record { register = left l; marks = list }) (sym (append-nil before))
    no_mark_run before (made x ∷ xs) =
        ap (λ r. trial_end b r list xs) (sym (law.left_last before x)) ∙ no_mark_run (before ++ (x ∷ [])) xs
        ∙ ap (λ l. record { register = left l; marks = list }) (append_assoc before (x ∷ []) (calls_made xs))
    no_mark_run before (mark n ∷ xs) =
        ap (λ r. trial_end b (left before) (after_mark r list) xs) ((mark_refused (left before) list n no_mark 0).1 (refused_27 before n).0)
        ∙ no_mark_run before xs
    no_mark_run before (return_to n ∷ xs) =
        ap (λ r. trial_end b (after_return r (left before)) (marks_after_return r list) xs)
        ((return_refused (left before) list n no_mark 0).1 (refused_27 before n).1) ∙ no_mark_run before xs

-- ---- says, requests and batches

lawful_calls : (s : Setting) {len : ℕ} {c : Content} {reg : List ℕ} → Stores len c reg →
    Lawful (calls_in s) len (run s reg) (read_off s len c) (with_call s len)
unfolding run read_off
lawful_calls s {len} {c} {reg} st = record {
  stores = run_stores s st;
  last = λ xs x. read_off_append s len c xs (x ∷ []);
  left_last = λ xs x. run_append s reg xs (x ∷ []);
  step = λ u x. (step s u x).stored;
  grows = with_call_grows s len;
  alike = λ u u' x. reply_alike s u u' (like_refl _) x;
}

-- ---- the third demand

-- a register with the content that calls leave
pub holds_after : (s : Setting) {c : Content} {reg end : List ℕ} (calls : List Call) → Stores (length reg) c reg →
    Stores (length reg) (read_off s (length reg) c calls) end → HoldsAfter s reg c calls end
holds_after s calls st st' =
    let d = demand s calls st in
    let r = run_stores s st calls in
    let spot = unbroken_spot st'.unbroken ∙ sym (unbroken_spot r.unbroken) in
    record {
      content = stores_content st';
      rechecks = λ k m w long. check_alike st' r (like_refl _) (lent s w) k.day k.proof ∙ d.rechecks k m w long;
      words = ap (λ (m : Spot). m.used) spot ∙ d.words;
      day = ap (λ (m : Spot). m.latest) spot ∙ d.day;
      later = replies_alike st' r (like_refl _);
    }

-- two registers that hold what two orders leave
pub holds_alike : {s : Setting} {c : Content} {reg end end' : List ℕ} {calls calls' : List Call} → HoldsAfter s reg c calls end →
    HoldsAfter s reg c calls' end' → Reordered s reg c calls calls' → HoldsAlike end end'
holds_alike h h' r = record {
  content = _;
  content' = _;
  read = h.content;
  read' = h'.content;
  held = r.held_alike;
  later = λ later. h.later later ∙ r.replies_alike later ∙ sym (h'.later later);
}

-- an opening that succeeded leaves a register of a length that calls take
pub record Begun (c : Content) (reg : List ℕ) : Type 0 where
  pub low : header ≤ length reg
  pub high : length reg ≤ most_register
  pub stores : Stores (length reg) c reg

pub begun : (s : Setting) (w : ℕ) (given : List ℕ) (mode : ℕ) (rule_words : List ℕ) (rules : List Record) →
    open_call (lent s w) given mode rule_words ≡ ok rules → Begun (new_content mode rules) (written given (new_content mode rules))
begun s w given mode rule_words rules e =
    let o = (opened_stores (lent s w) given mode rule_words rules e).1 in
    let r = ((demand2.opens (lent s w) given mode rule_words rules).0 e).ready in
    record { low = omega (arith, r.not_shorter, o.size); high = omega (arith, r.not_longer, o.size); stores = rw o.size o }

trial_demand : (s : Setting) {reg list : List ℕ} {c : Content} → Begun c reg → c.mode ≡ trial → MarkList list [] →
    (xs : List (TrialCall Call)) → TrialDemand s reg list c xs
unfolding read_off
trial_demand s {reg} {list} o on_trial none-stands xs =
    let law = lawful_calls s o.stores in
    let d = demand s (amounts_to xs) o.stores in
    let holds : (ys : List (TrialCall Call)) → HoldsAfter s reg _ (amounts_to ys) (trial_end (calls_in s) reg list ys).register =
    λ ys. holds_after s (amounts_to ys) o.stores (end_stores law o.low o.high on_trial o.stores none-stands ys) in
    record {
      amounts = amounts law o.low o.high on_trial o.stores none-stands xs;
      demand = d;
      holds = holds xs;
      reordered = λ day ys h p n n'. holds_alike (holds xs) (holds ys) (d.reordered day (amounts_to ys) h p n n');
      reordered_singles = λ day ys h p n n'. holds_alike (holds xs) (holds ys) (d.reordered_singles day (amounts_to ys) h p n n');
    }

pub trial_demand3 : TrialDemand3
trial_demand3 s w given list rule_words rules xs e size =
    trial_demand s (begun s w given trial rule_words rules e) refl (cleared_marks list size) xs

-- a list of another length holds no marks
pub no_list : {mode : ℕ} {list : List ℕ} → (mode ≡ release) ⊎ (length list ≢ mark_list) → (mode ≡ release) ⊎ NoMarks list
no_list (inl e) = inl e
no_list (inr other) = inr (λ ms h. other h.size)

pub no_mark_law : NoMarkLaw
unfolding run read_off
no_mark_law s w given mode list rule_words rules xs e unmarked =
    let o = begun s w given mode rule_words rules e in
    no_mark_run (lawful_calls s o.stores) o.low o.high list (no_list unmarked) [] xs

-- ---- the sentence itself

module _ {X : Type 0} where
  trail_append : (t : Trail X) (xs ys : List (TrialCall X)) → trail t (xs ++ ys) ≡ trail (trail t xs) ys
  unfolding trail
  trail_append t [] ys = refl
  trail_append t (x ∷ xs) ys = trail_append (follow t x) xs ys

  -- a mark just set stands
  standing_now : (n : ℕ) (x : List X) (ms : List (Marked (List X))) → standing n (with_mark n x ms) ≡ some x
  unfolding standing others
  standing_now n x [] = rw (eq-eqb n n refl) refl
  standing_now n x (m ∷ ms) = go (eqb m.number n) refl (standing_now n x ms)
    where
      go : (b : Bool) → eqb m.number n ≡ b → standing n (others n ms ++ (mark_of n x ∷ [])) ≡ some x →
          standing n (cond b (others n ms) (m ∷ others n ms) ++ (mark_of n x ∷ [])) ≡ some x
      go true e ih = ih
      go false e ih = rw e ih

  -- setting another leaves it
  standing_other : (n k : ℕ) (x : List X) (ms : List (Marked (List X))) → k ≢ n → standing n (with_mark k x ms) ≡ standing n ms
  unfolding standing others
  standing_other n k x [] d = rw (ne_eqb k n d) refl
  standing_other n k x (m ∷ ms) d = go (eqb m.number k) refl (standing_other n k x ms d)
    where
      go : (b : Bool) → eqb m.number k ≡ b → standing n (others k ms ++ (mark_of k x ∷ [])) ≡ standing n ms →
          standing n (cond b (others k ms) (m ∷ others k ms) ++ (mark_of k x ∷ [])) ≡ cond (eqb m.number n) (some m.kept) (standing n ms)
      go true e ih =
          let other : eqb m.number n ≡ false = ap (λ i. eqb i n) (eqb-true m.number k e) ∙ ne_eqb k n d in
          ih ∙ sym (ap (λ b. cond b (some m.kept) (standing n ms)) other)
      go false e ih = ap (λ o. cond (eqb m.number n) (some m.kept) o) ih

  -- a return removes it or leaves it
  standing_up_to : (n k : ℕ) (ms : List (Marked (List X))) (y : List X) → standing n (up_to k ms) ≡ some y → standing n ms ≡ some y
  unfolding standing up_to
  standing_up_to n k [] y e = e
  standing_up_to n k (m ∷ ms) y e = go (eqb m.number n) (eqb m.number k) e (standing_up_to n k ms y)
    where
      go : (b d : Bool) → cond b (some m.kept) (standing n (cond d [] (up_to k ms))) ≡ some y → (standing n (up_to k ms) ≡ some y → standing n ms ≡ some y) →
          cond b (some m.kept) (standing n ms) ≡ some y
      go true d e ih = e
      go false true e ih = absurd (clash (cc))
      go false false e ih = ih e

  -- what is kept under n, if anything is, is x
  abbrev Keeps : ℕ → List X → List (Marked (List X)) → Type 0
  Keeps n x ms = (y : List X) → standing n ms ≡ some y → y ≡ x

  keeps_follow : (n : ℕ) (x : List X) (t : Trail X) (ys : List (TrialCall X)) → NeverSet n ys → Keeps n x t.marks → Keeps n x (trail t ys).marks
  unfolding trail NeverSet
  keeps_follow n x t [] h k = k
  keeps_follow n x t (made c ∷ ys) h k = keeps_follow n x (follow t (made c)) ys h k
  keeps_follow n x t (mark j ∷ ys) h k = keeps_follow n x (follow t (mark j)) ys h.1 (go (room_for_mark j t.marks))
    where
      go : (b : Bool) → Keeps n x (cond b (with_mark j t.calls t.marks) t.marks)
      go true y e = k y (sym (standing_other n j t.calls t.marks h.0) ∙ e)
      go false y e = k y e
  keeps_follow n x t (return_to j ∷ ys) h k = keeps_follow n x (follow t (return_to j)) ys h (go (standing j t.marks))
    where
      go : (o : Option (List X)) → Keeps n x (back_to t j o).marks
      go none y e = k y e
      go (some before) y e = k y (standing_up_to n j t.marks y e)

  pub back_to_mark : BackToMark X
  unfolding trail
  back_to_mark n xs ys before room never stands =
      let t = trail start xs in
      let set : Trail X = follow t (mark n) in
      let marks : set.marks ≡ with_mark n t.calls t.marks = ap (λ b. cond b (with_mark n t.calls t.marks) t.marks) room in
      let now : standing n set.marks ≡ some t.calls = ap (standing n) marks ∙ standing_now n t.calls t.marks in
      let there : standing n (trail set ys).marks ≡ some before =
      sym (ap (λ (u : Trail X). standing n u.marks) (trail_append start xs (mark n ∷ ys))) ∙ stands in
      let same : before ≡ t.calls = keeps_follow n t.calls set ys never (λ y e. some_inj (sym e ∙ now)) before there in
      let all : trail start (xs ++ (mark n ∷ (ys ++ (return_to n ∷ [])))) ≡ back_to (trail set ys) n (standing n (trail set ys).marks) =
      trail_append start xs (mark n ∷ (ys ++ (return_to n ∷ []))) ∙ trail_append set ys (return_to n ∷ []) in
      (same, ap (λ (u : Trail X). u.calls) (all ∙ ap (back_to (trail set ys) n) there) ∙ same)

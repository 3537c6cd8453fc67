-- A load's says and requests all succeed, as specs/Passes says.
use Rattle.std.proofs.Common.{◌≡◌, ℕ, zero, suc, ◌+◌, ◌*◌, ◌<◌, ◌≤◌, Bool, true, false, cond, not, ◌≢◌, List, [], ◌∷◌}
use Rattle.std.proofs.Common.{◌++◌, length, sym, refl, ap, subst, append-nil, arith}
use mathlib.Core.List.Memᴰ
use mathlib.Core.List.{Memᴰ}
use mathlib.Core.Option.{some}
use native.Mathlib.Decide.{ℕ_discrete}
use lib.ListN.{get_elem?}
use Rattle.logic.specs.Limits.{payloads, least_workspace, most_register}
use Rattle.logic.specs.Result.{Result, ok}
use Rattle.logic.specs.Term.{P, S, Pi, size, encode}
use Rattle.logic.specs.Move.{shift, fill_at, occurs}
use Rattle.logic.specs.Scope.{no_binder}
use Rattle.logic.specs.Typing.{has_sign}
use Rattle.logic.specs.Measured.{Measured}
use Rattle.logic.specs.Reading.{Plain, depth, first_miss}
use Rattle.logic.specs.Check.{Stated}
use Rattle.logic.specs.Infer.{infer, same_term, conclusion}
use Rattle.logic.specs.SignatureList.{signature, permit, receipt_of}
use Rattle.logic.specs.Worked.{sample, rule}
use Rattle.logic.proofs.Basics.{clash}
use Rattle.logic.proofs.Soundness.{sound}
use Rattle.logic.proofs.Signatures.{sample_signature}
use Rattle.logic.proofs.SignatureList.{signature_right}
use Rattle.register.specs.Records.{Record, Statement, statement_of, Ask, ask_of, Content, dated, used, words_of, statements, states, States, Held}
use Rattle.register.specs.Calls.{say_entry, say_call, request_call}
use Rattle.register.specs.Succeeds.{Ready, SignsHeld, Adds, held_before, added_now}
use Rattle.register.specs.History.{Setting, lent, Call, say, request, said, requested, reply, after, grown, latest_with, effect, say_words}
use Rattle.register.specs.History.{grant_words, call_words, one_if_ok, grants, Refused, NoRefusal}
use Rattle.register.proofs.Words.{Stores, stores_fit}
use Rattle.register.proofs.Held.{CoveredIn, holding_covered, states_right}
use Rattle.register.proofs.Shared.{signs_right}
use Rattle.register.proofs.Succeeds.{demand2}
use Rattle.register.proofs.Step.{say_states, grown_states, step}
use Rattle.forms.specs.Forms.{rule_form, consent_form, proof_form}
use Rattle.forms.proofs.Granted.{DerivesProp, pair_granted}
use Rattle.load.specs.Refuses.{DrawnAt, PrincipalOf, by_1, as_drawn, LoadOf, no_request, one_more}
use Rattle.load.specs.Passes.{Extras, Suited, load_calls, say_adds, request_adds, LoadPasses, AllPass}

-- ---- the propositions derive under the sample signature

rule_derived : DerivesProp sample (rule_form 2 0)
unfolding infer same_term conclusion shift fill_at occurs size ℕ_discrete
rule_derived = sound sample sample_signature (rule_form 2 0) [] 0 no_binder refl

said_derived : (v : ℕ) → DerivesProp sample (consent_form 2 v)
unfolding infer same_term conclusion shift fill_at occurs size ℕ_discrete
said_derived v = sound sample sample_signature (consent_form 2 v) [] 0 no_binder refl

said_stated : (a v : ℕ) → v < payloads → Stated sample a (encode (consent_form 2 v)) (consent_form 2 v)
unfolding encode size Plain depth Measured
said_stated a v h = record {
  term = record { plain = (omega arith, h); words = refl; some_word = omega arith; not_more = omega arith; nested = omega arith };
  derivation = has_sign (said_derived v).0;
  measured = ((said_derived v).1, omega arith);
}

-- no Sign stands in what is said
said_signs : (day v : ℕ) (rs : List Record) → SignsHeld (some day) rs (consent_form 2 v)
unfolding first_miss
said_signs day v rs = (signs_right (some day) rs (consent_form 2 v)).0 refl

-- ---- answers that are no refusals, and what a say leaves

said_ok : {b : Bool} → Refused (said (ok b)) → ⊥
said_ok = elim [ ]

granted_ok : Refused (requested (ok tt)) → ⊥
granted_ok = elim [ ]

-- a grant more
one_granted : {r : Result (Unit {0})} {n : ℕ} (k : Ask) (ks : List Ask) → r ≡ ok tt → length ks ≡ n → length (one_if_ok r k ++ ks) ≡ suc n
one_granted {n} k ks e f = subst (λ r. length (one_if_ok r k ++ ks) ≡ suc n) (sym e) (ap suc f)

-- the statement stands, also where it stood before
say_leaves : (c : Content) (w day : ℕ) (st : Statement) → States (effect c (say w day st)).records st
say_leaves c w day st = go (states (statements c.records) st) refl
  where
    go : (b : Bool) → states (statements c.records) st ≡ b → States (grown c day (cond b [] (say_entry st))).records st
    go true e = subst (λ rs. States rs st) (sym (append-nil c.records)) ((states_right c.records st).0 e)
    go false e =
        subst (Memᴰ (dated st)) (sym (grown_states c day (say_entry st) (dated st ∷ []) (say_states st)))
        (Memᴰ.append_right (statements c.records) (Memᴰ.head refl))

-- ---- what is drawn

record Drawn (v a u : ℕ) : Type 0 where
  extract : v < payloads
  principal : a < payloads
  not_desk : a ≢ 0
  delivery : u < payloads

drawn : {s₁ s₂ s₃ v x a u : ℕ} → DrawnAt s₁ v → DrawnAt s₂ x → PrincipalOf x a → DrawnAt s₃ u → Drawn v a u
drawn dv dx by_1 du = record { extract = dv.below; principal = omega arith; not_desk = λ e. omega arith; delivery = du.below }
drawn dv dx (as_drawn n) du = record { extract = dv.below; principal = dx.below; not_desk = n; delivery = du.below }

-- the statement, the request and the two calls that are made of it
abbrev statement_by : Extras → (v a : ℕ) → Statement
statement_by w v a = statement_of a w.first w.last (encode (consent_form 2 v))

abbrev ask_on : (day v a u : ℕ) → Ask
ask_on day v a u = ask_of 0 v u day (encode (proof_form 0 2 v a))

abbrev say_on : Extras → (day v a : ℕ) → Call
say_on w day v a = say w.say_workspace day (statement_by w v a)

abbrev request_on : Extras → (day v a u : ℕ) → Call
request_on w day v a u = request w.request_workspace (ask_on day v a u)

-- ---- one say and one request

module _ (s : Setting) (accepted : signature s.sig ≡ ok sample) (one : s.n ≡ 1) (len day : ℕ) (long : len ≤ most_register) where
  -- the register stores a content with the rule, on no day after this one, and has room for `more` words
  record Going (more : ℕ) (c : Content) (reg : List ℕ) : Type 0 where
    stores : Stores len c reg
    rule_held : Held (some day) c.records 0 (encode rule)
    late : c.latest ≤ day
    room : used reg + more ≤ len

  sample_ready : {more : ℕ} {c : Content} {reg : List ℕ} → Going more c reg → (w : ℕ) → least_workspace ≤ w → Ready (lent s w) (length reg) sample
  sample_ready g w h = record {
    workspace = h;
    not_shorter = omega (arith, g.stores.size, stores_fit g.stores);
    not_longer = omega (arith, g.stores.size, long);
    accepted = (signature_right s.sig sample).0 accepted;
    some_operation = omega (arith, one);
    not_more = omega (arith, one);
    permits = permits;
    receipts = receipts;
  }
    where
      permits : (i : ℕ) → i < s.n → get_elem? sample (permit i) ≡ some (Pi S P)
      permits zero h = refl
      permits (suc i) h = absurd (omega (arith, one))

      receipts : (i : ℕ) → i < s.n → get_elem? sample (receipt_of i) ≡ some (Pi S (Pi S P))
      receipts zero h = refl
      receipts (suc i) h = absurd (omega (arith, one))

  -- a call of this day that is not refused and adds at most k words
  goes_on : {more : ℕ} {c : Content} {reg : List ℕ} (k : ℕ) (x : Call) → Going (k + more) c reg → latest_with c.latest x ≡ day →
      (Refused (reply s reg x) → ⊥) → call_words s reg x ≤ k → Going more (effect c x) (after s reg x)
  goes_on {c} {reg} k x g d n l =
      let t = step s g.stores x in
      let e = t.unrefused n in
      let q = encode rule in
      record {
        stores = subst (λ c. Stores len c (after s reg x)) e t.stored;
        rule_held = (holding_covered (some day) (effect c x).records 0 q).0
            (subst (λ c₁. CoveredIn (statements c.records) (statements c₁.records)) e t.keeps (some day) 0 q
            ((holding_covered (some day) c.records 0 q).1 g.rule_held));
        late = omega (arith, d);
        room = omega (arith, t.counted, g.room, l);
      }

  module _ (more : ℕ) {v a u : ℕ} {c : Content} {reg : List ℕ} (d : Drawn v a u) (w : Extras) (good : Suited day w) (g : Going (say_adds + more) c reg) where
    abbrev known : Bool
    known = states (statements c.records) (statement_by w v a)

    -- the say succeeds, adds at most the words of its record, and leaves its statement held
    say_passes : say_call (lent s w.say_workspace) reg day (statement_by w v a) ≡ ok (not known)
    unfolding words_of encode
    say_passes = (demand2.says (lent s w.say_workspace) reg day (statement_by w v a) (not known)).1 (record {
      content = c;
      unbroken = g.stores.unbroken;
      Σ = sample;
      ready = sample_ready g w.say_workspace good.say_long;
      principal = d.principal;
      in_order = omega (arith, good.from, good.to);
      not_before = g.late;
      not_desk = d.not_desk;
      q = consent_form 2 v;
      stated = said_stated a v d.extract;
      signs = said_signs day v c.records;
      adds = adds known refl;
    })
      where
        adds : (b : Bool) → known ≡ b → Adds c.records reg (statement_by w v a) (not b)
        adds true e = held_before ((states_right c.records (statement_by w v a)).0 e)
        adds false e = added_now (λ h. let k = (states_right c.records (statement_by w v a)).1 h in clash (cc)) (omega (arith, g.room, g.stores.size))

    said_words : call_words s reg (say_on w day v a) ≤ say_adds
    unfolding encode
    said_words = subst (λ r. say_words r (statement_by w v a) ≤ say_adds) (sym say_passes) (go known)
      where
        go : (b : Bool) → say_words (ok (not b)) (statement_by w v a) ≤ say_adds
        go true = omega arith
        go false = omega arith

    not_refused : Refused (reply s reg (say_on w day v a)) → ⊥
    not_refused r = said_ok (subst (λ r. Refused (said r)) say_passes r)

    goes_on_said : Going more (effect c (say_on w day v a)) (after s reg (say_on w day v a))
    goes_on_said = goes_on say_adds (say_on w day v a) g refl not_refused said_words

    said_held : Held (some day) (effect c (say_on w day v a)).records a (encode (consent_form 2 v))
    said_held = record {
      which = dated (statement_by w v a);
      stated = record { among = say_leaves c w.say_workspace day (statement_by w v a); by = refl; says = refl };
      covers = (good.from, good.to);
    }

  module _ (more : ℕ) {v a u : ℕ} {c : Content} {reg : List ℕ} (d : Drawn v a u) (w : Extras) (good : Suited day w) (g : Going (request_adds + more) c reg)
      (h : Held (some day) c.records a (encode (consent_form 2 v))) where
    -- the request is granted where that statement is held, and adds the words of its grant and receipt
    request_passes : request_call (lent s w.request_workspace) reg (ask_on day v a u) ≡ ok tt
    unfolding words_of encode
    request_passes =
        pair_granted (lent s w.request_workspace) reg 0 2 v a u day g.stores.unbroken (sample_ready g w.request_workspace good.request_long)
        (omega (arith, one)) (omega arith) d.extract d.principal d.delivery rule_derived (said_derived v) g.rule_held h g.late
        (omega (arith, g.room, g.stores.size))

    not_refused_either : Refused (reply s reg (request_on w day v a u)) → ⊥
    not_refused_either r = granted_ok (subst (λ r. Refused (requested r)) request_passes r)

    goes_on_granted : Going more (effect c (request_on w day v a u)) (after s reg (request_on w day v a u))
    unfolding encode
    goes_on_granted =
        goes_on request_adds (request_on w day v a u) g refl not_refused_either
        (subst (λ r. grant_words r (ask_on day v a u) ≤ request_adds) (sym request_passes) (omega arith))

  -- ---- all of them

  load_passes : {seed count : ℕ} {ws : List ℕ} → LoadOf seed count ws → (extras : ℕ → Extras) → ((k : ℕ) → k < count → Suited day (extras k)) →
      {c : Content} {reg : List ℕ} → Going ((say_adds + request_adds) * count) c reg → LoadPasses s reg count (load_calls day extras count ws)
  unfolding NoRefusal grants load_calls encode
  load_passes no_request extras h g = record { no_refusal = tt; granted = refl }
  load_passes (one_more {v = v} {a = a} {u = u} {n = n} m₁ d₁ m₂ d₂ p m₃ d₃ rest) extras h {c} {reg} g =
      let w = extras 0 in
      let good = h 0 (omega arith) in
      let d = drawn d₁ d₂ p d₃ in
      let rest_words = (say_adds + request_adds) * n in
      let g₀ : Going (say_adds + (request_adds + rest_words)) c reg =
      record { stores = g.stores; rule_held = g.rule_held; late = g.late; room = omega (arith, g.room) } in
      let g₁ = goes_on_said (request_adds + rest_words) d w good g₀ in
      let k = said_held (request_adds + rest_words) d w good g₀ in
      let all = load_passes rest (λ k. extras (suc k)) (λ k l. h (suc k) (omega arith)) (goes_on_granted rest_words d w good g₁ k) in
      record {
        no_refusal = (not_refused (request_adds + rest_words) d w good g₀, (not_refused_either rest_words d w good g₁ k, all.no_refusal));
        granted = one_granted (ask_on day v a u) _ (request_passes rest_words d w good g₁ k) all.granted;
      }

pub all_pass : AllPass
all_pass s reg day seed count ws extras accepted one load l suited =
    load_passes s accepted one (length reg) day l.not_longer load extras suited
    (record { stores = record { unbroken = l.unbroken; size = refl }; rule_held = l.rule_held; late = l.not_before; room = l.room })

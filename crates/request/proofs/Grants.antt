-- A request's own tests, one after the other, behind those that calls share.
use Prim.Native.Nat.{ℕ, ◌+◌, ◌-◌, ◌≤◌, ◌<◌}
use native.Mathlib.Omega.{arith}
use mathlib.Core.Path.{◌≡◌, refl, sym, ap, ap₂, ◌∙◌}
use mathlib.Core.Bool.{Bool, true, ◌&&◌}
use mathlib.Core.List.{List, []}
use mathlib.Core.Option.{some}
use lib.Dec.{leb, ltb}
use lib.ListN.{length, take}
use lib.Seq.{take_at}
use borrow.Author.Tests.{le-leb, lt-leb, ltb-true}
use Rattle.logic.specs.Limits.{payloads, most_operations, most_words, most_nesting}
use Rattle.logic.specs.Refusals.{bad_number, day_before_latest, another_proposition, register_full}
use Rattle.logic.specs.Result.{Result, ok, refused, ◌>>=◌, ◌>>◌, require}
use Rattle.logic.specs.Term.{Term, encode, size}
use Rattle.logic.specs.Infer.{same}
use Rattle.logic.specs.Check.{check_term}
use Rattle.logic.proofs.Results.{both_true}
use Rattle.logic.proofs.Words.{encode_size}
use Rattle.logic.specs.Reading.{InRange}
use Rattle.words.specs.Typed.{TypeAt}
use Rattle.words.proofs.Types.{in_range}
use Rattle.words.proofs.Sames.{same_types}
use Rattle.typing.specs.Check.{typed_term}
use Rattle.records.specs.Answers.{Room}
use Rattle.search.specs.declared.view.View.{View as SearchView}
use Rattle.search.specs.Sources.{register_span, IsView}
use Rattle.records.proofs.Items.{records_there}
use Rattle.write_records.proofs.Adds.{entry_length, room_for}
use Rattle.register.specs.Records.{Ask, Content, register_content, used, latest, statements, some_of, holding, words_of, entry_extra}
use Rattle.register.specs.Calls.{Lent, Holding, View, payload, permission, entry, ask_test, signs_held, view, outline_of, proved_own, request_own}
use Rattle.register.specs.Calls.{request_call}
use Rattle.register.specs.Batch.{granted_words}
use Rattle.register.specs.BatchTests.{with_receipts, view_behind, asks_words, AllInRange}
use Rattle.register.specs.Succeeds.{Grantable}
use Rattle.register.proofs.Succeeds.{demand2}
use Rattle.register.proofs.Words.{unbroken_right}
use Rattle.shared_tests.proofs.OwnTests.{TypedSo, typed_refused}
use Rattle.request.specs.Requested.{Seen}

-- ---- test 13: the type found is the permission

permission_in_range : (k : Ask) → k.operation < most_operations → k.extract < payloads → InRange (permission k)
unfolding InRange
permission_in_range k a b = (omega arith, (omega arith, b))

pub permission_found : (ws words : List ℕ) (n : ℕ) (k : Ask) (r : Bool) → k.operation < most_operations → k.extract < payloads → words ≡
    encode (permission k) →
    (r ≡ true → take n ws ≡ words) × (take n ws ≡ words → r ≡ true) → (A : Term) → TypeAt ws 0 A → n ≡ size A → r ≡ same A (permission k)
permission_found ws words n k r a b w f A T e =
    let t : take n ws ≡ encode A = ap₂ (λ (k : ℕ) (l : List ℕ). take k l) e T.words ∙ take_at (encode A) T.rest (size A) (encode_size A) in
    same_types (take n ws) words A (permission k) r t w (in_range A T.plain) (permission_in_range k a b) f.0 f.1

-- ---- a request's own tests, behind the requests ks of its day

abbrev in_turn : Bool → Result (Unit {0}) → Bool → Result (Unit {0})
in_turn a s b = require a another_proposition 0 >> (s >> require b register_full 0)

module _ (l : Lent) (Σ : List Term) (c : Content) (reg : List ℕ) (ks : List Ask) (k : Ask) where
  -- what they see
  abbrev sees : View
  sees = view_behind ks k.day (view l (outline_of reg) c Σ)

  -- the words used before
  abbrev taken : ℕ
  taken = used reg + granted_words ks

  -- what is held on the day
  abbrev holds : Holding
  holds = with_receipts ks (holding (some k.day) (statements c.records))

  abbrev entry_fits : Bool
  entry_fits = leb (taken + length (words_of (entry k))) (length reg)

  -- tests 13, 14 and 16
  module _ (t A : Term) (wanted : Bool) (right : wanted ≡ same A (permission k)) (q : wanted ≡ true) where
    abbrev tests : Result (Unit {0})
    tests = proved_own k (record { term = t; type = A }) sees

    wanted_proved : tests ≡ (signs_held holds t >> require entry_fits register_full 0)
    wanted_proved = ap (λ (b : Bool). in_turn b (signs_held holds t) entry_fits) (sym right ∙ q)

    pub request_missed : {m p : ℕ} → signs_held holds t ≡ refused m p → tests ≡ refused m p
    request_missed f = wanted_proved ∙ ap (λ s. s >> require entry_fits register_full 0) f

    module _ (f : signs_held holds t ≡ ok tt) where
      signs_found : tests ≡ require entry_fits register_full 0
      signs_found = wanted_proved ∙ ap (λ s. s >> require entry_fits register_full 0) f

      pub request_full : length reg - taken < length k.proof + entry_extra → tests ≡ refused register_full 0
      request_full h = signs_found ∙ ap (λ (b : Bool). require b register_full 0)
          (lt-leb (taken + length (words_of (entry k))) (length reg) (omega (arith, entry_length k)))

      pub request_enough : taken ≤ length reg → length k.proof + entry_extra ≤ length reg - taken → tests ≡ ok tt
      request_enough w h = signs_found ∙ ap (λ (b : Bool). require b register_full 0)
          (le-leb (taken + length (words_of (entry k))) (length reg) (omega (arith, entry_length k)))

  -- tests 5 and 23, each by what it finds, and those behind them
  abbrev numbered : (fine timely : Bool) → Result (Unit {0})
  numbered b t = require b bad_number 0 >> (require t day_before_latest 0 >> (check_term Σ k.proof >>= λ x. proved_own k x sees))

  module _ (b : Bool) (e : b ≡ ask_test l.n k) (q : b ≡ true) where
    pub in_range_numbers : (k.operation < l.n) × (k.extract < payloads) × (k.delivery < payloads)
    in_range_numbers =
        let (a, c) = both_true (ltb k.operation l.n && payload k.extract) (payload k.delivery) (sym e ∙ q) in
        let (d, f) = both_true (ltb k.operation l.n) (payload k.extract) a in
        (ltb-true k.operation l.n d, ltb-true k.extract payloads f, ltb-true k.delivery payloads c)

    module _ (timely : sees.latest ≤ k.day) where
      numbers_right : request_own k sees ≡ (check_term Σ k.proof >>= λ x. proved_own k x sees)
      numbers_right = ap₂ numbered (sym e ∙ q) (le-leb sees.latest k.day timely)

      pub request_not_typed : {m p : ℕ} → typed_term Σ most_words most_nesting k.proof ≡ refused m p → request_own k sees ≡ refused m p
      request_not_typed f = numbers_right ∙ ap (λ x. x >>= λ y. proved_own k y sees) (typed_refused Σ k.proof _ _ f)

      pub request_typed : {A : Term} (T : TypedSo Σ k.proof A) → request_own k sees ≡ proved_own k (record { term = T.term; type = A }) sees
      request_typed T = numbers_right ∙ ap (λ x. x >>= λ y. proved_own k y sees) T.is

-- ---- all tests

-- with no request before it, a request sees the register itself
pub behind_none : (day : ℕ) (s : View) → view_behind [] day s ≡ s
unfolding some_of granted_words
behind_none day s =
    let sum : s.outline.used + 0 ≡ s.outline.used = omega arith in
    λ i. record {
      Σ = s.Σ;
      n = s.n;
      holds = s.holds;
      stands = s.stands;
      latest = s.latest;
      outline = record { size = s.outline.size; used = sum i };
    }

-- and the code its view
pub none_before : (v : SearchView) (reg : List ℕ) (day : ℕ) (c : Content) → IsView v reg → register_content reg ≡ ok c → Seen v [] day c []
unfolding granted_words asks_words AllInRange
none_before v reg day c V r =
    let e : register_content v.source.list.now ≡ ok c = ap register_content V.list ∙ r in
    let u : v.used ≡ used v.source.list.now = V.used_is ∙ sym (ap used V.list) in
    let within : used v.source.list.now ≤ length v.source.list.now = (records_there v.source.list.now c e).within in
    record {
      reads = e;
      span = V.span ∙ sym (ap register_span V.list);
      size = V.size ∙ sym (ap length V.list);
      used_is = omega arith;
      latest_is = V.latest_is ∙ sym (ap latest V.list);
      before = record { words = refl; in_range = tt };
      fits = omega arith;
    }

-- ---- what a request leaves

-- one that is granted has its numbers in range, and room
module _ (l : Lent) (reg : List ℕ) (k : Ask) (granted : request_call l reg k ≡ ok tt) where
  pub grantable_now : Grantable l reg k
  grantable_now = (demand2.grants l reg k).0 granted

  pub grant_room : Room reg (entry k)
  grant_room =
      let G = grantable_now in
      room_for reg (entry k) (record { found = G.proof.content; reads = (unbroken_right reg G.proof.content).1 G.proof.unbroken })
      G.proof.ready.not_longer G.room

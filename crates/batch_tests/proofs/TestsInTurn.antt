-- The tests of a batch: of its items in turn on the first register, behind those that calls share.
use Prim.Native.Nat.{ℕ, suc, ◌+◌, ◌-◌, ◌≤◌, ◌<◌}
use native.Mathlib.Omega.{arith}
use mathlib.Core.Path.{◌≡◌, refl, sym, ap, ap₂, ◌∙◌}
use mathlib.Core.Bool.{Bool, true, false, ◌&&◌, cond}
use mathlib.Core.List.{List, [], ◌∷◌, ◌++◌, append-nil, append_assoc}
use mathlib.Core.Option.{Option, none}
use lib.Dec.{leb, ltb}
use lib.ListN.{length, take, drop, length-append, length-drop, take-append-drop}
use lib.Seq.{take-append_seam, length-take-le}
use borrow.Author.Tests.{leb-true, ltb-true}
use Rattle.logic.specs.Limits.{payloads, most_operations}
use Rattle.logic.specs.Refusals.{bad_number, malformed, register_full}
use Rattle.logic.specs.Result.{Result, ok, refused}
use Rattle.logic.specs.Term.{Term}
use Rattle.logic.specs.Infer.{same}
use Rattle.logic.specs.Check.{check_term}
use Rattle.logic.proofs.Results.{tested, bound, followed, require_ok, both_true}
use Rattle.typing.specs.Check.{ConstantsOf}
use Rattle.write_records.proofs.Adds.{entry_length}
use Rattle.register.specs.Records.{Ask, Content, register_content, used, latest, words_of, entry_extra, item_head}
use Rattle.register.specs.Calls.{Lent, View, view, outline_of, on_register, payload, permission, entry, ask_test, day_test, signs_held, request_own}
use Rattle.register.specs.Batch.{most_items, items, item_words, Batched, all_granted, refused_at, at_index, batch_call}
use Rattle.register.specs.Batch.{day_if, granted_words, next_item}
use Rattle.register.specs.BatchTests.{view_behind, items_own, items_once, at_start, asks_words, AllInRange, AskedBefore}
use Rattle.register.proofs.BatchTests.{tested_once}
use Rattle.search.specs.declared.view.View.{View as SearchView}
use Rattle.search.specs.Sources.{IsView}
use Rattle.shared_tests.specs.declared.signed.Signature.{Signature}
use Rattle.shared_tests.specs.Shared.{lent_of}
use Rattle.item_list.specs.Items.{ask_at, item_end}
use Rattle.request.specs.Requested.{Seen}
use Rattle.std.proofs.Common.{rules}
use Rattle.std.specs.Prelude.{Ok, Err, IsErr, Some, None}
use Rattle.std.specs.Prelude.{Option as Maybe}
use Rattle.std.specs.Option.{is_some}
use Rattle.std.specs.Prelude.{Result as Answer}
use Rattle.std.specs.Result.{IsErrAnd}
use Rattle.logic.specs.Answer.{reason_number}
use Rattle.batch_tests.specs.declared.ItemRefusal.{ItemRefusal}
use Rattle.batch_tests.specs.Answers.{batched_answer}
use Rattle.item_list.proofs.ItemPlaces.{WholeAt, whole_there, cut_there, no_items_left}

-- ---- one request more

-- the words that the items before add
words_behind : (ks : List Ask) (k : Ask) → granted_words (ks ++ (k ∷ [])) ≡ granted_words ks + (length k.proof + entry_extra)
unfolding granted_words
words_behind [] k = omega arith
words_behind (x ∷ ks) k = let h = words_behind ks k in omega arith

asks_behind : (ks : List Ask) (k : Ask) → asks_words (ks ++ (k ∷ [])) ≡ asks_words ks ++ item_words k
unfolding asks_words
asks_behind [] k = append-nil (item_words k)
asks_behind (x ∷ ks) k = ap (λ l. item_words x ++ l) (asks_behind ks k) ∙ sym (append_assoc (item_words x) (asks_words ks) (item_words k))

-- the words before the item k, and those up to its end; its day is any
asked_more : (ws : List ℕ) (ks : List Ask) (at end : ℕ) (k : Ask) → take at ws ≡ asks_words ks → drop at ws ≡ item_words k ++ drop end ws →
    end ≤ length ws → take end ws ≡ asks_words (ks ++ (k ∷ []))
asked_more ws ks at end k f e h =
    let front = take at ws ++ item_words k in
    let left : length ws - at ≡ item_head + length k.proof + (length ws - end) =
    sym (length-drop at ws) ∙ ap length e ∙ simp (length-append, length-drop) (omega arith) in
    let n : end ≡ length front = omega (arith, length-append (take at ws) (item_words k), length-take-le at ws (omega arith)) in
    let all : ws ≡ front ++ drop end ws =
    sym (take-append-drop at ws) ∙ ap (λ l. take at ws ++ l) e ∙ sym (append_assoc (take at ws) (item_words k) (drop end ws)) in
    ap₂ take n all ∙ take-append_seam front (drop end ws) ∙ ap (λ l. l ++ item_words k) f ∙ sym (asks_behind ks k)

in_range_more : (ks : List Ask) (k : Ask) → AllInRange ks → k.operation < most_operations → k.extract < payloads → k.delivery < payloads →
    AllInRange (ks ++ (k ∷ []))
unfolding AllInRange
in_range_more [] k h o v u = (o, v, u, tt)
in_range_more (x ∷ ks) k h o v u = (h.0, h.1, h.2, in_range_more ks k h.3 o v u)

-- ---- the tests

-- a request that passes has its numbers in range, and room
record PassedRoom (k : Ask) (s : View) : Type 0 where
  pub operation : k.operation < s.n
  pub extract : k.extract < payloads
  pub delivery : k.delivery < payloads
  pub room : s.outline.used + length (words_of (entry k)) ≤ s.outline.size

passed_room : (k : Ask) (s : View) → request_own k s ≡ ok tt → PassedRoom k s
passed_room k s e =
    tested (ask_test s.n k) _ _ _ e λ n e₁. tested (leb s.latest k.day) _ _ _ e₁ λ y e₂.
    bound (check_term s.Σ k.proof) _ e₂ λ d d₁ e₃. tested (same d.type (permission k)) _ _ _ e₃ λ p e₄.
    followed (signs_held (s.holds k.day) d.term) _ e₄ λ v h e₅.
    let (m, u) = both_true (ltb k.operation s.n && payload k.extract) (payload k.delivery) n in
    let (o, v) = both_true (ltb k.operation s.n) (payload k.extract) m in
    record {
      operation = ltb-true k.operation s.n o;
      extract = ltb-true k.extract payloads v;
      delivery = ltb-true k.delivery payloads u;
      room = leb-true _ _ (require_ok (leb (s.outline.used + length (words_of (entry k))) s.outline.size) register_full 0 e₅);
    }

-- for whatever is lent that fits the signature, its constants' types and the register
abbrev pub Seeing : Signature → (table reg : List ℕ) → (View → Type 0) → Type 0
Seeing g table reg P = (l : Lent) → (Σ : List Term) → (c : Content) → l.n ≡ g.operations → ConstantsOf g.list.now table Σ →
    register_content reg ≡ ok c → P (view l (outline_of reg) c Σ)

-- the items before the place passed: they are the requests ks, `index` in number
pub record Testing (g : Signature) (table reg : List ℕ) (day : ℕ) (ws : List ℕ) (taken last at index : ℕ) : Type 0 where
  pub ks : List Ask
  pub within : at ≤ length ws
  pub counted : index ≤ taken
  pub before : AskedBefore (take at ws) ks
  pub sum : taken ≡ used reg + granted_words ks
  pub latest_is : last ≡ day_if ks (latest reg) day
  pub fits : used reg + granted_words ks ≤ length reg
  pub same : Seeing g table reg (λ s. items_own day 0 [] (items day ws) s ≡ items_own day index ks (items day (drop at ws)) s)

pub testing_start : {g : Signature} {table reg : List ℕ} {day : ℕ} {ws : List ℕ} {taken last : ℕ} → used reg ≤ length reg → taken ≡ used reg →
    last ≡ latest reg → Testing g table reg day ws taken last 0 0
unfolding granted_words asks_words AllInRange
testing_start h t e = record {
  ks = [];
  within = omega arith;
  counted = omega arith;
  before = record { words = refl; in_range = tt };
  sum = omega arith;
  latest_is = e;
  fits = omega arith;
  same = λ l Σ c n C r. refl;
}

module _ {g : Signature} {table reg : List ℕ} {day : ℕ} {ws : List ℕ} {taken last at index : ℕ} (T : Testing g table reg day ws taken last at index) where
  -- all items passed
  pub tests_ended : length ws ≤ at → Seeing g table reg (λ s. all_granted ≡ items_own day 0 [] (items day ws) s)
  unfolding items_own
  tests_ended h l Σ c n C r =
      sym (T.same l Σ c n C r ∙ ap (λ xs. items_own day index T.ks xs (view l (outline_of reg) c Σ)) (no_items_left day ws at h))

  -- the next is cut short
  pub tests_cut : items day (drop at ws) ≡ none ∷ [] → Seeing g table reg (λ s. refused_at index malformed 0 ≡ items_own day 0 [] (items day ws) s)
  unfolding items_own
  tests_cut e l Σ c n C r = sym (T.same l Σ c n C r ∙ ap (λ xs. items_own day index T.ks xs (view l (outline_of reg) c Σ)) e)

  -- it is whole, and asks k
  module _ {end : ℕ} (w : WholeAt day ws at end) {k : Ask} (e : k ≡ ask_at day ws at end) where
    abbrev here : Ask
    here = ask_at day ws at end

    -- these are the answers to its own tests
    module _ {o : Result (Unit {0})} (answered : Seeing g table reg (λ s. o ≡ request_own k (view_behind T.ks k.day s))) where
      turn : Seeing g table reg (λ s.
          items_own day 0 [] (items day ws) s ≡ at_index index o (items_own day (suc index) (T.ks ++ (here ∷ [])) (items day (drop end ws)) s))
      unfolding items_own
      turn l Σ c n C r =
          let s = view l (outline_of reg) c Σ in
          T.same l Σ c n C r ∙ ap (λ xs. items_own day index T.ks xs s) w.is
          ∙ ap (λ o. at_index index o (items_own day (suc index) (T.ks ++ (here ∷ [])) (items day (drop end ws)) s))
          (sym (answered l Σ c n C r ∙ ap (λ k. request_own k (view_behind T.ks k.day s)) e))

      pub item_refused_so : {m p : ℕ} → o ≡ refused m p → Seeing g table reg (λ s. refused_at index m p ≡ items_own day 0 [] (items day ws) s)
      item_refused_so f l Σ c n C r =
          let s = view l (outline_of reg) c Σ in
          sym (turn l Σ c n C r ∙ ap (λ o. at_index index o (items_own day (suc index) (T.ks ++ (here ∷ [])) (items day (drop end ws)) s)) f)

      module _ (f : o ≡ ok tt) {Σ : List Term} {c : Content} (C : ConstantsOf g.list.now table Σ) (r : register_content reg ≡ ok c)
          (ops : g.operations ≤ most_operations) where
        -- its numbers are in range, and its entry has room behind those before it
        room : PassedRoom k (view_behind T.ks k.day (view (lent_of g.list.now g.operations []) (outline_of reg) c Σ))
        room = passed_room k (view_behind T.ks k.day (view (lent_of g.list.now g.operations []) (outline_of reg) c Σ))
            (sym (answered (lent_of g.list.now g.operations []) Σ c refl C r) ∙ f)

        sum_fits : taken + (length k.proof + entry_extra) ≤ length reg
        sum_fits = omega (arith, room.room, entry_length k, T.sum)

        pub testing_next : Testing g table reg day ws (taken + (length k.proof + entry_extra)) day end (index + 1)
        testing_next =
            let more = words_behind T.ks k in
            record {
              ks = T.ks ++ (k ∷ []);
              within = w.within;
              counted = omega (arith, T.counted);
              before = record {
                words = asked_more ws T.ks at end k T.before.words (w.words ∙ ap (λ k. item_words k ++ drop end ws) (sym e)) w.within;
                in_range = in_range_more T.ks k T.before.in_range (omega (arith, room.operation, ops)) room.extract room.delivery;
              };
              sum = omega (arith, T.sum, more);
              latest_is = set T.ks;
              fits = omega (arith, sum_fits, more, T.sum);
              same = λ l' Σ' c' n' C' r'.
                  let s = view l' (outline_of reg) c' Σ' in
                  let i : suc index ≡ index + 1 = omega arith in
                  turn l' Σ' c' n' C' r'
                  ∙ ap (λ o. at_index index o (items_own day (suc index) (T.ks ++ (here ∷ [])) (items day (drop end ws)) s)) f
                  ∙ ap₂ (λ j k. items_own day j (T.ks ++ (k ∷ [])) (items day (drop end ws)) s) i (sym e);
            }
          where
            set : (ks : List Ask) → day ≡ day_if (ks ++ (k ∷ [])) (latest reg) day
            set [] = refl
            set (k ∷ ks) = refl

-- what the tests of the next item see, which is one of the day
pub seen_so : {g : Signature} {table : List ℕ} {day : ℕ} {ws : List ℕ} {taken last at index day' : ℕ} (v : SearchView) →
    (T : Testing g table v.source.list.now day ws taken last at index) → IsView v v.source.list.now → day' ≡ day →
    (c : Content) → register_content v.source.list.now ≡ ok c →
    Seen (record { size = v.size; used = taken; latest = last; source = v.source }) (take at ws) day' c T.ks
seen_so v T V e c r = record {
  reads = r;
  span = V.span;
  size = V.size;
  used_is = T.sum;
  latest_is = T.latest_is ∙ ap (day_if T.ks (latest v.source.list.now)) (sym e);
  before = T.before;
  fits = T.fits;
}

-- ---- all tests of a batch

-- what `?` hands on: the refusal b
pub batch_handed_on : (r : Answer (Unit {0}) ItemRefusal) (b : ItemRefusal) → IsErr r × IsErrAnd r (λ y. y ≡ b) →
    batched_answer r ≡ refused_at b.index (reason_number b.refusal.reason) b.refusal.place
batch_handed_on (Ok x) b h = absurd (search rules)
batch_handed_on (Err y) b h = ap (λ (d : ItemRefusal). refused_at d.index (reason_number d.refusal.reason) d.refusal.place) (search rules)

module _ (l : Lent) (reg : List ℕ) (day : ℕ) (ws : List ℕ) where
  abbrev counted : (few : Bool) → Batched → Batched
  counted few rest = cond few rest (refused_at 0 bad_number 0)

  module _ (e : true ≡ leb (length (items day ws)) most_items) where
    -- few enough: a batch is tested without writing
    tested_so : (xs : List (Option Ask)) → items day ws ≡ xs → items_once l reg day xs ≡ batch_call l reg day ws
    tested_so xs f =
        ap (items_once l reg day) (sym f) ∙ ap (λ (b : Bool). counted b (items_once l reg day (items day ws))) e
        ∙ sym (tested_once.same_answer l reg day ws)

    pub empty_tested : length ws ≡ 0 → at_index 0 (on_register l reg (day_test day)) all_granted ≡ batch_call l reg day ws
    empty_tested h = tested_so [] (no_items_left day ws 0 (omega (arith, h)))

    -- by the end of the first item
    pub cut_first : (x : Maybe ℕ) → 0 < length ws → x ≡ item_end 0 (next_item day ws) → is_some x ≡ false → refused_at 0 malformed 0 ≡ batch_call l reg day ws
    cut_first None h f g = tested_so (none ∷ []) (cut_there day ws 0 h f)
    cut_first (Some end) h f g = absurd (search rules)

    pub whole_first : (x : Maybe ℕ) → x ≡ item_end 0 (next_item day ws) → is_some x ≡ true →
        at_start (on_register l reg (λ s. ok (items_own day 0 [] (items day ws) s))) ≡ batch_call l reg day ws
    whole_first None f g = absurd (search rules)
    whole_first (Some end) f g =
        let w = (whole_there day ws 0 f).is in
        ap (λ ys. at_start (on_register l reg (λ s. ok (items_own day 0 [] ys s)))) w ∙ tested_so _ w

-- What a call that succeeds leaves in the register.
use Prim.Native.Nat.{ℕ, suc, ◌+◌, ◌-◌, ◌≤◌}
use mathlib.Core.Path.{◌≡◌, refl, sym, ◌∙◌, ap, ap₂, subst}
use mathlib.Core.Bool.{true, false}
use mathlib.Core.List.{List, [], ◌∷◌, ◌++◌, map, append-nil}
use mathlib.Core.Option.{Option, some}
use native.Mathlib.Omega.{arith}
use lib.ListN.{length, drop, length-append}
use lib.Seq.{drop-drop, drop-append-add}
use Rattle.logic.specs.Result.{Result, ok, refused}
use Rattle.register.specs.Records.{Record, Statement, Ask, Content, header, words_of, used, used_by, Unbroken, Shaped}
use Rattle.register.specs.Records.{appended, written}
use Rattle.register.specs.Calls.{Lent, say_entry, entry, new_content, after_open, after_say, after_request}
use Rattle.register.specs.Batch.{items, asks, after_requests, batch_leaves, all_entries, ItemsOf}
use Rattle.register.specs.BatchTests.{AllOn}
use Rattle.register.specs.Succeeds.{Adds, added_now, GrantableInTurn, no_request, one_request, Batchable, together, Markable, Returnable}
use Rattle.register.specs.History.{grown}
use Rattle.register.specs.Marks.{Mark, mark_of, MarkList, with_marks, spot_at_end, Returned, restored, cleared}
use Rattle.register.specs.Marks.{returned_to, return_call, after_mark, after_return, marks_after_return, marks_after_open}
use Rattle.register.specs.Leaves.{Leaves, LeavesMarks, Restores, Leaving}
use Rattle.register.proofs.Words.{words_grown, register_of, register_of_appended, Stores, stores_used, stores_appended, stores_fit}
use Rattle.register.proofs.Marks.{marks_put, marks_behind, stands_only, stores_restored, up_to_fewer, cleared_marks, cleared_none}
use Rattle.register.proofs.Succeeds.{demand2}
use Rattle.register.proofs.Opening.{opened_stores}
use Rattle.register.proofs.Batch.{batches}
use Rattle.register.proofs.Step.{say_shaped, entry_shaped, content_behind, content_behind_is, items_day}

-- the words behind the records
behind_records : (c : Content) (tail : List ℕ) (n : ℕ) → drop (used_by c.records + n) (register_of c tail) ≡ drop n tail
behind_records c tail n =
    let W = length (words_of c.records) in
    let s : header + W + n ≡ suc (suc (suc (suc (W + n)))) = omega arith in
    ap (λ k. drop k (register_of c tail)) s ∙ drop-append-add (words_of c.records) tail n

-- records added to a register that has room for them, with the new latest day
adds_leave : {reg : List ℕ} {c : Content} (day : ℕ) (new : List Record) → Unbroken reg c → ((before : ℕ) → Shaped before new) →
    used reg + length (words_of new) ≤ length reg → Leaves reg c.mode day (c.records ++ new) (appended reg day new)
adds_leave {reg} {c} day new u s room = record { unbroken = after.unbroken; size = after.size; behind = there ∙ sym here }
  where
    stored : Stores (length reg) c reg
    stored = record { unbroken = u; size = refl }

    after : Stores (length reg) (grown c day new) (appended reg day new)
    after = stores_appended day new stored s room

    N : ℕ
    N = length (words_of new)

    here : drop (used reg + N) reg ≡ drop N u.tail
    here = ap₂ drop (ap (λ k. k + N) (stores_used stored)) u.words ∙ behind_records c u.tail N

    all_words : used reg + N ≡ used_by (c.records ++ new) + 0
    all_words = omega (arith, stores_used stored, words_grown c.records new)

    there : drop (used reg + N) (appended reg day new) ≡ drop N u.tail
    there =
        ap₂ drop all_words (ap (λ r. appended r day new) u.words ∙ register_of_appended c day new u.tail)
        ∙ behind_records (grown c day new) (drop N u.tail) 0

-- no records, and the new latest day
day_leaves : {reg : List ℕ} {c : Content} (day : ℕ) → Unbroken reg c → Leaves reg c.mode day c.records (appended reg day [])
unfolding words_of
day_leaves {reg} {c} day u =
    let stored : Stores (length reg) c reg = record { unbroken = u; size = refl } in
    subst (λ rs. Leaves reg c.mode day rs (appended reg day [])) (append-nil c.records)
    (adds_leave day [] u (λ before. tt) (omega (arith, stores_used stored, stores_fit stored)))

-- a register that was opened
opening_leaves : (reg : List ℕ) (mode : ℕ) (rs : List Record) → Stores (length reg) (new_content mode rs) (written reg (new_content mode rs)) →
    Leaves reg mode 0 rs (written reg (new_content mode rs))
opening_leaves reg mode rs st = record {
  unbroken = st.unbroken;
  size = st.size;
  behind = ap (λ k. drop k (written reg (new_content mode rs))) more ∙ behind_records (new_content mode rs) (drop (used_by rs) reg) 0;
}
  where
    more : used_by rs ≡ used_by rs + 0
    more = omega arith

room_of : {rs : List Record} {reg : List ℕ} {st : Statement} → Adds rs reg st true → used reg + length (words_of (say_entry st)) ≤ length reg
room_of (added_now n room) = room

-- what is left behind what was left before, where no fewer words are used
leaves_after : {old mid new : List ℕ} {mode mode' d d' : ℕ} {rs rs' : List Record} → used mid ≤ used new → Leaves old mode d rs mid →
    Leaves mid mode' d' rs' new → Leaves old mode' d' rs' new
leaves_after {old} {mid} {new} h x y =
    let n = used new - used mid in
    let e : used new ≡ used mid + n = omega arith in
    let past : (ws : List ℕ) → drop (used new) ws ≡ drop n (drop (used mid) ws) = λ ws. ap (λ k. drop k ws) e ∙ sym (drop-drop n (used mid) ws) in record {
      unbroken = y.unbroken;
      size = y.size ∙ x.size;
      behind = y.behind ∙ past mid ∙ ap (drop n) x.behind ∙ sym (past old);
    }

-- new is left of old with the content c, and uses no fewer words
abbrev LeftInTurn : (old : List ℕ) → Content → (new : List ℕ) → Type 0
LeftInTurn old c new = (used old ≤ used new) × Leaves old c.mode c.latest c.records new

-- requests that are granted in turn leave the content behind them
in_turn_leave : {l : Lent} {reg : List ℕ} {xs : List (Option Ask)} (c : Content) → GrantableInTurn l reg xs → Unbroken reg c →
    LeftInTurn reg (content_behind c (asks xs)) (after_requests l reg (asks xs))
unfolding asks after_requests content_behind
in_turn_leave c no_request u = (omega arith, record { unbroken = u; size = refl; behind = refl })
in_turn_leave {l} c (one_request {reg} {k} {xs} h g) u =
    let new = grown c k.day (entry k) in
    let x = adds_leave k.day (entry k) u (entry_shaped k h.proof.passes.term.some_word) h.room in
    let (more, y) = in_turn_leave new g x.unbroken in
    subst (λ r. LeftInTurn reg (content_behind new (asks xs)) (after_requests l (after_request r reg k) (asks xs))) (sym ((demand2.grants l reg k).1 h))
    (omega arith, leaves_after more x y)

asks_some : (ks : List Ask) → asks (map some ks) ≡ ks
unfolding asks
asks_some [] = refl
asks_some (k ∷ ks) = ap (λ (l : List Ask). k ∷ l) (asks_some ks)

-- a batch whose items are the requests k ∷ ks
batch_leaving : {l : Lent} {reg : List ℕ} {day : ℕ} {ws : List ℕ} {c : Content} (k : Ask) (ks : List Ask) → ItemsOf day ws (map some (k ∷ ks)) →
    Batchable l reg day (map some (k ∷ ks)) → Unbroken reg c →
    Leaves reg c.mode day (c.records ++ all_entries (k ∷ ks)) (batch_leaves l reg day ws)
batch_leaving {l} {reg} {day} {ws} {c} k ks o (together few g) u =
    let those : asks (items day ws) ≡ k ∷ ks = ap asks ((batches.listed day ws (map some (k ∷ ks))).1 o) ∙ asks_some (k ∷ ks) in
    let content = content_behind_is c day (k ∷ ks) (subst (AllOn day) those (items_day (length ws) day ws)) in
    let left = subst (λ ks. LeftInTurn reg (content_behind c ks) (after_requests l reg ks)) (asks_some (k ∷ ks)) (in_turn_leave c g u) in
    rw ((demand2.batches l reg day ws (map some (k ∷ ks)) o).1 (together few g), those)
    (subst (λ c. LeftInTurn reg c (after_requests l reg (k ∷ ks))) content left).1

-- a list of marks that an opening clears
cleared_behind : (list : List ℕ) → drop 1 (cleared list) ≡ drop 1 list
cleared_behind [] = refl
cleared_behind (n ∷ ws) = refl

-- a mark that is set, and a return to one
marked_leaves : {reg list : List ℕ} {n : ℕ} {after : List Mark} → Markable reg list n after → LeavesMarks list after (with_marks list after)
marked_leaves {list} {n} {after} h =
    let few : length after ≤ 8 = omega (arith, h.no_ninth, ap length h.set, length-append h.rest (mark_of n (spot_at_end h.content) ∷ [])) in
    record { listed = marks_put list after h.listed.size few; behind = marks_behind list after }

returned_leaves : {reg list : List ℕ} {n : ℕ} {r : Returned} (h : Returnable reg list n r) →
    Restores reg h.content r.spot (restored reg r.spot) × LeavesMarks list r.marks (with_marks list r.marks)
returned_leaves {reg} {list} {n} {r} h =
    let st = stores_restored {len = length reg} r.spot (record { unbroken = h.on_trial.unbroken; size = refl }) h.ends in
    let few : length r.marks ≤ 8 = omega (arith, ap length (stands_only n h.stands).1, up_to_fewer n h.ms, h.listed.few) in (
      record { unbroken = st.unbroken; size = st.size; behind = refl },
      record { listed = marks_put list r.marks h.listed.size few; behind = marks_behind list r.marks },
    )

returned_whole : (reg list : List ℕ) (n : ℕ) {c : Content} → Unbroken reg c → (left : Content) × Unbroken (after_return (return_call reg list n) reg) left
returned_whole reg list n {c} u = go (return_call reg list n) refl
  where
    go : (r : Result Returned) → return_call reg list n ≡ r → (left : Content) × Unbroken (after_return r reg) left
    go (ok x) e = let h = (demand2.returns reg list n x).0 e in (returned_to h.content x.spot, (returned_leaves h).0.unbroken)
    go (refused m p) e = (c, u)

pub leaving : Leaving
leaving = record {
  opened = λ {l} {reg} {mode} {rules} {rs} h.
      let e = (demand2.opens l reg mode rules rs).1 h in
      subst (λ r. Leaves reg mode 0 rs (after_open r reg mode)) (sym e) (opening_leaves reg mode rs (opened_stores l reg mode rules rs e).1);
  said = λ {l} {reg} {day} {st} h.
      subst (λ r. Leaves reg h.content.mode day (h.content.records ++ say_entry st) (after_say r reg day st)) (sym ((demand2.says l reg day st true).1 h))
      (adds_leave day (say_entry st) h.unbroken (say_shaped st h.stated.term.some_word) (room_of h.adds));
  said_again = λ {l} {reg} {day} {st} h.
      subst (λ r. Leaves reg h.content.mode day h.content.records (after_say r reg day st)) (sym ((demand2.says l reg day st false).1 h))
      (day_leaves day h.unbroken);
  granted = λ {l} {reg} {k} h.
      subst (λ r. Leaves reg h.proof.content.mode k.day (h.proof.content.records ++ entry k) (after_request r reg k))
      (sym ((demand2.grants l reg k).1 h))
      (adds_leave k.day (entry k) h.proof.unbroken (entry_shaped k h.proof.passes.term.some_word) h.room);
  batched = batch_leaving;
  opened_marks = λ {l} {reg} {mode} {rules} {rs} list h.
      let e = ap (λ r. marks_after_open r list) ((demand2.opens l reg mode rules rs).1 h) in
      (λ ms m. cleared_none list ms (subst (λ x. MarkList x ms) e m), ap (drop 1) e ∙ cleared_behind list);
  opened_list = λ {l} {reg} {mode} {rules} {rs} list h size.
      subst (λ x. MarkList x []) (sym (ap (λ r. marks_after_open r list) ((demand2.opens l reg mode rules rs).1 h))) (cleared_marks list size);
  marked = λ {reg} {list} {n} {after} h.
      subst (λ r. LeavesMarks list after (after_mark r list)) (sym ((demand2.marks reg list n after).1 h)) (marked_leaves h);
  returned = λ {reg} {list} {n} {r} h.
      subst (λ x. Restores reg h.content r.spot (after_return x reg) × LeavesMarks list r.marks (marks_after_return x list))
      (sym ((demand2.returns reg list n r).1 h)) (returned_leaves h);
  returned_whole = returned_whole;
}

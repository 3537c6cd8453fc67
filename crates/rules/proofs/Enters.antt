-- What the code between the children of a node answers and writes.
use Prim.Native.Nat.{ℕ, suc, ◌+◌, ◌-◌, ◌≤◌}
use native.Mathlib.Omega.{arith}
use mathlib.Core.Path.{◌≡◌, refl, sym, ap, ap₂, subst, ◌∙◌}
use mathlib.Core.Logic.{◌⊎◌, inl, inr}
use mathlib.Core.Bool.{Bool, true, false, ◌||◌}
use mathlib.Core.List.{List, [], ◌∷◌, ◌++◌}
use mathlib.Core.Option.{Option, some, none}
use lib.Dec.{eqb}
use lib.ListN.{length, take, drop, get_or, length-append}
use lib.IntN.{pos}
use Rattle.logic.specs.Limits.{most_type_words}
use Rattle.logic.specs.Refusals.{condition_fails, not_a_function}
use Rattle.logic.specs.Result.{Result, ok, refused, ◌>>◌, known}
use Rattle.logic.specs.Tags.{tag_kindP, tag_kindT}
use Rattle.logic.specs.Term.{propA, typeA, kindPA, Op, saysO, piO, lamO, appO, retO, bindO, Op-discrete, Term, atom, var, sign, node, N, Says, word}
use Rattle.logic.specs.Term.{atom_word, op_word, encode, size, first_word}
use Rattle.logic.specs.Move.{raise}
use Rattle.logic.specs.Reading.{branch, word_shape, PlainType}
use Rattle.logic.specs.Infer.{same, condition, domain, Parts, parts}
use Rattle.logic.proofs.Basics.{clash}
use Rattle.logic.proofs.Results.{then_is}
use Rattle.logic.proofs.Stopped.{stop_then}
use Rattle.logic.proofs.Words.{head, shape_first, encode_size, shape_op, node_plain, op_below}
use Rattle.words.specs.Place.{At, written_at}
use Rattle.moves.specs.Shift.{Shifted}
use Rattle.moves.specs.declared.shift.Shift.{Shift}
use Rattle.words.specs.Typed.{TypeAt}
use Rattle.words.proofs.Places.{words_head, at_left}
use Rattle.words.proofs.Lists.{drop_written, written_before, written_inside}
use Rattle.moves.proofs.Shifts.{length_shift}
use Rattle.rules.specs.Rule.{ready}
use Rattle.rules.specs.Scope.{tail, entry_head, binder_entry}
use Rattle.rules.specs.Form.{front_words, level_words}
use Rattle.rules.specs.Enter.{Enters, keep_of, EntryKept, Entering, Kept, Keepable}
use Rattle.std.specs.Prelude.{Ok}
use Rattle.std.specs.Prelude.{Result as Answer}
use Rattle.logic.specs.Answer.{answer as told}
use Rattle.logic.specs.declared.refusal.Refusal.{Refusal}
use Rattle.rules.specs.declared.enter.Entered.{Entered}
use Rattle.rules.proofs.Fronts.{atom_first, type_part}
use Rattle.rules.proofs.Kepts.{kept_tail, kept_type, kept_none}

-- ---- a domain

-- the first word of a type that a domain may have
abbrev pub domain_word : ℕ → Bool
domain_word w = eqb w (atom_word typeA) || eqb w (atom_word propA) || eqb w (atom_word kindPA)

pub domain_first : (A : Term) (w : ℕ) → PlainType A → w ≡ first_word A → domain_word w ≡ domain A
domain_first A w p e = let is = atom_first A w p e in ap₂ ◌||◌ (ap₂ ◌||◌ (is typeA tt) (is propA tt)) (is kindPA tt)

-- ---- a type that is a node

record NodeOf (o : Op) (A : Term) : Type 0 where
  left : Term
  right : Term
  is : A ≡ node o left right

node_of : (o : Op) (A : Term) → PlainType A → first_word A ≡ op_word o → NodeOf o A
node_of o A (inl p) e = go A (sym (shape_first A p) ∙ ap word_shape e ∙ shape_op o)
  where
    go : (A : Term) → head A ≡ branch o → NodeOf o A
    go (atom a) q = absurd (clash (cc))
    go (var n) q = absurd (clash (cc))
    go (sign n t) q = absurd (clash (cc))
    go (node h x y) q = record { left = x; right = y; is = cc }
node_of o A (inr (inl k)) e = let q : word tag_kindP 0 ≡ op_word o = sym (ap first_word k) ∙ e in let b = op_below o in absurd (omega arith)
node_of o A (inr (inr k)) e = let q : word tag_kindT 0 ≡ op_word o = sym (ap first_word k) ∙ e in let b = op_below o in absurd (omega arith)

parts_some : (o : Op) (x y : Term) → parts o (node o x y) ≡ some (record { left = x; right = y })
parts_some o x y = go (Op-discrete o o)
  where
    go : (d : Dec (o ≡ o)) → ◌≡◌ {A = Option Parts} (elim d [ yes _ ↦ some (record { left = x; right = y }) | no _ ↦ none ])
        (some (record { left = x; right = y }))
    go (yes q) = refl
    go (no q) = absurd (q refl)

parts_none : (o : Op) (A : Term) → (first_word A ≡ op_word o → ⊥) → parts o A ≡ none
parts_none o (atom a) n = refl
parts_none o (var k) n = refl
parts_none o (sign k t) n = refl
parts_none o (node h x y) n = go (Op-discrete o h)
  where
    go : (d : Dec (o ≡ h)) → ◌≡◌ {A = Option Parts} (elim d [ yes _ ↦ some (record { left = x; right = y }) | no _ ↦ none ]) none
    go (yes q) = absurd (n (ap op_word (sym q)))
    go (no q) = refl

-- ---- a Bind's entry

pub says_size : (p q : Term) → size (Says p q) ≡ 1 + size p + size q
unfolding size
says_size p q = let e : suc (size p + size q) ≡ 1 + size p + size q = omega arith in e

bind_length : (at : ℕ) (a p q : Term) → length (binder_entry bindO at a (Says p q)) ≡ entry_head + size (Says p q)
bind_length at a p q =
    let m : length (encode (raise 1 p)) ≡ size p = length_shift 0 (pos 1) p in
    let z : length (encode q) ≡ size q = encode_size q in
    let l : length (encode (raise 1 p) ++ encode q) ≡ length (encode (raise 1 p)) + length (encode q) = length-append (encode (raise 1 p)) (encode q) in
    let k : size (Says p q) ≡ 1 + size p + size q = says_size p q in
    omega arith

says_encode : (p q : Term) → encode (Says p q) ≡ (op_word saysO ∷ []) ++ (encode p ++ encode q)
unfolding encode
says_encode p q = refl

-- the type's words were copied behind the entry's head
module _ {ws mid : List ℕ} {n : ℕ} {p q : Term} (used : ℕ) (h : TypeAt ws 0 (Says p q)) (s : n ≡ size (Says p q))
    (room : used + (entry_head + n) ≤ length ws)
    (e : mid ≡ written_at ws (length ws - (used + (entry_head + n)) + entry_head) (take n ws)) where
  copied : take n ws ≡ encode (Says p q)
  copied = ap (λ (i : ℕ). take i ws) s ∙ type_part h

  pub principal_at : At mid (length ws - (used + (entry_head + n)) + entry_head + 1) p
  principal_at =
      let start : ℕ = length ws - (used + (entry_head + n)) + entry_head in
      let i : At mid start (Says p q) = record {
        plain = node_plain refl h.plain;
        rest = drop (start + length (take n ws)) ws;
        words = ap (drop start) e ∙ drop_written ws (take n ws) start (omega arith) ∙ ap (λ (x : List ℕ). x ++ drop (start + length (take n ws)) ws) copied;
      } in
      at_left i

  -- its principal was raised, and the entry's head written
  pub says_kept : {low new : List ℕ} {w : Shift} (at : ℕ) (a : Term) → Shifted p 0 (pos 1) mid (length ws - (used + (entry_head + n)) + entry_head + 1) low w
      → new ≡ written_at low (length ws - (used + (entry_head + n))) ((entry_head + n) ∷ 0 ∷ (n - 1 - w.words) ∷ [])
      → Kept (binder_entry bindO at a (Says p q)) used ws new (used + (entry_head + n))
  says_kept {low} {new} {w} at a f g =
      let to : ℕ = length ws - (used + (entry_head + n)) in
      let x : List ℕ = op_word saysO ∷ [] in
      let k : n ≡ 1 + size p + size q = s ∙ says_size p q in
      let c : w.words ≡ size p = f.words_are in
      let m : length (encode (raise 1 p)) ≡ size p = length_shift 0 (pos 1) p in
      let y : length (encode p) ≡ size p = encode_size p in
      let t : n - 1 - w.words ≡ size q = omega arith in
      let u : low ≡ written_at ws (to + entry_head) (x ++ (encode (raise 1 p) ++ encode q)) =
      f.words
      ∙ ap (λ (o : List ℕ). written_at o (to + entry_head + 1) (encode (raise 1 p))) (e ∙ ap (written_at ws (to + entry_head)) (copied ∙ says_encode p q))
      ∙ written_inside ws (to + entry_head) x (encode p) (encode q) (encode (raise 1 p)) (omega arith) (m ∙ sym y) in
      let xs : List ℕ = binder_entry bindO at a (Says p q) in
      let r : entry_head + n ≡ length xs = ap (λ (i : ℕ). entry_head + i) s ∙ sym (bind_length at a p q) in
      record {
        count = ap (λ (i : ℕ). used + i) r;
        words = g
            ∙ ap (λ (o : List ℕ). written_at o to ((entry_head + n) ∷ 0 ∷ (n - 1 - w.words) ∷ [])) u
            ∙ written_before ws to ((entry_head + n) ∷ 0 ∷ (n - 1 - w.words) ∷ []) (x ++ (encode (raise 1 p) ++ encode q)) (omega arith)
            ∙ ap₂ (λ (i j : ℕ). written_at ws to (i ∷ 0 ∷ j ∷ (x ++ (encode (raise 1 p) ++ encode q)))) (ap (λ (i : ℕ). entry_head + i) s) t
            ∙ ap (λ (i : ℕ). written_at ws (length ws - (used + i)) xs) r;
      }

-- ---- a node's rule: the test, the entry, and the words kept at the front

record Rule (o : Op) (at : ℕ) (a A : Term) (n : ℕ) (test : Result (Unit {0})) (xs : List ℕ) (keep : ℕ) : Type 0 where
  tests : ready o at A ≡ test
  keeps : binder_entry o at a A ≡ xs
  front : keep_of o n ≡ keep

-- the test of App and of Bind: the first child's type is a node of the kind h, or the refusal has the number m
abbrev node_test : (m : ℕ) → Op → ℕ → Term → Result (Unit {0})
node_test m h at A = known m at (parts h A) >> ok tt

-- the nodes by their words
app_rule : (o : Op) (at : ℕ) (a A : Term) (n : ℕ) → op_word o ≡ op_word appO → Rule o at a A n (node_test not_a_function piO at A) [] n
unfolding ready
app_rule saysO at a A n e = absurd (omega arith)
app_rule piO at a A n e = absurd (omega arith)
app_rule lamO at a A n e = absurd (omega arith)
app_rule appO at a A n e = record { tests = refl; keeps = refl; front = refl }
app_rule retO at a A n e = absurd (omega arith)
app_rule bindO at a A n e = absurd (omega arith)

bind_rule : (o : Op) (at : ℕ) (a A : Term) (n : ℕ) → op_word o ≡ op_word bindO
    → Rule o at a A n (node_test condition_fails saysO at A) (binder_entry bindO at a A) 0
unfolding ready
bind_rule saysO at a A n e = absurd (omega arith)
bind_rule piO at a A n e = absurd (omega arith)
bind_rule lamO at a A n e = absurd (omega arith)
bind_rule appO at a A n e = absurd (omega arith)
bind_rule retO at a A n e = absurd (omega arith)
bind_rule bindO at a A n e = record { tests = refl; keeps = refl; front = refl }

neither : {X Y : Type 0} → X ⊎ Y → (X → ⊥) → (Y → ⊥) → ⊥
neither e f g = elim e [ inl x ↦ f x | inr y ↦ g y ]

-- of Pi and Lam
binder_rule : (o : Op) (at : ℕ) (a A : Term) (n : ℕ) → (op_word o ≡ op_word piO) ⊎ (op_word o ≡ op_word lamO)
    → Rule o at a A n (condition at (domain A)) (entry_head ∷ (at + 1) ∷ size a ∷ []) 0
unfolding ready
binder_rule saysO at a A n e = absurd (neither e (λ i. omega arith) (λ i. omega arith))
binder_rule piO at a A n e = record { tests = refl; keeps = refl; front = refl }
binder_rule lamO at a A n e = record { tests = refl; keeps = refl; front = refl }
binder_rule appO at a A n e = absurd (neither e (λ i. omega arith) (λ i. omega arith))
binder_rule retO at a A n e = absurd (neither e (λ i. omega arith) (λ i. omega arith))
binder_rule bindO at a A n e = absurd (neither e (λ i. omega arith) (λ i. omega arith))

-- of Says and Ret
plain_rule : (o : Op) (at : ℕ) (a A : Term) (n : ℕ) → (op_word o ≡ op_word appO → ⊥) → (op_word o ≡ op_word bindO → ⊥) → (op_word o ≡ op_word piO → ⊥)
    → (op_word o ≡ op_word lamO → ⊥) → Rule o at a A n (condition at (same A N)) [] 0
unfolding ready
plain_rule saysO at a A n p q r s = record { tests = refl; keeps = refl; front = refl }
plain_rule piO at a A n p q r s = absurd (r refl)
plain_rule lamO at a A n p q r s = absurd (s refl)
plain_rule appO at a A n p q r s = absurd (p refl)
plain_rule retO at a A n p q r s = record { tests = refl; keeps = refl; front = refl }
plain_rule bindO at a A n p q r s = absurd (q refl)

module _ {o : Op} {at : ℕ} {a A : Term} {n : ℕ} {test : Result (Unit {0})} {xs : List ℕ} {keep : ℕ} (rule : Rule o at a A n test xs keep) where
  passes : (used : ℕ) (old new : List ℕ) (r : ℕ) → test ≡ ok tt → Kept xs used old new r → used + length xs + size A ≤ length old → TypeAt old 0 A
      → Entering o at a A n used old new (Ok (record { keep = keep; used = r }))
  passes used old new r e k l h =
      let x : binder_entry o at a A ≡ xs = rule.keeps in
      let t = rule.tests ∙ e in
      record {
        answer =
            ap₂ (λ (i j : ℕ). ok (record { keep = i; used = j })) (sym rule.front) (k.count ∙ ap (λ (y : List ℕ). used + length y) (sym x))
            ∙ sym (then_is _ t refl);
        kept = subst (λ (u : Result (Unit {0})). EntryKept u o at a A used old new) (sym t) (
          ap (λ (y : List ℕ). tail (used + length y) new) x ∙ kept_tail xs old new used r (omega arith) k ∙ ap (λ (y : List ℕ). y ++ tail used old) (sym x),
          kept_type xs old new used r (omega arith) k A l h,
        );
      }

  fails : {m : ℕ} {r : Answer Entered Refusal} (used : ℕ) (old : List ℕ) → test ≡ refused m at → told r ≡ refused m at → Entering o at a A n used old old r
  fails {r} used old e q =
      let t = rule.tests ∙ e in
      record { answer = q ∙ sym (stop_then _ t); kept = subst (λ (u : Result (Unit {0})). EntryKept u o at a A used old old) (sym t) refl }

-- ---- the answers

module _ {proof ws : List ℕ} {at next n : ℕ} {o : Op} {a A : Term} (used : ℕ) (room : used + level_words + front_words ≤ length ws)
    (small : n ≤ most_type_words) (j : Enters proof ws at next n o a A) where
  front_first : get_or ws 0 0 ≡ first_word A
  front_first = words_head ws 0 A j.type.rest j.type.words

  -- nothing is kept at the end
  passes_none : {test : Result (Unit {0})} {keep : ℕ} → Rule o at a A n test [] keep → test ≡ ok tt
      → Entering o at a A n used ws ws (Ok (record { keep = keep; used = used }))
  passes_none rule e = let w : n ≡ size A = j.type_words in passes rule used ws ws used e (kept_none ws used) (omega arith) j.type

  node_passes : (m : ℕ) (h : Op) → get_or ws 0 0 ≡ op_word h → node_test m h at A ≡ ok tt
  node_passes m h e =
      let i = node_of h A j.type.plain (sym front_first ∙ e) in
      ap (λ (B : Term). node_test m h at B) i.is ∙ ap (λ (x : Option Parts). known m at x >> ok tt) (parts_some h i.left i.right)

  node_fails : (m : ℕ) (h : Op) → (get_or ws 0 0 ≡ op_word h → ⊥) → node_test m h at A ≡ refused m at
  node_fails m h q = ap (λ (x : Option Parts). known m at x >> ok tt) (parts_none h A λ e. q (front_first ∙ e))

  pub app_passes : get_or proof at 0 ≡ op_word appO → get_or ws 0 0 ≡ op_word piO → Entering o at a A n used ws ws (Ok (record { keep = n; used = used }))
  app_passes t e = passes_none (app_rule o at a A n (sym j.head ∙ t)) (node_passes _ piO e)

  pub app_fails : {r : Answer Entered Refusal} → get_or proof at 0 ≡ op_word appO → (get_or ws 0 0 ≡ op_word piO → ⊥) → told r ≡ refused not_a_function at
      → Entering o at a A n used ws ws r
  app_fails t q f = fails (app_rule o at a A n (sym j.head ∙ t)) used ws (node_fails _ piO q) f

  -- what `keep_says` asks
  pub bind_keeps : get_or ws 0 0 ≡ op_word saysO → Keepable ws used n
  bind_keeps e =
      let i = node_of saysO A j.type.plain (sym front_first ∙ e) in
      record {
        p = i.left;
        q = i.right;
        type = subst (TypeAt ws 0) i.is j.type;
        type_words = j.type_words ∙ ap size i.is;
        small = small;
        room = room;
      }

  pub bind_passes : {new : List ℕ} {r : ℕ} → get_or proof at 0 ≡ op_word bindO → get_or ws 0 0 ≡ op_word saysO
      → ((i : ℕ) (b p q : Term) → TypeAt ws 0 (Says p q) → n ≡ size (Says p q) → Kept (binder_entry bindO i b (Says p q)) used ws new r)
      → Entering o at a A n used ws new (Ok (record { keep = 0; used = r }))
  bind_passes {new} {r} t e f =
      let i = node_of saysO A j.type.plain (sym front_first ∙ e) in
      let p : Term = i.left in
      let q : Term = i.right in
      let w : n ≡ size A = j.type_words in
      let k : Kept (binder_entry bindO at a A) used ws new r = subst (λ (B : Term). Kept (binder_entry bindO at a B) used ws new r) (sym i.is)
      (f at a p q (subst (TypeAt ws 0) i.is j.type) (w ∙ ap size i.is)) in
      let l : length (binder_entry bindO at a A) ≡ entry_head + size A = ap (λ (B : Term). length (binder_entry bindO at a B)) i.is ∙ bind_length at a p q
      ∙ ap (λ (B : Term). entry_head + size B) (sym i.is) in
      passes (bind_rule o at a A n (sym j.head ∙ t)) used ws new r (node_passes _ saysO e) k (omega arith) j.type

  pub bind_fails : {r : Answer Entered Refusal} → get_or proof at 0 ≡ op_word bindO → (get_or ws 0 0 ≡ op_word saysO → ⊥)
      → told r ≡ refused condition_fails at → Entering o at a A n used ws ws r
  bind_fails t q f = fails (bind_rule o at a A n (sym j.head ∙ t)) used ws (node_fails _ saysO q) f

  named : (get_or proof at 0 ≡ op_word piO) ⊎ (get_or proof at 0 ≡ op_word lamO) → (op_word o ≡ op_word piO) ⊎ (op_word o ≡ op_word lamO)
  named e = elim e [ inl x ↦ inl (sym j.head ∙ x) | inr x ↦ inr (sym j.head ∙ x) ]

  -- what `domain` answers
  abbrev Answers : Bool → Type 0
  Answers b = (s : Term) → PlainType s → get_or ws 0 0 ≡ first_word s → b ≡ domain s

  domain_is : (b : Bool) → Answers b → b ≡ domain A
  domain_is b f = f A j.type.plain front_first

  pub binder_passes : {new : List ℕ} {r : ℕ} {b : Bool} → (get_or proof at 0 ≡ op_word piO) ⊎ (get_or proof at 0 ≡ op_word lamO) → b ≡ true → Answers b
      → Kept (entry_head ∷ (at + 1) ∷ (next - (at + 1)) ∷ []) used ws new r → Entering o at a A n used ws new (Ok (record { keep = 0; used = r }))
  binder_passes {new} {r} {b} e d f g =
      let w : n ≡ size A = j.type_words in
      let x : next ≡ at + 1 + size a = j.next_is in
      let y : next - (at + 1) ≡ size a = omega arith in
      passes (binder_rule o at a A n (named e)) used ws new r
      (ap (condition at) (sym (domain_is b f) ∙ d))
      (subst (λ (m : ℕ). Kept (entry_head ∷ (at + 1) ∷ m ∷ []) used ws new r) y g)
      (omega arith)
      j.type

  pub binder_fails : {r : Answer Entered Refusal} {b : Bool} → (get_or proof at 0 ≡ op_word piO) ⊎ (get_or proof at 0 ≡ op_word lamO) → b ≡ false → Answers b
      → told r ≡ refused condition_fails at → Entering o at a A n used ws ws r
  binder_fails {b} e d f t = fails (binder_rule o at a A n (named e)) used ws (ap (condition at) (sym (domain_is b f) ∙ d)) t

  -- the word is of none of four nodes
  pub record Plain : Type 0 where
    pub no_app : get_or proof at 0 ≡ op_word appO → ⊥
    pub no_bind : get_or proof at 0 ≡ op_word bindO → ⊥
    pub no_pi : get_or proof at 0 ≡ op_word piO → ⊥
    pub no_lam : get_or proof at 0 ≡ op_word lamO → ⊥

  plain_is : Plain → Rule o at a A n (condition at (same A N)) [] 0
  plain_is p = plain_rule o at a A n (λ e. p.no_app (j.head ∙ e)) (λ e. p.no_bind (j.head ∙ e)) (λ e. p.no_pi (j.head ∙ e)) (λ e. p.no_lam (j.head ∙ e))

  pub plain_passes : {b : Bool} → Plain → b ≡ true → b ≡ same A N → Entering o at a A n used ws ws (Ok (record { keep = 0; used = used }))
  plain_passes p d f = passes_none (plain_is p) (ap (condition at) (sym f ∙ d))

  pub plain_fails : {r : Answer Entered Refusal} {b : Bool} → Plain → b ≡ false → b ≡ same A N → told r ≡ refused condition_fails at
      → Entering o at a A n used ws ws r
  plain_fails p d f t = fails (plain_is p) used ws (ap (condition at) (sym f ∙ d)) t

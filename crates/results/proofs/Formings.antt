-- The result of a node is that of the rule that its word names.
use Prim.Native.Nat.{ℕ, suc, ◌+◌, ◌≤◌}
use native.Mathlib.Omega.{arith}
use mathlib.Core.Path.{◌≡◌, refl, sym, ap, subst, ◌∙◌}
use mathlib.Core.Bool.{Bool, true, false, ◌||◌}
use mathlib.Core.List.{List, ◌∷◌, ◌++◌}
use lib.ListN.{length, get_or}
use Rattle.logic.specs.Limits.{most_type_words}
use Rattle.logic.specs.Refusals.{condition_fails}
use Rattle.logic.specs.Result.{refused, ◌>>◌}
use Rattle.logic.specs.Term.{Op, saysO, piO, lamO, appO, retO, bindO, Term, P, KindP, op_word, encode, size}
use Rattle.logic.specs.Move.{raise}
use Rattle.logic.specs.Reading.{branch, word_shape}
use Rattle.logic.specs.Infer.{same, condition, measured}
use Rattle.logic.proofs.Results.{pass}
use Rattle.logic.proofs.Stopped.{fail}
use Rattle.logic.proofs.Proposition.{same_true}
use Rattle.logic.proofs.Words.{shape_op, node_plain}
use Rattle.words.specs.Place.{At}
use Rattle.words.specs.Typed.{TypeAt}
use Rattle.words.proofs.Places.{at_head, at_left, at_right}
use Rattle.rules.specs.Rule.{first_child, second_child, pair_type, app_type, bind_type, node_type}
use Rattle.rules.specs.Scope.{entry_head}
use Rattle.rules.specs.Form.{front_words, TypeFormed}
use Rattle.rules.specs.Enter.{keep_of}
use Rattle.bind_result.specs.BindResult.{Binds, Bindable}
use Rattle.results.specs.Results.{Applies, Appliable, Pairs, Pairable, Forms, Formable}
use Rattle.std.specs.Prelude.{Ok}
use Rattle.std.specs.Prelude.{Result as Answer}
use Rattle.logic.specs.Answer.{answer as told}
use Rattle.logic.specs.declared.refusal.Refusal.{Refusal}
use Rattle.rules.specs.declared.typed.Typed.{Typed}
use Rattle.rules.proofs.Fronts.{measured_fits, formed_refused, formed_typed}

-- a word names one node
op_is : (w : ℕ) (o o' : Op) → w ≡ op_word o → w ≡ op_word o' → o ≡ o'
op_is w o o' p e = let q : branch o ≡ branch o' = sym (shape_op o) ∙ ap word_shape (sym p ∙ e) ∙ shape_op o' in cc

-- what `front_is` answers
abbrev pub Is : List ℕ → Term → Bool → Type 0
Is ws s b = (B : Term) → TypeAt ws 0 B → b ≡ same B s

-- only a Pi is left
pub record NoOther (w : ℕ) : Type 0 where
  pub no_app : w ≡ op_word appO → ⊥
  pub no_bind : w ≡ op_word bindO → ⊥
  pub no_lam : w ≡ op_word lamO → ⊥
  pub no_ret : w ≡ op_word retO → ⊥
  pub no_says : w ≡ op_word saysO → ⊥

the_pi : {w : ℕ} → NoOther w → (o : Op) → w ≡ op_word o → w ≡ op_word piO
the_pi n saysO e = absurd (n.no_says e)
the_pi n piO e = e
the_pi n lamO e = absurd (n.no_lam e)
the_pi n appO e = absurd (n.no_app e)
the_pi n retO e = absurd (n.no_ret e)
the_pi n bindO e = absurd (n.no_bind e)

-- the type of a Says or a Pi is its second child's
stays : {ws : List ℕ} {m end : ℕ} {t : Bool} (at : ℕ) (B : Term) → t ≡ true → size B ≤ most_type_words → TypeAt ws 0 B → m ≡ size B
    → TypeFormed (condition at t >> measured at B) end ws ws (Ok (record { words = m; end = end }))
stays {ws} {end} at B e l h s = formed_typed _ B _ end ws ws (pass condition_fails at e (measured_fits at B l)) s h refl

module _ {proof ws : List ℕ} {used at next n m end : ℕ} where
  -- ---- what each rule needs

  applies : {a b A B : Term} → Forms proof ws used at next n m end appO a b A B → Applies proof ws next n m end (first_child A) (second_child A) b B
  unfolding size
  applies {a} {b} {A} {B} j =
      let (i, t, p) = j.first_type in
      let e : end ≡ at + suc (size a + size b) = j.end_is in
      let k = j.next_is in
      record {
        function = subst (At ws 0) i (record { plain = node_plain i t.plain; rest = t.rest; words = t.words });
        function_words = j.first_words ∙ ap size i;
        argument = j.second_type;
        argument_words = j.second_words;
        here = subst (λ (x : ℕ). At proof x b) (sym k) (at_right j.here);
        end_is = omega arith;
        plain = p;
      }

  pairs : {o : Op} {a b A B : Term} → keep_of o n ≡ 0 → Forms proof ws used at next n m end o a b A B → Pairs proof ws at next m a B
  pairs {B} k j =
      record { here = at_left j.here; next_is = j.next_is; type = subst (λ (x : ℕ). TypeAt ws x B) k j.second_type; type_words = j.second_words }

  bind_says : {a b A B : Term} → Forms proof ws used at next n m end bindO a b A B → Binds ws used m (first_child A) (second_child A) B
  unfolding size
  bind_says {a} {b} {A} {B} j =
      let (i, p) = j.first_type in
      let s : size A ≡ suc (size (first_child A) + size (second_child A)) = ap size i in
      let k : size A ≡ 1 + size (first_child A) + size (second_child A) = omega arith in
      record {
        rest = j.rest;
        kept =
            j.kept ∙ ap (λ (x : ℕ). (entry_head + x) ∷ (0 ∷
            (size (second_child A) ∷ ((op_word saysO ∷ (encode (raise 1 (first_child A)) ++ encode (second_child A))) ++ j.rest)))) k;
        principal = p;
        type = j.second_type;
        type_words = j.second_words;
      }

  -- ---- an App, a Bind, a Lam or a Ret

  word_is : {o : Op} {a b A B : Term} → Forms proof ws used at next n m end o a b A B → get_or proof at 0 ≡ op_word o
  word_is j = at_head j.here

  -- what the rule of o' ensures is what the node's rule does, where its word is that of o'
  by_rule : (o' : Op) {new : List ℕ} {r : Answer Typed Refusal} → get_or proof at 0 ≡ op_word o'
      → ((a b A B : Term) → Forms proof ws used at next n m end o' a b A B → TypeFormed (node_type o' at a b A B) end ws new r)
      → (o : Op) (a b A B : Term) → Forms proof ws used at next n m end o a b A B → TypeFormed (node_type o at a b A B) end ws new r
  by_rule o' {new} {r} e f o a b A B j =
      subst (λ (o : Op). Forms proof ws used at next n m end o a b A B → TypeFormed (node_type o at a b A B) end ws new r) (sym (op_is _ o o' (word_is j) e))
      (f a b A B) j

  pub formed_app : {new : List ℕ} {r : Answer Typed Refusal} → get_or proof at 0 ≡ op_word appO
      → ((d C e E : Term) → Applies proof ws next n m end d C e E → TypeFormed (app_type at d C e E) end ws new r)
      → (o : Op) (a b A B : Term) → Forms proof ws used at next n m end o a b A B → TypeFormed (node_type o at a b A B) end ws new r
  unfolding node_type
  formed_app e f = by_rule appO e (λ a b A B j. f (first_child A) (second_child A) b B (applies j))

  pub formed_bind : {new : List ℕ} {r : Answer Typed Refusal} → get_or proof at 0 ≡ op_word bindO
      → ((p q B : Term) → Binds ws used m p q B → TypeFormed (bind_type at p B) end ws new r)
      → (o : Op) (a b A B : Term) → Forms proof ws used at next n m end o a b A B → TypeFormed (node_type o at a b A B) end ws new r
  unfolding node_type
  formed_bind e f = by_rule bindO e (λ a b A B j. f (first_child A) (second_child A) B (bind_says j))

  pub formed_lam : {new : List ℕ} {r : Answer Typed Refusal} → get_or proof at 0 ≡ op_word lamO
      → ((o : Op) (a B : Term) → op_word piO ≡ op_word o → Pairs proof ws at next m a B → TypeFormed (pair_type at o a B) end ws new r)
      → (o : Op) (a b A B : Term) → Forms proof ws used at next n m end o a b A B → TypeFormed (node_type o at a b A B) end ws new r
  unfolding node_type
  formed_lam e f = by_rule lamO e (λ a b A B j. f piO a B refl (pairs refl j))

  pub formed_ret : {new : List ℕ} {r : Answer Typed Refusal} → get_or proof at 0 ≡ op_word retO
      → ((o : Op) (a B : Term) → op_word saysO ≡ op_word o → Pairs proof ws at next m a B → TypeFormed (pair_type at o a B) end ws new r)
      → (o : Op) (a b A B : Term) → Forms proof ws used at next n m end o a b A B → TypeFormed (node_type o at a b A B) end ws new r
  unfolding node_type
  formed_ret e f = by_rule retO e (λ a b A B j. f saysO a B refl (pairs refl j))

  module _ (p : Formable proof ws used at next n m end) where
    -- the node is that of the word that was found
    found : (o' : Op) → get_or proof at 0 ≡ op_word o'
        → Forms proof ws used at next n m end o' p.a p.b p.A p.B × (used + keep_of o' n + front_words ≤ length ws)
    found o' e =
        let q = op_is _ p.o o' (word_is p.forms) e in (
          subst (λ (o : Op). Forms proof ws used at next n m end o p.a p.b p.A p.B) q p.forms,
          subst
              (λ (o : Op). used + keep_of o n + front_words ≤ length ws) q p.room,
        )

    pub appliable : get_or proof at 0 ≡ op_word appO → Appliable proof ws next n m end
    appliable e =
        let (j, l) = found appO e in
        record {
          d = first_child p.A;
          C = second_child p.A;
          e = p.b;
          E = p.B;
          applies = applies j;
          small = p.small_first;
          small_argument = p.small_second;
          short = p.short;
          room = omega arith;
        }

    pub bindable : get_or proof at 0 ≡ op_word bindO → Bindable ws used m
    unfolding size
    bindable e =
        let (j, l) = found bindO e in
        let s : size p.A ≡ suc (size (first_child p.A) + size (second_child p.A)) = ap size j.first_type.0 in
        let k = j.first_words in
        let b = p.small_first in
        record {
          p = first_child p.A;
          q = second_child p.A;
          B = p.B;
          binds = bind_says j;
          small = p.small_second;
          small_kept = omega arith;
          room = omega arith;
        }

    pub pairable : (o' : Op) → keep_of o' n ≡ 0 → get_or proof at 0 ≡ op_word o' → Pairable proof ws at next m
    pairable o' z e =
        let (j, l) = found o' e in
        record { a = p.a; B = p.B; pairs = pairs z j; small = p.small_second; short = p.short; room = omega arith }

  -- ---- a Says or a Pi: the type stays

  pub formed_says : {prop : Bool} → get_or proof at 0 ≡ op_word saysO → Is ws P prop → prop ≡ true
      → (o : Op) (a b A B : Term) → Forms proof ws used at next n m end o a b A B
      → TypeFormed (node_type o at a b A B) end ws ws (Ok (record { words = m; end = end }))
  unfolding node_type size
  formed_says w i t = by_rule saysO w (λ a b A B j.
      let f : same B P ≡ true = sym (i B j.second_type) ∙ t in
      let q = same_true B P f in
      stays at P f (omega arith) (subst (TypeAt ws 0) q j.second_type) (j.second_words ∙ ap size q))

  pub formed_no_says : {prop : Bool} {r : Answer Typed Refusal} → get_or proof at 0 ≡ op_word saysO → Is ws P prop → prop ≡ false
      → told r ≡ refused condition_fails at
      → (o : Op) (a b A B : Term) → Forms proof ws used at next n m end o a b A B → TypeFormed (node_type o at a b A B) end ws ws r
  unfolding node_type
  formed_no_says w i t e = by_rule saysO w (λ a b A B j. formed_refused _ condition_fails at end ws (fail _ at _ (sym (i B j.second_type) ∙ t)) e)

  by_pi : {r : Answer Typed Refusal} → NoOther (get_or proof at 0)
      → ((a b A B : Term) → Forms proof ws used at next n m end piO a b A B → TypeFormed (node_type piO at a b A B) end ws ws r)
      → (o : Op) (a b A B : Term) → Forms proof ws used at next n m end o a b A B → TypeFormed (node_type o at a b A B) end ws ws r
  by_pi n f o a b A B j = by_rule piO (the_pi n o (word_is j)) f o a b A B j

  pub formed_prop : {prop : Bool} → NoOther (get_or proof at 0) → Is ws P prop → prop ≡ true
      → (o : Op) (a b A B : Term) → Forms proof ws used at next n m end o a b A B
      → TypeFormed (node_type o at a b A B) end ws ws (Ok (record { words = m; end = end }))
  unfolding node_type size
  formed_prop n i t = by_pi n (λ a b A B j.
      let f : same B P ≡ true = sym (i B j.second_type) ∙ t in
      let z : size B ≡ 1 = ap size (same_true B P f) in
      stays at B (ap (λ (x : Bool). x || same B KindP) f) (omega arith) j.second_type j.second_words)

  pub formed_kind : {prop kind : Bool} → NoOther (get_or proof at 0) → Is ws P prop → prop ≡ false → Is ws KindP kind → kind ≡ true
      → (o : Op) (a b A B : Term) → Forms proof ws used at next n m end o a b A B
      → TypeFormed (node_type o at a b A B) end ws ws (Ok (record { words = m; end = end }))
  unfolding node_type size
  formed_kind n i f k t = by_pi n (λ a b A B j.
      let z : size B ≡ 1 = ap size (same_true B KindP (sym (k B j.second_type) ∙ t)) in
      stays at B (ap (λ (x : Bool). x || same B KindP) (sym (i B j.second_type) ∙ f) ∙ sym (k B j.second_type) ∙ t) (omega arith) j.second_type j.second_words)

  pub formed_no_pi : {prop kind : Bool} {r : Answer Typed Refusal} → NoOther (get_or proof at 0) → Is ws P prop → prop ≡ false → Is ws KindP kind → kind ≡ false
      → told r ≡ refused condition_fails at
      → (o : Op) (a b A B : Term) → Forms proof ws used at next n m end o a b A B → TypeFormed (node_type o at a b A B) end ws ws r
  unfolding node_type
  formed_no_pi n i f k t e = by_pi n (λ a b A B j. formed_refused _ condition_fails at end ws
      (fail _ at _ (ap (λ (x : Bool). x || same B KindP) (sym (i B j.second_type) ∙ f) ∙ sym (k B j.second_type) ∙ t)) e)

-- Where a step is taken a node stands at whose root a rule fits, and the result has what that makes of it in its place.
use Prim.Native.Nat.{ℕ, ◌+◌}
use mathlib.Core.Path.{◌≡◌, refl, sym, ap, ◌∙◌}
use mathlib.Core.Bool.{Bool, true, false, cond}
use mathlib.Core.List.{List, [], ◌∷◌, ◌++◌, append_assoc, append-nil}
use mathlib.Core.Option.{Option, some, none, map}
use native.Mathlib.Omega.{arith}
use lib.ListN.{length, length-append}
use Rattle.logic.specs.Term.{Op, Term, atom, var, sign, node, op_word, encode, size}
use Rattle.logic.specs.Reading.{Plain, or_else}
use Rattle.logic.proofs.Words.{encode_size}
use Rattle.reduction.specs.Steps.{contracted, steps_first, steps_second, next_step}
use Rattle.steps.specs.Redex.{first_place}

-- in t, which begins at the place `at`, the step at the place p gives u
pub record Site (at : ℕ) (t u : Term) (p : ℕ) : Type 0 where
  pub o : Op
  pub a : Term
  pub b : Term
  pub result : Term
  pub rule : contracted o a b ≡ some result
  pub before : List ℕ
  pub behind : List ℕ
  pub place : p ≡ at + length before
  pub words : encode t ≡ before ++ (encode (node o a b) ++ behind)
  pub new_words : encode u ≡ before ++ (encode result ++ behind)
  pub plain : Plain t → Plain (node o a b)

-- what the two searches give
abbrev Sited : ℕ → Term → Option Term → Option ℕ → Type 0
Sited at t none none = Unit {0}
Sited at t none (some p) = ⊥
Sited at t (some u) none = ⊥
Sited at t (some u) (some p) = Site at t u p

-- at the root, in the first child and in the second

root_site : (at : ℕ) (o : Op) (a b u : Term) → contracted o a b ≡ some u → Site at (node o a b) u at
root_site at o a b u e = record {
  o = o;
  a = a;
  b = b;
  result = u;
  rule = e;
  before = [];
  behind = [];
  place = omega arith;
  words = sym (append-nil (encode (node o a b)));
  new_words = sym (append-nil (encode u));
  plain = λ p. p;
}

first_site : (at : ℕ) (o : Op) (a b x : Term) (p : ℕ) → Site (at + 1) a x p → Site at (node o a b) (node o x b) p
unfolding encode Plain
first_site at o a b x p s = record {
  o = s.o;
  a = s.a;
  b = s.b;
  result = s.result;
  rule = s.rule;
  before = op_word o ∷ s.before;
  behind = s.behind ++ encode b;
  place = omega (arith, s.place);
  words = ap (λ (l : List ℕ). op_word o ∷ l) (inside (encode a) s.before (encode (node s.o s.a s.b)) s.behind (encode b) s.words);
  new_words = ap (λ (l : List ℕ). op_word o ∷ l) (inside (encode x) s.before (encode s.result) s.behind (encode b) s.new_words);
  plain = λ h. s.plain h.0;
}
  where
    inside : (l x y z w : List ℕ) → l ≡ x ++ (y ++ z) → l ++ w ≡ x ++ (y ++ (z ++ w))
    inside l x y z w e =
        ap (λ (l : List ℕ). l ++ w) e ∙ append_assoc x (y ++ z) w ∙ ap (λ (l : List ℕ). x ++ l) (append_assoc y z w)

second_site : (at : ℕ) (o : Op) (a b x : Term) (p : ℕ) → Site (at + 1 + size a) b x p → Site at (node o a b) (node o a x) p
unfolding encode Plain
second_site at o a b x p s = record {
  o = s.o;
  a = s.a;
  b = s.b;
  result = s.result;
  rule = s.rule;
  before = op_word o ∷ (encode a ++ s.before);
  behind = s.behind;
  place = omega (arith, s.place, length-append (encode a) s.before, encode_size a);
  words = ap (λ (l : List ℕ). op_word o ∷ l) (after (encode a) (encode b) s.before _ s.words);
  new_words = ap (λ (l : List ℕ). op_word o ∷ l) (after (encode a) (encode x) s.before _ s.new_words);
  plain = λ h. s.plain h.1;
}
  where
    after : (w l x y : List ℕ) → l ≡ x ++ y → w ++ l ≡ (w ++ x) ++ y
    after w l x y e = ap (λ (l : List ℕ). w ++ l) e ∙ sym (append_assoc w x y)

node_site : (at : ℕ) (o : Op) (a b : Term) (k : Option Term) → contracted o a b ≡ k → (f s : Bool) (na nb : Option Term) (qa qb : Option ℕ) →
    Sited (at + 1) a na qa → Sited (at + 1 + size a) b nb qb →
    Sited at (node o a b) (or_else k (or_else (cond f (map (λ x. node o x b) na) none) (cond s (map (λ x. node o a x) nb) none)))
    (or_else (map (λ u. at) k) (or_else (cond f qa none) (cond s qb none)))
node_site at o a b (some u) e f s na nb qa qb ha hb = root_site at o a b u e
node_site at o a b none e true s (some x) nb (some p) qb ha hb = first_site at o a b x p ha
node_site at o a b none e true s (some x) nb none qb ha hb = absurd ha
node_site at o a b none e true s none nb (some p) qb ha hb = absurd ha
node_site at o a b none e true false none nb none qb ha hb = tt
node_site at o a b none e true true none (some x) none (some p) ha hb = second_site at o a b x p hb
node_site at o a b none e true true none (some x) none none ha hb = absurd hb
node_site at o a b none e true true none none none (some p) ha hb = absurd hb
node_site at o a b none e true true none none none none ha hb = tt
node_site at o a b none e false false na nb qa qb ha hb = tt
node_site at o a b none e false true na (some x) qa (some p) ha hb = second_site at o a b x p hb
node_site at o a b none e false true na (some x) qa none ha hb = absurd hb
node_site at o a b none e false true na none qa (some p) ha hb = absurd hb
node_site at o a b none e false true na none qa none ha hb = tt

sited : (t : Term) (at : ℕ) → Sited at t (next_step t) (first_place at t)
unfolding next_step first_place
sited (atom a) at = tt
sited (var n) at = tt
sited (sign n q) at = tt
sited (node o a b) at = node_site at o a b (contracted o a b) refl (steps_first o) (steps_second o) (next_step a) (next_step b) (first_place (at + 1) a)
    (first_place (at + 1 + size a) b) (sited a (at + 1)) (sited b (at + 1 + size a))

-- a step from t, which begins at the place `at`, is taken at the place p
pub record TakenAt (at : ℕ) (t : Term) (p : ℕ) : Type 0 where
  pub u : Term
  pub step : next_step t ≡ some u
  pub site : Site at t u p

-- where the search of the code finds a place, the definition takes a step there
pub taken_at : (at p : ℕ) (t : Term) → first_place at t ≡ some p → TakenAt at t p
taken_at at p t e = go (next_step t) refl (rw e at (sited t at))
  where
    go : (n : Option Term) → next_step t ≡ n → Sited at t n (some p) → TakenAt at t p
    go none i s = absurd s
    go (some u) i s = record { u = u; step = i; site = s }

-- and where it finds none, none
pub not_taken : (at : ℕ) (t : Term) → first_place at t ≡ none → next_step t ≡ none
not_taken at t e = go (next_step t) (rw e at (sited t at))
  where
    go : (n : Option Term) → Sited at t n none → n ≡ none
    go none s = refl
    go (some u) s = absurd s

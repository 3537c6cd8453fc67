-- What each step of a Bind's result answers and writes.
use Prim.Native.Nat.{ℕ, suc, ◌+◌, ◌-◌, ◌≤◌, ◌<◌}
use native.Mathlib.Nat.{add-zero}
use native.Mathlib.Omega.{arith}
use mathlib.Core.Path.{◌≡◌, refl, sym, ap, ap₂, subst, ◌∙◌}
use mathlib.Core.Logic.{inl, inr}
use mathlib.Core.Bool.{Bool, true, false, cond}
use mathlib.Core.List.{List, ◌∷◌, ◌++◌, append_assoc, tail-eq_of_cons-eq}
use lib.Dec.{ltb, eqb}
use lib.IntN.{pos, negsuc}
use lib.Seq.{drop-drop, take_at, get_or-drop}
use lib.ListN.{length, take, drop, get_or, take-append-drop, length-append, length-drop}
use borrow.Author.Tests.{eq-eqb, ne_eqb}
use Rattle.logic.specs.Limits.{payloads, most_type_words}
use Rattle.logic.specs.Refusals.{condition_fails, variable_escapes}
use Rattle.logic.specs.Result.{Result, refused, ◌>>◌, require}
use Rattle.logic.specs.Term.{Op, saysO, piO, lamO, appO, retO, bindO, Term, atom, var, sign, node, binds, under, KindP, KindT, Says}
use Rattle.logic.specs.Term.{op_word, encode, size, first_word}
use Rattle.logic.specs.Move.{shift, raise, lower, occurs}
use Rattle.logic.specs.Reading.{branch, word_shape, Plain, PlainType, InRange}
use Rattle.logic.specs.Infer.{measured}
use Rattle.logic.proofs.Basics.{clash}
use Rattle.logic.proofs.Results.{pass}
use Rattle.logic.proofs.Stopped.{fail}
use Rattle.logic.proofs.Free.{occurs_raise, lower_raise}
use Rattle.logic.proofs.FreeVariables.{free_occurs}
use Rattle.logic.proofs.Proposition.{same_yes, same_no}
use Rattle.logic.proofs.Words.{head, shape_first, plain_in_range, prefix_free, size_pos, node_plain}
use Rattle.words.specs.Place.{At, written_at}
use Rattle.words.specs.Typed.{TypeAt}
use Rattle.moves.specs.Shift.{Shifted}
use Rattle.moves.specs.declared.shift.Shift.{Shift}
use Rattle.words.proofs.Places.{words_head}
use Rattle.words.proofs.Types.{in_range}
use Rattle.moves.proofs.Shifts.{size_shift, length_shift, zero_shifted}
use Rattle.rules.specs.Rule.{bind_type}
use Rattle.rules.specs.Scope.{entry_head}
use Rattle.rules.specs.Form.{front_words, TypeFormed}
use Rattle.bind_result.specs.BindResult.{Binds, Bindable}
use Rattle.std.specs.Prelude.{Ok}
use Rattle.std.specs.Prelude.{Result as Answer}
use Rattle.logic.specs.Answer.{answer as told}
use Rattle.logic.specs.declared.refusal.Refusal.{Refusal}
use Rattle.rules.specs.declared.typed.Typed.{Typed}
use Rattle.rules.proofs.Fronts.{measured_fits, formed_refusal, formed_refused, writes, written_kept}

-- ---- words and terms

-- two terms begin in the same place: they are the same where the first's words are those that stand there
pub begins : (xs rest : List ℕ) (k : ℕ) (s t : Term) → InRange s → InRange t → take k xs ≡ encode s → xs ≡ encode t ++ rest → s ≡ t
begins xs rest k s t p q e f = (prefix_free s t (drop k xs) rest p q (ap (λ (l : List ℕ). l ++ drop k xs) (sym e) ∙ take-append-drop k xs ∙ f)).0

-- ---- a Bind

-- the numbers of variables only fall
plain_lower : (c : ℕ) (t : Term) → Plain t → Plain (shift c (negsuc 0) t)
unfolding Plain shift
plain_lower c (atom a) p = p
plain_lower c (var n) p = go (ltb n c)
  where
    go : (b : Bool) → cond b n (n - 1) < payloads
    go true = p
    go false = omega arith
plain_lower c (sign n q) p = p
plain_lower c (node o a b) p = (plain_lower c a p.0, plain_lower (under (binds o) suc c) b p.1)

-- a type that is a node is no sort
-- B is a type that the raised principal p says
pub record SaidBy (p B : Term) : Type 0 where
  pub right : Term
  pub is : B ≡ Says (raise 1 p) right

record Saying (B : Term) : Type 0 where
  left : Term
  right : Term
  is : B ≡ Says left right

says_shape : (B : Term) → head B ≡ branch saysO → Saying B
says_shape (atom a) e = absurd (clash (cc))
says_shape (var n) e = absurd (clash (cc))
says_shape (sign n q) e = absurd (clash (cc))
says_shape (node o a b) e = let q : o ≡ saysO = cc in record { left = a; right = b; is = ap (λ (o : Op). node o a b) q }

says_first : (B : Term) → PlainType B → first_word B ≡ op_word saysO → Saying B
says_first B (inl p) e = says_shape B (sym (shape_first B p) ∙ ap word_shape e)
says_first B (inr (inl q)) e = let w : first_word KindP ≡ op_word saysO = ap first_word (sym q) ∙ e in absurd (omega arith)
says_first B (inr (inr q)) e = let w : first_word KindT ≡ op_word saysO = ap first_word (sym q) ∙ e in absurd (omega arith)

-- a type that begins with the word Says and the principal's words
said_by : (ws : List ℕ) (k : ℕ) (p B : Term) → TypeAt ws 0 B → Plain (raise 1 p) → take k ws ≡ op_word saysO ∷ encode (raise 1 p) → SaidBy p B
unfolding encode InRange
said_by ws k p B h r e =
    let w : ws ≡ op_word saysO ∷ (encode (raise 1 p) ++ drop k ws) = sym (take-append-drop k ws) ∙ ap (λ (l : List ℕ). l ++ drop k ws) e in
    let s = says_first B h.plain (sym (words_head ws 0 B h.rest h.words) ∙ ap (λ (l : List ℕ). get_or l 0 0) w) in
    let i : InRange (Says s.left s.right) = subst InRange s.is (in_range B h.plain) in
    let b : encode (Says s.left s.right) ++ h.rest ≡ op_word saysO ∷ (encode (raise 1 p) ++ drop k ws) = ap (λ (t : Term). encode t ++ h.rest)
    (sym s.is) ∙ sym h.words ∙ w in
    let l : s.left ≡ raise 1 p = (prefix_free s.left (raise 1 p) (encode s.right ++ h.rest) (drop k ws) i.0 (plain_in_range (raise 1 p) r)
    (sym (append_assoc (encode s.left) (encode s.right) h.rest) ∙ tail-eq_of_cons-eq b)).0 in
    record { right = s.right; is = s.is ∙ ap (λ (t : Term). Says t s.right) l }

said_words : (ws : List ℕ) (k : ℕ) (p B : Term) → TypeAt ws 0 B → k ≡ 1 + size p → SaidBy p B → take k ws ≡ op_word saysO ∷ encode (raise 1 p)
unfolding encode
said_words ws k p B h e s =
    let z : length (encode (raise 1 p)) ≡ size p = length_shift 0 (pos 1) p in
    let n : length (op_word saysO ∷ encode (raise 1 p)) ≡ k = omega arith in
    ap (take k) (h.words ∙ ap (λ (t : Term). encode t ++ h.rest) s.is
    ∙ ap (λ (l : List ℕ). op_word saysO ∷ l) (append_assoc (encode (raise 1 p)) (encode s.right) h.rest))
    ∙ take_at (op_word saysO ∷ encode (raise 1 p)) (encode s.right ++ h.rest) k n

bound_unsaid : (at : ℕ) (p B : Term) → (SaidBy p B → ⊥) → bind_type at p B ≡ refused condition_fails at
bound_unsaid at p (atom a) n = refl
bound_unsaid at p (var k) n = refl
bound_unsaid at p (sign k q) n = refl
bound_unsaid at p (node saysO x y) n = fail _ at _ (same_no (λ q. n (record { right = y; is = ap (λ (t : Term). Says t y) q })))
bound_unsaid at p (node piO x y) n = refl
bound_unsaid at p (node lamO x y) n = refl
bound_unsaid at p (node appO x y) n = refl
bound_unsaid at p (node retO x y) n = refl
bound_unsaid at p (node bindO x y) n = refl

bound_said : (at : ℕ) (p B : Term) (s : SaidBy p B) (o : Result Term)
    → (require (eqb (occurs 0 s.right) 0) variable_escapes at >> measured at (Says p (lower s.right))) ≡ o → bind_type at p B ≡ o
bound_said at p B s o e = ap (bind_type at p) s.is ∙ pass condition_fails at (same_yes refl) e

module _ {ws : List ℕ} {used m : ℕ} {p q B : Term} (at end : ℕ) (j : Binds ws used m p q B) where
  -- the words before the principal's in the entry
  total_is : get_or ws (length ws - used) 0 ≡ entry_head + (1 + size p + size q)
  total_is =
      ap (λ (k : ℕ). get_or ws k 0) (sym (add-zero (length ws - used))) ∙ sym (get_or-drop (length ws - used) ws 0 0) ∙ ap
      (λ (l : List ℕ). get_or l 0 0) j.kept

  kept_size : get_or ws (length ws - used + 2) 0 ≡ size q
  kept_size = sym (get_or-drop (length ws - used) ws 2 0) ∙ ap (λ (l : List ℕ). get_or l 2 0) j.kept

  pub said_is : get_or ws (length ws - used) 0 - entry_head - get_or ws (length ws - used + 2) 0 ≡ 1 + size p
  said_is = let t = total_is in let k = kept_size in omega arith

  kept_inside : length ws - used + entry_head + (1 + size p) ≤ length ws
  kept_inside =
      let a : length (drop (length ws - used) ws) ≡ length ws - (length ws - used) = length-drop (length ws - used) ws in
      let z : length (encode (raise 1 p)) ≡ size p = length_shift 0 (pos 1) p in
      let b = ap length j.kept in
      let d : length ((encode (raise 1 p) ++ encode q) ++ j.rest) ≡ length (encode (raise 1 p)) + length (encode q) + length j.rest = simp length-append in
      omega arith

  unsaid : {r : Answer Typed Refusal} → (SaidBy p B → ⊥) → told r ≡ refused condition_fails at → TypeFormed (bind_type at p B) end ws ws r
  unsaid n t = formed_refused _ condition_fails at end ws (bound_unsaid at p B n) t

  module _ {said : ℕ} (e : said ≡ 1 + size p) where
    said_size : (s : SaidBy p B) → m ≡ said + size s.right
    unfolding size
    said_size s =
        let z : size (raise 1 p) ≡ size p = size_shift 0 (pos 1) p in
        let b : size B ≡ suc (size (raise 1 p) + size s.right) = ap size s.is in
        let k = j.type_words in
        omega arith

    pub bind_short : {r : Answer Typed Refusal} → m ≤ said → told r ≡ refused condition_fails at → TypeFormed (bind_type at p B) end ws ws r
    bind_short l t = unsaid (λ s. let z = said_size s in let k = size_pos s.right in omega arith) t

    kept_part : take (length ws - used + entry_head + said - (length ws - used + entry_head)) (drop (length ws - used + entry_head) ws) ≡ op_word
        saysO ∷ encode
        (raise 1 p)
    kept_part =
        let h : ℕ = length ws - used in
        let i : length ws - used + entry_head + said - (length ws - used + entry_head) ≡ said = omega arith in
        let z : length (encode (raise 1 p)) ≡ size p = length_shift 0 (pos 1) p in
        let n : length (op_word saysO ∷ encode (raise 1 p)) ≡ said = omega arith in
        ap₂ take i (sym (drop-drop entry_head h ws) ∙ ap (drop entry_head) j.kept
        ∙ ap (λ (l : List ℕ). op_word saysO ∷ l) (append_assoc (encode (raise 1 p)) (encode q) j.rest))
        ∙ take_at (op_word saysO ∷ encode (raise 1 p)) (encode q ++ j.rest) said n

    pub bind_differs : {r : Answer Typed Refusal} (b : Bool) → b ≡ false
        → (take said ws ≡ take (length ws - used + entry_head + said - (length ws - used + entry_head))
        (drop (length ws - used + entry_head) ws) → b ≡ true) → told r ≡ refused condition_fails at
        → TypeFormed (bind_type at p B) end ws ws r
    bind_differs b z f t = unsaid (λ s. clash (cc (f (said_words ws said p B j.type e s ∙ sym kept_part)))) t

    module _ (agree : take said ws ≡ take (length ws - used + entry_head + said - (length ws - used + entry_head)) (drop (length ws - used + entry_head) ws))
      where
        saying : SaidBy p B
        saying = said_by ws said p B j.type j.principal (agree ∙ kept_part)

        pub said_at : At ws 0 B
        said_at = record { plain = node_plain saying.is j.type.plain; rest = j.type.rest; words = j.type.words }

        -- and a shift by 0 leaves it there
        pub said_still : {mid : List ℕ} {r : Shift} → ((t : Term) → At ws 0 t → Shifted t 1 (pos 0) ws 0 mid r) → At mid 0 B
        said_still f = subst (λ (v : List ℕ). At v 0 B) (sym (zero_shifted said_at (f B said_at))) said_at

        -- the principal, which was raised, does not use the binder
        said_uses : occurs 0 B ≡ occurs 0 saying.right
        unfolding occurs
        said_uses = let r = occurs_raise 0 p in ap (occurs 0) saying.is ∙ omega arith

        -- the body's type was shifted from 1 on by 0, and then from 0 on by minus 1
        module _ {mid new : List ℕ} {from_1 from_0 : Shift} (f : Shifted B 1 (pos 0) ws 0 mid from_1) (g : Shifted B 0 (negsuc 0) mid 0 new from_0)
            (l : m ≤ most_type_words) where
          -- a shift by 0 leaves the words as they are
          shifted_words : new ≡ written_at ws 0 (encode (shift 0 (negsuc 0) B))
          shifted_words = g.words ∙ ap (λ (v : List ℕ). written_at v 0 (encode (shift 0 (negsuc 0) B))) (zero_shifted said_at f)

          counts : from_0.free ≡ from_1.free + occurs 0 saying.right
          counts = let u = free_occurs 0 B in let s = said_uses in omega (arith, f.free_is, g.free_is)

          -- the counts differ: the variable escapes
          pub bind_used : {r : Answer Typed Refusal} → (from_0.free ≡ from_1.free → ⊥) → told r ≡ refused variable_escapes at
              → TypeFormed (bind_type at p B) end ws new r
          bind_used d t =
              let n : length (encode (shift 0 (negsuc 0) B)) ≡ size B = length_shift 0 (negsuc 0) B in
              let k = j.type_words in
              let used : occurs 0 saying.right ≡ 0 → ⊥ = λ e. let c = counts in d (omega arith) in
              formed_refusal _ variable_escapes at end ws new
              (bound_said at p B saying _ (fail _ at _ (ne_eqb (occurs 0 saying.right) 0 used))) t
              (written_kept ws new (encode (shift 0 (negsuc 0) B)) 0 front_words (omega arith) shifted_words (omega arith))

          -- they are the same: the type is lowered
          pub bind_unused : from_0.free ≡ from_1.free → TypeFormed (bind_type at p B) end ws new (Ok (record { words = from_0.words; end = end }))
          unfolding shift
          bind_unused d =
              let low : shift 0 (negsuc 0) B ≡ Says p (lower saying.right) = ap lower saying.is
              ∙ ap (λ (u : Term). Says u (lower saying.right)) (lower_raise 0 p) in
              let z : size (Says p (lower saying.right)) ≡ size B = sym (ap size low) ∙ size_shift 0 (negsuc 0) B in
              let n = j.type_words in
              let small : size (Says p (lower saying.right)) ≤ most_type_words = omega arith in
              let unused : occurs 0 saying.right ≡ 0 = let c = counts in omega arith in
              writes _ (Says p (lower saying.right)) from_0.words end ws ws new
              (bound_said at p B saying _ (pass variable_escapes at (eq-eqb (occurs 0 saying.right) 0 unused) (measured_fits at _ small)))
              (g.words_are ∙ sym z) small (inl (subst Plain low (plain_lower 0 B said_at.plain))) refl
              (shifted_words ∙ ap (λ (u : Term). written_at ws 0 (encode u)) low)

-- the numbers of the entry of a Bind
pub record Sizes (ws : List ℕ) (used p q : ℕ) : Type 0 where
  pub total : get_or ws (length ws - used) 0 ≡ entry_head + (1 + p + q)
  pub kept : get_or ws (length ws - used + 2) 0 ≡ q
  pub small : 1 + p + q ≤ most_type_words
  pub inside : length ws - used + entry_head + (1 + p) ≤ length ws
  pub some : 1 ≤ p
  pub room : used + front_words ≤ length ws

pub sizes : {ws : List ℕ} {used m : ℕ} (b : Bindable ws used m) → Sizes ws used (size b.p) (size b.q)
sizes {ws} {used} {m} b = record {
  total = total_is 0 0 b.binds;
  kept = kept_size 0 0 b.binds;
  small = b.small_kept;
  inside = kept_inside 0 0 b.binds;
  some = size_pos b.p;
  room = b.room;
}

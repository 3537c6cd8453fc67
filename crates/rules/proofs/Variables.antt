-- A variable's type, from its binder's entry.
use Prim.Native.Nat.{ℕ, zero, suc, ◌+◌, ◌-◌, ◌^◌, ◌≤◌, ◌<◌}
use native.Mathlib.Omega.{arith}
use mathlib.Core.Path.{◌≡◌, refl, sym, ap, subst, ◌∙◌}
use mathlib.Core.Bool.{Bool, true, false, cond}
use mathlib.Core.List.{List, [], ◌∷◌, ◌++◌, append_assoc}
use mathlib.Core.Option.{Option, some, none}
use lib.ListN.{length, take, drop, get_or, get_elem?, take-append-drop}
use lib.Seq.{drop-drop}
use lib.Dec.{ltb}
use lib.IntN.{ℤ, pos, ◌+ℤ◌, nat_abs}
use mir.Syntax.{w32}
use mir.Val.{SFits, to_z, of_z}
use mir.Facts.{to_z-of_z, to_z_pos}
use Rattle.logic.specs.Limits.{payloads, most_words, most_type_words}
use Rattle.logic.specs.Refusals.{unbound_variable, type_too_long}
use Rattle.logic.specs.Result.{Result, ok, refused, ◌>>=◌, known}
use Rattle.logic.specs.Term.{Term, encode, size}
use Rattle.logic.specs.Move.{shift, raise}
use Rattle.logic.specs.Reading.{PlainType}
use Rattle.logic.specs.Infer.{measured}
use Rattle.words.specs.Place.{At, Is, written_at}
use Rattle.words.specs.Lookup.{part_of}
use Rattle.moves.specs.Shift.{Shifted}
use Rattle.moves.specs.declared.shift.Shift.{Shift}
use Rattle.words.proofs.Lists.{written_front}
use Rattle.words.proofs.Places.{part_is, at_end}
use Rattle.moves.proofs.Shifts.{size_shift, length_shift}
use Rattle.rules.specs.Rule.{variable_type}
use Rattle.rules.specs.Scope.{tail, scope_words, entry_head}
use Rattle.rules.specs.Form.{front_words, TypeFormed}
use Rattle.rules.specs.Variable.{BinderFound, Raises, Raisable}
use Rattle.std.specs.Prelude.{Ok}
use Rattle.std.specs.Prelude.{Result as Answer}
use Rattle.logic.specs.Answer.{answer as told}
use Rattle.logic.specs.declared.refusal.Refusal.{Refusal}
use Rattle.rules.specs.declared.typed.Typed.{Typed}
use Rattle.rules.proofs.Fronts.{measured_fits, measured_long, formed_refused, writes}
use Rattle.words.proofs.Lists.{drop_take}
use Rattle.rules.proofs.Scopes.{scope_length, entry_at, no_binders}

first_of_rest : (Γ : List Term) (n : ℕ) → get_elem? (drop n Γ) 0 ≡ get_elem? Γ n
first_of_rest [] zero = refl
first_of_rest [] (suc n) = refl
first_of_rest (A ∷ Γ) zero = refl
first_of_rest (A ∷ Γ) (suc n) = first_of_rest Γ n

pub cond_length : (b : Bool) (x y : List ℕ) → length (cond b x y) ≤ length x + length y
cond_length true x y = omega arith
cond_length false x y = omega arith

-- a term that stands in a part of a list stands in the list
at_inside : (ws : List ℕ) (m k i : ℕ) (t : Term) → At (take k (drop m ws)) i t → At ws (m + i) t
at_inside ws m k i t h = record {
  plain = h.plain;
  rest = h.rest ++ drop (k - i) (drop i (drop m ws));
  words = sym (drop-drop i m ws)
      ∙ sym (take-append-drop (k - i) (drop i (drop m ws)))
      ∙ ap (λ (x : List ℕ). x ++ drop (k - i) (drop i (drop m ws))) (sym (drop_take i k (drop m ws)) ∙ h.words)
      ∙ append_assoc (encode t) h.rest (drop (k - i) (drop i (drop m ws)));
}

-- ---- the entry of variable n's binder

pub record Entry (proof ws : List ℕ) (kept n : ℕ) (Γ : List Term) : Type 0 where
  pub type : Term
  pub known : get_elem? Γ n ≡ some type
  pub type_words : get_or ws (length ws - kept + 2) 0 ≡ size type
  pub fits : kept ≤ length ws
  pub head : entry_head ≤ get_or ws (length ws - kept) 0
  pub inside : get_or ws (length ws - kept) 0 ≤ kept
  pub within : ltb entry_head (get_or ws (length ws - kept) 0) ≡ true → get_or ws (length ws - kept + 2) 0 ≤ get_or ws (length ws - kept) 0
  pub here : At (cond (ltb entry_head (get_or ws (length ws - kept) 0)) ws proof)
      (cond (ltb entry_head (get_or ws (length ws - kept) 0)) (length ws - kept + (get_or ws (length ws - kept) 0 - get_or ws (length ws - kept + 2) 0))
      (get_or ws (length ws - kept + 1) 0)) type

-- where the words of the scope stand
in_scope : (b : Bool) (proof ws : List ℕ) (floor kept i start : ℕ) (A : Term) → At (cond b (scope_words floor kept ws) proof) (cond b i start) A
    → At (cond b ws proof) (cond b (length ws - kept + i) start) A
in_scope true proof ws floor kept i start A h = at_inside ws (length ws - kept) (kept - floor) i A h
in_scope false proof ws floor kept i start A h = h

pub entry_of : {proof ws : List ℕ} {floor used n kept : ℕ} {Γ : List Term} → used ≤ length ws → floor < kept → BinderFound proof ws floor used n Γ kept
    → Entry proof ws kept n Γ
entry_of {proof} {ws} {floor} {used} {n} {kept} {Γ} l q f =
    let least : floor ≤ kept = f.least in
    let most : kept ≤ used = f.most in
    let b : kept ≤ length ws = omega arith in
    let e = entry_at proof ws floor kept (drop n Γ) q b f.binders in
    let i : get_or ws (length ws - kept) 0 ≤ length (scope_words floor kept ws) = e.inside in
    let s : length (scope_words floor kept ws) ≡ kept - floor = scope_length floor kept ws b in
    record {
      type = e.type;
      known = sym (first_of_rest Γ n) ∙ e.known;
      type_words = e.type_words;
      fits = b;
      head = e.head;
      inside = omega arith;
      within = e.within;
      here = in_scope (ltb entry_head (get_or ws (length ws - kept) 0)) proof ws floor kept _ _ e.type e.here;
    }

-- the workspace has room
pub entry_here : {proof ws : List ℕ} {floor used n kept : ℕ} {Γ : List Term} → used + front_words ≤ length ws
    → (floor < kept) × BinderFound proof ws floor used n Γ kept → Entry proof ws kept n Γ
entry_here l f = entry_of (omega arith) f.0 f.1

-- where the type's words stand
abbrev pub FromIs : List ℕ → (kept from : ℕ) → Type 0
FromIs ws kept from =
    from ≡ cond (ltb entry_head (get_or ws (length ws - kept) 0)) (length ws - kept + (get_or ws (length ws - kept) 0 - get_or ws (length ws - kept + 2) 0))
    (get_or ws (length ws - kept + 1) 0)

pub from_workspace : (ws : List ℕ) (kept : ℕ) {from : ℕ} → ltb entry_head (get_or ws (length ws - kept) 0) ≡ true
    → from ≡ length ws - kept + (get_or ws (length ws - kept) 0 - get_or ws (length ws - kept + 2) 0) → FromIs ws kept from
from_workspace ws kept e q = q ∙ ap (λ (b : Bool). cond b (length ws - kept + (get_or ws (length ws - kept) 0 - get_or ws (length ws - kept + 2) 0))
    (get_or ws (length ws - kept + 1) 0)) (sym e)

pub from_proof : (ws : List ℕ) (kept : ℕ) {from : ℕ} → ltb entry_head (get_or ws (length ws - kept) 0) ≡ false → from ≡ get_or ws (length ws - kept + 1) 0
    → FromIs ws kept from
from_proof ws kept e q = q ∙ ap (λ (b : Bool). cond b (length ws - kept + (get_or ws (length ws - kept) 0 - get_or ws (length ws - kept + 2) 0))
    (get_or ws (length ws - kept + 1) 0)) (sym e)

-- ---- what the code answers

pub variable_unbound : {proof ws : List ℕ} {floor used n : ℕ} {Γ : List Term} {r : Answer Typed Refusal} (at : ℕ)
    → BinderFound proof ws floor used n Γ floor → told r ≡ refused unbound_variable at → TypeFormed (variable_type Γ at n) (at + 1) ws ws r
variable_unbound {proof} {ws} {floor} {used} {n} {Γ} at f t =
    let z : floor - floor ≡ 0 = omega arith in
    let o : drop n Γ ≡ [] = no_binders proof (scope_words floor floor ws) (drop n Γ) (ap (λ (i : ℕ). take i (tail floor ws)) z) f.binders in
    let m : get_elem? Γ n ≡ none = sym (first_of_rest Γ n) ∙ ap (λ (Δ : List Term). get_elem? Δ 0) o in
    formed_refused (variable_type Γ at n) unbound_variable at (at + 1) ws
    (ap (λ (o : Option Term). known unbound_variable at o >>= λ A. measured at (raise (suc n) A)) m) t

module _ {proof ws : List ℕ} {kept n : ℕ} {Γ : List Term} (at : ℕ) (e : Entry proof ws kept n Γ) where
  variable_is : variable_type Γ at n ≡ measured at (raise (suc n) e.type)
  variable_is = ap (λ (o : Option Term). known unbound_variable at o >>= λ A. measured at (raise (suc n) A)) e.known

  raised_words : size (raise (suc n) e.type) ≡ get_or ws (length ws - kept + 2) 0
  raised_words = size_shift 0 (pos (suc n)) e.type ∙ sym e.type_words

  pub variable_long : {r : Answer Typed Refusal} → most_type_words < get_or ws (length ws - kept + 2) 0 → told r ≡ refused type_too_long at
      → TypeFormed (variable_type Γ at n) (at + 1) ws ws r
  variable_long l t =
      let r : size (raise (suc n) e.type) ≡ get_or ws (length ws - kept + 2) 0 = raised_words in
      formed_refused (variable_type Γ at n) type_too_long at (at + 1) ws (variable_is ∙ measured_long at (raise (suc n) e.type) (omega arith)) t

  -- what is looked up is the type's words
  pub looked_up : {from : ℕ} {part : List ℕ} → FromIs ws kept from
      → part ≡ part_of proof ws (ltb entry_head (get_or ws (length ws - kept) 0)) from (from + get_or ws (length ws - kept + 2) 0) → Is part e.type
  looked_up {from} {part} f p =
      let b : Bool = ltb entry_head (get_or ws (length ws - kept) 0) in
      let h : At (cond b ws proof) from e.type = subst (λ (i : ℕ). At (cond b ws proof) i e.type) (sym f) e.here in
      subst (λ (x : List ℕ). Is x e.type) (sym p) (record
      { plain = h.plain; words = part_is (from + get_or ws (length ws - kept + 2) 0) h (ap (λ (k : ℕ). from + k) e.type_words) })

  -- it may be raised
  pub raisable : {from room : ℕ} (used : ℕ) → FromIs ws kept from → used + front_words ≤ length ws → get_or ws (length ws - kept + 2) 0 ≤ most_type_words
      → get_or ws (length ws - kept + 2) 0 ≤ room → n < payloads → at < most_words
      → Raisable proof ws (ltb entry_head (get_or ws (length ws - kept) 0)) from (get_or ws (length ws - kept + 2) 0) n at room
  raisable {from} used f w s r m q =
      let b : Bool = ltb entry_head (get_or ws (length ws - kept) 0) in
      let h : At (cond b ws proof) from e.type = subst (λ (i : ℕ). At (cond b ws proof) i e.type) (sym f) e.here in
      record {
        type = e.type;
        part = looked_up f refl;
        inside = (omega arith, omega (arith, at_end h, e.type_words));
        type_words = e.type_words;
        small = s;
        fits = r;
        number = m;
        place = q;
        front = omega arith;
      }

  pub variable_found : {part new : List ℕ} {r : Answer Typed Refusal} → get_or ws (length ws - kept + 2) 0 ≤ most_type_words → Is part e.type
      → ((A : Term) → Is part A → PlainType (raise (suc n) A) → TypeFormed (ok (raise (suc n) A)) (at + 1) ws new r) → Raises Γ n
      → TypeFormed (variable_type Γ at n) (at + 1) ws new r
  variable_found {part} {new} {r} l i f h =
      let A : Term = e.type in
      let s : size (raise (suc n) e.type) ≡ get_or ws (length ws - kept + 2) 0 = raised_words in
      let t : get_or ws (length ws - kept + 2) 0 ≡ size A = e.type_words in
      subst (λ (o : Result Term). TypeFormed o (at + 1) ws new r) (sym (variable_is ∙ measured_fits at (raise (suc n) A) (omega arith)))
      (f A i (h A e.known (omega arith)))

-- the raised type's words were written at the front
pub raised_front : {z : ℤ} {ws part zeros raised new : List ℕ} {n : ℕ} {w : Shift} (at : ℕ) (A : Term) → size A ≤ most_type_words
    → z ≡ pos (suc n) → Is part A → ((t : Term) → Is part t → Shifted t 0 z zeros 0 raised w)
    → new ≡ written_at ws 0 (take w.words raised) → PlainType (raise (suc n) A)
    → TypeFormed (ok (raise (suc n) A)) (at + 1) ws new (Ok (record { words = w.words; end = at + 1 }))
raised_front {z} {ws} {part} {zeros} {raised} {new} {n} {w} at A l y i f c h =
    let s = f A i in
    let r : size (raise (suc n) A) ≡ size A = size_shift 0 (pos (suc n)) A in
    writes (ok (raise (suc n) A)) (raise (suc n) A) w.words (at + 1) ws ws new refl (s.words_are ∙ sym r) (omega arith) h refl
    (c ∙ ap (written_at ws 0) (written_front zeros raised (encode (shift 0 z A)) w.words s.words (s.words_are ∙ sym (length_shift 0 z A))
    ∙ ap (λ (v : ℤ). encode (shift 0 v A)) y))

-- ---- the machine's sum of a variable's number and a small amount

module _ (n k : ℕ) (h : n < payloads) (l : k ≤ 1) where
  sum_fits : SFits w32 (pos (n + k))
  sum_fits = record { sfits = omega arith }

  number : to_z w32 n ≡ pos n
  number = let a : n < 2 ^ 31 = omega arith in to_z_pos w32 a

  pub amount_fits : SFits w32 (to_z w32 n +ℤ pos k)
  amount_fits = rw number sum_fits

  pub amount_is : to_z w32 (of_z w32 (to_z w32 n +ℤ pos k)) ≡ pos (n + k)
  amount_is = rw number (to_z-of_z sum_fits)

  pub amount_near : nat_abs (to_z w32 (of_z w32 (to_z w32 n +ℤ pos k))) ≤ payloads
  amount_near = rw amount_is (omega arith)

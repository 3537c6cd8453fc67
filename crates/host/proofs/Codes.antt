-- Numbers and places as one number: they fit, and the number is the definition's.
use Prim.Native.Nat.{ℕ, ◌+◌, ◌*◌, ◌≤◌, ◌<◌}
use native.Mathlib.Omega.{arith}
use mathlib.Core.Path.{◌≡◌, refl, sym, ap, ap₂, subst, ◌∙◌}
use mathlib.Core.Logic.{inl, inr}
use mathlib.Core.List.{List}
use lib.ListN.{length, take}
use lib.Seq.{length-take-le, take_at}
use Rattle.logic.specs.Refusals.{last_refusal}
use Rattle.logic.specs.Result.{Result, ok, refused, ◌>>=◌, number_of, place_of, without_value}
use Rattle.std.specs.Prelude.{Ok, Err, IfErr}
use Rattle.std.specs.Prelude.{Result as Answer}
use Rattle.logic.specs.Answer.{answer, reason_number}
use Rattle.logic.specs.declared.refusal.Refusal.{Refusal}
use Rattle.rules.specs.declared.typed.Typed.{Typed}
use Rattle.logic.specs.Term.{Term, encode, size}
use Rattle.logic.proofs.Words.{encode_size}
use Rattle.logic.proofs.Results.{ok_inj, bound}
use Rattle.logic.proofs.Stopped.{not_refused, number_is, place_is, not_mapped, stop}
use Rattle.typing.specs.Check.{Judged}
use Rattle.register.specs.Records.{Statement, Ask}
use Rattle.register.specs.Calls.{Lent, open_call, say_call, request_call, check_call, type_of}
use Rattle.register.specs.Batch.{most_items, all_granted, refused_at, batch_call}
use Rattle.register.specs.Marks.{mark_call, return_call}
use Rattle.register.proofs.Bounds.{Number, MarkNumber, ReturnNumber, open_bound, say_bound, request_bound, check_bound, mark_bound, return_bound, batch_bound}
use Rattle.shared_tests.proofs.OwnTests.{TypeFound, type_found, type_refused, words_within}
use Rattle.say.specs.Said.{adds, said_answer, SaysAs}
use Rattle.say.specs.declared.Said.{Said}
use Rattle.batch.specs.Answers.{BatchedAs}
use Rattle.batch_tests.specs.Answers.{batched_answer}
use Rattle.batch_tests.specs.declared.ItemRefusal.{ItemRefusal}
use Rattle.editions.specs.Convert.{converted}
use Rattle.named.specs.Answers.{ConvertedAs}
use Rattle.editions.specs.declared.Edition.{Edition}
use Rattle.editions.proofs.Refuses.{converted_bound}
use Rattle.uses.specs.Uses.{uses_call}
use Rattle.uses.proofs.Demands.{uses_bound}
use Rattle.extract.specs.Extract.{extract_call}
use Rattle.extract.proofs.Demands.{extract_bound}
use Rattle.reduction.specs.Simplify.{Simplified}
use Rattle.reduction.specs.Call.{result_words, simplify_call}
use Rattle.reduction.proofs.Refuses.{simplify_bound}
use Rattle.simplify.specs.Answers.{SimplifiedAs}
use Rattle.simplify.specs.declared.reduce.Simplified.{Simplified as Counts}
use Rattle.host.specs.Answers.{number_unit, place_limit, code_of, Fits, Tellable, added_of, SaidTo, batch_code_of, index_of, BatchedTo}
use Rattle.host.specs.Answers.{written_of, ConvertedTo, count_of, steps_of, SimplifiedTo, TypedTo}

-- the code of what was handed back
pub handed_code : {X : Type 0} (o : Result X) {m p : ℕ} → m ≡ number_of o → p ≡ place_of o → m * number_unit + p ≡ code_of o
handed_code (ok x) e f = omega arith
handed_code (refused m p) e f = rw (e, f) refl

-- its refusals have document 01's numbers, and places up to the bound
abbrev pub Bounded : {X : Type 0} → ℕ → Result X → Type 0
Bounded bound o = (m p : ℕ) → o ≡ refused m p → Number m × (p ≤ bound)

pub handed_fits : {X : Type 0} (o : Result X) (bound : ℕ) {m p : ℕ} → Bounded bound o → bound < place_limit → m ≡ number_of o → p ≡ place_of o → Fits m p
handed_fits (ok x) bound f h e g = omega arith
handed_fits (refused m p) bound f h e g = let (n, l) = f m p refl in omega arith

pub refused_code : {X : Type 0} (o : Result X) (m p code : ℕ) → o ≡ refused m p → code ≡ m * number_unit + p → code ≡ code_of o
refused_code o m p code e c = c ∙ sym (ap code_of e)

-- the code of a refusal, and where a value is mapped
pub code_mapped : {X Y : Type 0} (f : X → Y) (o : Result X) → code_of (o >>= λ x. ok (f x)) ≡ code_of o
code_mapped f (ok x) = refl
code_mapped f (refused m p) = refl

pub mapped_fits : {X Y : Type 0} (f : X → Y) (o : Result X) (r : Result Y) → r ≡ (o >>= λ x. ok (f x)) → Tellable o → Tellable r
mapped_fits f o r e t m p q = t m p (not_mapped f o (sym e ∙ q))

-- ---- calls whose answer has no value

pub told_fits : {X : Type 0} (o : Result X) (r : Result (Unit {0})) → r ≡ without_value o → Tellable o → Tellable r
told_fits (ok x) r v f m p e = absurd (not_refused (sym v ∙ e))
told_fits (refused a b) r v f m p e = let q = sym v ∙ e in f m p (ap₂ refused (number_is q) (place_is q))

pub told_code : {X : Type 0} (o : Result X) (r : Result (Unit {0})) → r ≡ without_value o → code_of r ≡ code_of o
told_code (ok x) r v = ap code_of v
told_code (refused a b) r v = ap code_of v

pub open_fits : (l : Lent) (reg : List ℕ) (mode : ℕ) (rules : List ℕ) (m p : ℕ) → length l.sig + length rules < place_limit →
    open_call l reg mode rules ≡ refused m p → Fits m p
open_fits l reg mode rules m p h e = let (n, q) = open_bound l reg mode rules e in omega arith

-- the numbers of a mark call
return_number : {m : ℕ} → ReturnNumber m → m ≤ last_refusal
return_number (inl e) = omega (arith, e)
return_number (inr (inl e)) = omega (arith, e)
return_number (inr (inr e)) = omega (arith, e)

mark_number : {m : ℕ} → MarkNumber m → m ≤ last_refusal
mark_number (inl e) = omega (arith, e)
mark_number (inr k) = return_number k

pub mark_fits : (reg list : List ℕ) (n m p : ℕ) → mark_call reg list n ≡ refused m p → Fits m p
mark_fits reg list n m p e = let (k, q) = mark_bound reg list n e in (mark_number k, omega (arith, q))

pub return_fits : (reg list : List ℕ) (n m p : ℕ) → return_call reg list n ≡ refused m p → Fits m p
return_fits reg list n m p e = let (k, q) = return_bound reg list n e in (return_number k, omega (arith, q))

pub request_fits : (l : Lent) (reg : List ℕ) (k : Ask) (m p : ℕ) → length l.sig + length k.proof < place_limit →
    request_call l reg k ≡ refused m p → Fits m p
request_fits l reg k m p h e = let (n, q) = request_bound l reg k e in omega arith

-- ---- batch

module _ (l : Lent) (old : List ℕ) (day : ℕ) (items new : List ℕ) (r : Answer (Unit {0}) ItemRefusal) (B : BatchedAs l old day items new r) where
  pub batched_all : r ≡ Ok tt → BatchedTo l old day items new 0 0
  batched_all f =
      let e : all_granted ≡ batch_call l old day items = sym (ap batched_answer f) ∙ B.answer in
      record { answer = ap batch_code_of e; register = B.register; index_is = ap index_of e }

  module _ (b : ItemRefusal) (f : r ≡ Err b) where
    unbatched_is : batch_call l old day items ≡ refused_at b.index (reason_number b.refusal.reason) b.refusal.place
    unbatched_is = sym B.answer ∙ ap batched_answer f

    pub batch_fits : length l.sig + length items < place_limit → (b.index < most_items) × Fits (reason_number b.refusal.reason) b.refusal.place
    batch_fits h = let (a, n, b) = batch_bound l old day items unbatched_is in (a, omega arith)

    pub batched_none : (code : ℕ) → code ≡ reason_number b.refusal.reason * number_unit + b.refusal.place → BatchedTo l old day items new b.index code
    batched_none code c =
        record { answer = c ∙ sym (ap batch_code_of unbatched_is); register = B.register; index_is = sym (ap index_of unbatched_is) }

-- ---- extract

pub extract_fits : (l : Lent) (reg : List ℕ) (k : Ask) (homes surveys : List ℕ) (room m p : ℕ) → length l.sig + length k.proof < place_limit →
    extract_call l reg k homes surveys room ≡ refused m p → Fits m p
extract_fits l reg k homes surveys room m p h e = let (n, q) = extract_bound l reg k homes surveys room e in omega arith

-- ---- the converters

written_mapped : (o : Result (List ℕ)) → count_of (o >>= λ xs. ok (length xs)) ≡ written_of o
written_mapped (ok xs) = refl
written_mapped (refused m p) = refl

pub converted_to : (o : Result (List ℕ)) (old new : List ℕ) (r : Result ℕ) (written code : ℕ) → ConvertedAs o old new r
    → code ≡ code_of r → written ≡ count_of r
    → ConvertedTo o old new written code
converted_to o old new r written code C c w = record {
  answer = c ∙ ap code_of C.answer ∙ code_mapped length o;
  output = C.output;
  written_is = w ∙ ap count_of C.answer ∙ written_mapped o;
}

pub convert_fits : (e : Edition) (ws : List ℕ) (room m p : ℕ) → length ws < place_limit → converted e ws room ≡ refused m p → Fits m p
convert_fits e ws room m p h r = let (a, b, l) = converted_bound e ws room m p r in omega arith

-- ---- uses

pub uses_fits : (k : ℕ) (ws : List ℕ) (m p : ℕ) → length ws < place_limit → uses_call k ws ≡ refused m p → Fits m p
uses_fits k ws m p h r = let (a, b, l) = uses_bound k ws m p r in omega arith

-- ---- simplify

module _ (o : Result Simplified) (old new : List ℕ) (r : Result Counts) (S : SimplifiedAs o old new r) where
  pub simplified_to : (t : Counts) → r ≡ ok t → SimplifiedTo o old new t.steps t.words 0
  simplified_to t q = bound o _ (sym S.answer ∙ q) λ s e f.
      let g = ok_inj f in
      record {
        answer = ap code_of (sym e);
        output = S.output;
        steps_are = sym (ap steps_of e ∙ ap (λ (x : Counts). x.steps) g);
        written_is = sym (ap (λ x. written_of (result_words x)) e ∙ encode_size s.result ∙ ap (λ (x : Counts). x.words) g);
      }

  pub unsimplified_is : {m p : ℕ} → r ≡ refused m p → o ≡ refused m p
  unsimplified_is q = not_mapped _ o (sym S.answer ∙ q)

  pub not_simplified : {m p : ℕ} → r ≡ refused m p → (code : ℕ) → code ≡ m * number_unit + p → SimplifiedTo o old new 0 0 code
  not_simplified {m} {p} q code c =
      let e = unsimplified_is q in
      record {
        answer = refused_code o m p code e c;
        output = S.output;
        steps_are = sym (ap steps_of e);
        written_is = sym (ap (λ x. written_of (result_words x)) e);
      }

pub simplify_fits : (l : Lent) (reg : List ℕ) (day : ℕ) (ws : List ℕ) (budget room m p : ℕ) → length l.sig + length ws < place_limit →
    simplify_call l reg day ws budget room ≡ refused m p → Fits m p
simplify_fits l reg day ws budget room m p h e =
    let (n, q) = simplify_bound l reg day ws budget room e in elim q [ inl k ↦ omega arith | inr (k, i) ↦ omega arith ]

-- ---- say

module _ (l : Lent) (old : List ℕ) (day : ℕ) (st : Statement) (new : List ℕ) (r : Answer Said Refusal) (S : SaysAs l old day st new r) where
  pub said_to : (s : Said) (code added : ℕ) → r ≡ Ok s → code ≡ 0 → added ≡ added_of (ok (adds s)) → SaidTo l old day st new added code
  said_to s code added f c a =
      let e : ok (adds s) ≡ say_call l old day st = sym (ap said_answer f) ∙ S.answer in
      record { answer = c ∙ ap code_of e; register = S.register; added_is = a ∙ ap added_of e }

  pub unsaid_is : {m p : ℕ} → answer r ≡ refused m p → say_call l old day st ≡ refused m p
  unsaid_is f = sym S.answer ∙ stop _ f

  pub said_nothing : {m p : ℕ} → answer r ≡ refused m p → (code : ℕ) → code ≡ m * number_unit + p → SaidTo l old day st new 0 code
  said_nothing {m} {p} f code c =
      let e = unsaid_is f in
      record { answer = refused_code (say_call l old day st) m p code e c; register = S.register; added_is = sym (ap added_of e) }

pub say_fits : (l : Lent) (reg : List ℕ) (day : ℕ) (st : Statement) (m p : ℕ) → length l.sig + length st.words < place_limit →
    say_call l reg day st ≡ refused m p → Fits m p
say_fits l reg day st m p h e = let (n, b) = say_bound l reg day st e in omega arith

-- ---- check

pub check_fits : (l : Lent) (reg : List ℕ) (day : ℕ) (term : List ℕ) {m p : ℕ} → length l.sig + length term < place_limit
    → check_call l reg day term ≡ refused m p → Fits m p
check_fits l reg day term h e = let (n, b) = check_bound l reg day term e in omega arith

-- the refusal that a call tells
pub refusal_of : {X : Type 0} (P : Refusal → Type 0) {r : Answer X Refusal} {e : Refusal} → r ≡ Err e → IfErr r P → P e
refusal_of {X} P q h = subst (λ (r : Answer X Refusal). IfErr r P) q h

-- a check that leaves the type in the workspace
module _ (o : Result Term) (end : ℕ) (new : List ℕ) (r : Answer Typed Refusal) (J : Judged o end new r) where
  pub typed_to : (t : Typed) → answer r ≡ ok t → TypedTo o new t.words 0
  typed_to t q =
      let T = type_found o end new r t J q in
      let w = type_words T in
      record {
        answer = ap code_of (sym T.is);
        words_are = sym (length-take-le t.words new (words_within o end new r J t q)) ∙ ap length w;
        type = w;
      }
    where
      type_words : (T : TypeFound o new t.words) → take t.words new ≡ type_of o
      type_words T =
          ap₂ (λ (i : ℕ) (x : List ℕ). take i x) T.words_are T.front.words ∙ take_at (encode T.type) T.front.rest (size T.type) (encode_size T.type)
          ∙ ap type_of (sym T.is)

  pub refused_to : {m p : ℕ} → answer r ≡ refused m p → (code : ℕ) → code ≡ m * number_unit + p → TypedTo o new 0 code
  refused_to {m} {p} q code c =
      let e = type_refused o end new r J q in
      record { answer = refused_code o m p code e c; words_are = sym (ap (λ x. length (type_of x)) e); type = sym (ap type_of e) }

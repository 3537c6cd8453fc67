-- The type at the front of the workspace: what stands there, what is written there, and what a rule answers.
use Prim.Native.Nat.{ℕ, ◌+◌, ◌-◌, ◌≤◌, ◌<◌}
use native.Mathlib.Omega.{arith}
use mathlib.Core.Path.{◌≡◌, refl, sym, ap, subst, ◌∙◌}
use mathlib.Core.Bool.{Bool, true, not}
use mathlib.Core.List.{List, ◌++◌, append_assoc}
use lib.Dec.{eqb}
use lib.ListN.{length, take, drop, get_or}
use lib.Seq.{drop-drop, take_at, drop_at, length-take-le}
use borrow.Author.Tests.{not-true, eqb-true, eq-eqb, le-leb, lt-leb}
use Rattle.logic.specs.Limits.{most_type_words}
use Rattle.logic.specs.Refusals.{type_too_long}
use Rattle.logic.specs.Result.{Result, ok, refused}
use Rattle.logic.specs.Term.{Atom, Term, atom, atom_word, encode, size, first_word}
use Rattle.logic.specs.Reading.{PlainType, InRangeAtom}
use Rattle.logic.specs.Infer.{same, measured}
use Rattle.logic.proofs.Basics.{clash}
use Rattle.logic.proofs.Proposition.{same_true, same_yes}
use Rattle.logic.proofs.Results.{ok_inj, bound}
use Rattle.logic.proofs.Stopped.{not_mapped}
use Rattle.logic.proofs.Words.{first_atom, encode_size}
use Rattle.words.specs.Place.{written_at}
use Rattle.words.specs.Typed.{TypeAt}
use Rattle.words.proofs.Lists.{length_head}
use Rattle.words.proofs.Places.{words_head}
use Rattle.words.proofs.Sames.{same_test}
use Rattle.words.proofs.Types.{in_range}
use Rattle.rules.specs.Form.{type_and_end, front_words, TypeFormed}
use Rattle.std.specs.Prelude.{Ok}
use Rattle.std.specs.Prelude.{Result as Answer}
use Rattle.logic.specs.Answer.{answer as told}
use Rattle.logic.specs.declared.refusal.Refusal.{Refusal}
use Rattle.rules.specs.declared.typed.Typed.{Typed}

-- ---- a type that is an atom

-- whether a type is an atom is told by its first word
pub atom_first : (A : Term) (w : ℕ) → PlainType A → w ≡ first_word A → (a : Atom) → InRangeAtom a → eqb w (atom_word a) ≡ same A (atom a)
atom_first A w p e a r =
    same_test _ _ (λ t. same_yes (first_atom A a (in_range A p) r (sym e ∙ eqb-true _ _ t))) (λ t. eq-eqb _ _ (e ∙ ap first_word (same_true A (atom a) t)))

-- a test that was denied does not pass
pub denied : (b : Bool) → not b ≡ true → b ≡ true → ⊥
denied b e p = clash (cc (not-true b e))

pub front_word : (ws : List ℕ) (w : ℕ) (A : Term) (a : Atom) → TypeAt ws 0 A → w ≡ atom_word a → InRangeAtom a → eqb (get_or ws 0 0) w ≡ same A (atom a)
front_word ws w A a h e r = ap (eqb (get_or ws 0 0)) e ∙ atom_first A _ h.plain (words_head ws 0 A h.rest h.words) a r

-- ---- what stands there, and what is written

pub type_part : {ws : List ℕ} {at : ℕ} {A : Term} → TypeAt ws at A → take (size A) (drop at ws) ≡ encode A
type_part {A} h = ap (take (size A)) h.words ∙ take_at (encode A) h.rest (size A) (encode_size A)

-- what stands behind the words written is as it was
pub written_kept : (old new xs : List ℕ) (to k : ℕ) → to ≤ length old → new ≡ written_at old to xs → to + length xs ≤ k → drop k new ≡ drop k old
written_kept old new xs to k l e h =
    let n : ℕ = to + length xs in
    let q : k ≡ to + length xs + (k - (to + length xs)) = omega arith in
    ap (λ (i : ℕ). drop i new) q
    ∙ sym (drop-drop (k - n) n new)
    ∙ ap (drop (k - n)) (ap (drop n) e ∙ drop_at (take to old ++ xs) (drop n old) n (length_head old to xs l))
    ∙ drop-drop (k - n) n old
    ∙ ap (λ (i : ℕ). drop i old) (sym q)

-- the words written stand there
pub written_there : (old new xs : List ℕ) (to n : ℕ) → to ≤ length old → new ≡ written_at old to xs → n ≡ length xs → take n (drop to new) ≡ xs
written_there old new xs to n l e q =
    let r : List ℕ = drop (to + length xs) old in
    ap (λ (x : List ℕ). take n (drop to x)) (e ∙ append_assoc (take to old) xs r)
    ∙ ap (take n) (drop_at (take to old) (xs ++ r) to (length-take-le to old l))
    ∙ take_at xs r n (sym q)

-- ---- what a rule answers

pub measured_fits : (at : ℕ) (A : Term) → size A ≤ most_type_words → measured at A ≡ ok A
measured_fits at A l = simp (le-leb (size A) most_type_words l)

pub measured_long : (at : ℕ) (A : Term) → most_type_words < size A → measured at A ≡ refused type_too_long at
measured_long at A l = simp (lt-leb (size A) most_type_words l)

-- a refusal, whatever stands at the front
pub formed_refusal : {r : Answer Typed Refusal} (o : Result Term) (m p end : ℕ) (ws new : List ℕ) → o ≡ refused m p → told r ≡ refused m p
    → drop front_words new ≡ drop front_words ws → TypeFormed o end ws new r
formed_refusal {r} o m p end ws new e t k = subst (λ (o : Result Term). TypeFormed o end ws new r) (sym e) (record { answer = t; front = tt; rest = k })

-- a refusal that writes nothing
pub formed_refused : {r : Answer Typed Refusal} (o : Result Term) (m p end : ℕ) (ws : List ℕ) → o ≡ refused m p → told r ≡ refused m p
    → TypeFormed o end ws ws r
formed_refused o m p end ws e t = formed_refusal o m p end ws ws e t refl

pub formed_typed : (o : Result Term) (A : Term) (words end : ℕ) (ws new : List ℕ) → o ≡ ok A → words ≡ size A → TypeAt new 0 A
    → drop front_words new ≡ drop front_words ws → TypeFormed o end ws new (Ok (record { words = words; end = end }))
formed_typed o A words end ws new e s h r =
    subst (λ (o : Result Term). TypeFormed o end ws new (Ok (record { words = words; end = end }))) (sym e)
    (record { answer = ap (λ (w : ℕ). ok (record { words = w; end = end })) s; front = h; rest = r })

-- the words of the type were written at the front, after others that left the rest
pub writes : (o : Result Term) (A : Term) (words end : ℕ) (ws mid new : List ℕ) → o ≡ ok A → words ≡ size A → size A ≤ most_type_words → PlainType A
    → drop front_words mid ≡ drop front_words ws → new ≡ written_at mid 0 (encode A)
    → TypeFormed o end ws new (Ok (record { words = words; end = end }))
writes o A words end ws mid new e s l p k w =
    let z : length (encode A) ≡ size A = encode_size A in
    formed_typed o A words end ws new e s (record { plain = p; rest = drop (0 + length (encode A)) mid; words = w })
    (written_kept mid new (encode A) 0 front_words (omega arith) w (omega arith) ∙ k)

-- ---- what an answer tells

module _ (r : Answer Typed Refusal) (o : Result Term) (end : ℕ) (e : told r ≡ type_and_end o end) where
  pub refused_by : (m p : ℕ) → told r ≡ refused m p → o ≡ refused m p
  refused_by m p q = not_mapped (λ A. record { words = size A; end = end }) o (sym e ∙ q)

  pub typed_by : {Z : Type 0} (t : Typed) → told r ≡ ok t → ((A : Term) → o ≡ ok A → t.words ≡ size A → t.end ≡ end → Z) → Z
  typed_by t q g = bound o _ (sym e ∙ q) λ A i j.
      let v : ◌≡◌ {A = Typed} (record { words = size A; end = end }) t = ok_inj j in
      g A i (sym (ap (λ (x : Typed). x.words) v)) (sym (ap (λ (x : Typed). x.end) v))

-- The signature list, constant by constant.
use Prim.Native.Nat.{ℕ, zero, suc, ◌+◌, ◌-◌, ◌*◌, ◌≤◌, ◌<◌}
use native.Mathlib.Omega.{arith}
use native.Mathlib.Numerals.{add-one}
use mathlib.Core.Path.{◌≡◌, refl, sym, ap, ap₂, subst, ◌∙◌}
use mathlib.Core.Logic.{inl, inr}
use mathlib.Core.Bool.{Bool, true, false, ◌&&◌, and-false}
use mathlib.Core.List.{List, [], ◌∷◌, ◌++◌}
use mathlib.Core.Option.{some}
use lib.Dec.{leb, ltb}
use lib.ListN.{length, take, drop, get_or, get_elem?, set, get_or-append, length-append, length-drop, drop_of_length-le, take-append-drop}
use lib.Seq.{drop-drop, length-take-le, take-suc-set, get_or-append_seam}
use borrow.Author.Tests.{le-leb, lt-leb, leb-true, le-ltb, lt-ltb}
use Rattle.logic.specs.Limits.{most_words, most_nesting, most_constants, most_constant_words}
use Rattle.logic.specs.Refusals.{bad_signature}
use Rattle.logic.specs.Result.{Result, ok, refused, ◌>>=◌, ◌>>◌, require}
use Rattle.logic.specs.Term.{Term, P, S, Pi, KindP, encode, size}
use Rattle.logic.specs.Typing.{Has}
use Rattle.logic.specs.Scope.{Signature}
use Rattle.logic.specs.Reading.{Plain, read, too_deep}
use Rattle.logic.specs.Infer.{infer, same, same_term, condition}
use Rattle.logic.specs.Check.{term_of, Checked}
use Rattle.logic.proofs.Basics.{clash, no_entry}
use Rattle.logic.proofs.Words.{encode_size}
use Rattle.logic.proofs.Results.{not_ok, ok_inj, bind_is, pass, both_true, true_both}
use Rattle.logic.proofs.Stopped.{stop, fail}
use Rattle.logic.proofs.Signatures.{entry_last, extend, empty_signature}
use Rattle.words.specs.Place.{At}
use Rattle.words.specs.Typed.{TypeAt}
use Rattle.words.proofs.Lists.{drop_one}
use Rattle.rules.specs.Scope.{Declared}
use Rattle.logic.specs.SignatureList.{at_constant, constant, constants, signature}
use Rattle.rules.specs.Form.{Front}
use Rattle.rules.proofs.Fronts.{typed_by, refused_by}
use Rattle.typing.specs.Check.{ConstantsOf, typed_term, Judged}
use Rattle.signature.specs.Listing.{succeeded, constant_at, SignatureRead}
use Rattle.std.specs.Prelude.{Ok, Err}
use Rattle.std.specs.Prelude.{Result as Answer}
use Rattle.std.specs.Result.{is_ok}
use Rattle.logic.specs.Answer.{answer as told}
use Rattle.logic.specs.declared.refusal.Refusal.{Refusal}
use Rattle.rules.specs.declared.typed.Typed.{Typed}
use Rattle.logic.proofs.SignatureList.{constant_right}

-- ---- one constant

-- the condition on a constant's type
abbrev kind_test : Result Checked → Result Term
kind_test r = r >>= λ c. condition 0 (same c.type KindP) >> ok c.term

module _ (Σ : List Term) (sig : List ℕ) (at : ℕ) (l : at < length sig) where
  abbrev n : ℕ
  n = get_or sig at 0

  abbrev ws : List ℕ
  ws = drop (at + 1) sig

  at_word : constant_at Σ (drop at sig) ≡ (leb 1 n && leb n most_constant_words && leb n (length ws) && succeeded (constant Σ (take n ws)))
  unfolding constant_at
  at_word = ap (constant_at Σ) (drop_one sig at l)

  pub no_length_word : n < 1 → false ≡ constant_at Σ (drop at sig)
  no_length_word h = sym (at_word ∙ ap (λ (b : Bool). b && leb n most_constant_words && leb n (length ws) && succeeded (constant Σ (take n ws)))
      (lt-leb 1 n h))

  pub too_many_words : most_constant_words < n → false ≡ constant_at Σ (drop at sig)
  too_many_words h =
      sym (at_word ∙ ap (λ (b : Bool). leb 1 n && b && leb n (length ws) && succeeded (constant Σ (take n ws))) (lt-leb n most_constant_words h)
      ∙ ap (λ (b : Bool). b && leb n (length ws) && succeeded (constant Σ (take n ws))) (and-false (leb 1 n)))

  pub cut_off : length sig - (at + 1) < n → false ≡ constant_at Σ (drop at sig)
  cut_off h =
      let d : length ws < n = omega (arith, length-drop (at + 1) sig) in
      sym (at_word ∙ ap (λ (b : Bool). leb 1 n && leb n most_constant_words && b && succeeded (constant Σ (take n ws))) (lt-leb n (length ws) d)
      ∙ ap (λ (b : Bool). b && succeeded (constant Σ (take n ws))) (and-false (leb 1 n && leb n most_constant_words)))

  module _ (some_word : 1 ≤ n) (not_more : n ≤ most_constant_words) (fits : n ≤ length sig - (at + 1)) where
    tests : constant_at Σ (drop at sig) ≡ succeeded (constant Σ (take n ws))
    tests =
        let d : n ≤ length ws = omega (arith, length-drop (at + 1) sig) in
        at_word ∙ ap (λ (b : Bool). b && succeeded (constant Σ (take n ws)))
        (true_both (true_both (le-leb 1 n some_word) (le-leb n most_constant_words not_more)) (le-leb n (length ws) d))

    pub known_type : succeeded (constant Σ (take n ws)) ≡ true → true ≡ constant_at Σ (drop at sig)
    known_type e = sym (tests ∙ e)

    typed_refused : (m p : ℕ) → typed_term Σ most_words most_nesting (take n ws) ≡ refused m p → succeeded (constant Σ (take n ws)) ≡ false
    typed_refused m p e = go (term_of most_words most_nesting (take n ws)) e
      where
        typed : (t : Term) (r : Result Term) → r ≡ refused m p → succeeded (kind_test (r >>= λ A. ok (record { term = t; type = A }))) ≡ false
        typed t (ok A) e = absurd (clash (cc))
        typed t (refused m' p') e = refl

        go : (r : Result Term) → (r >>= λ t. infer Σ [] 0 t) ≡ refused m p
            → succeeded (kind_test (r >>= λ t. infer Σ [] 0 t >>= λ A. ok (record { term = t; type = A }))) ≡ false
        go (ok t) e = typed t (infer Σ [] 0 t) e
        go (refused m' p') e = refl

    test_is : (b : Bool) (t : Term) → succeeded (condition 0 b >> ok t) ≡ b
    test_is true t = refl
    test_is false t = refl

    typed_ok : (A : Term) → typed_term Σ most_words most_nesting (take n ws) ≡ ok A → succeeded (constant Σ (take n ws)) ≡ same A KindP
    typed_ok A e = go (term_of most_words most_nesting (take n ws)) e
      where
        typed : (t : Term) (r : Result Term) → r ≡ ok A → succeeded (kind_test (r >>= λ A. ok (record { term = t; type = A }))) ≡ same A KindP
        typed t r q = ap (λ r. succeeded (kind_test (r >>= λ A. ok (record { term = t; type = A })))) q ∙ test_is (same A KindP) t

        go : (r : Result Term) → (r >>= λ t. infer Σ [] 0 t) ≡ ok A
            → succeeded (kind_test (r >>= λ t. infer Σ [] 0 t >>= λ A. ok (record { term = t; type = A }))) ≡ same A KindP
        go (ok t) e = typed t (infer Σ [] 0 t) e
        go (refused m' p') e = absurd (clash (cc))

    -- the check of its words, lent
    module _ {words : List ℕ} (same-words : words ≡ take n ws) where
      of_words : {o : Result Term} → typed_term Σ most_words most_nesting words ≡ o → typed_term Σ most_words most_nesting (take n ws) ≡ o
      of_words e = ap (typed_term Σ most_words most_nesting) (sym same-words) ∙ e

      pub constant_not_typed : {new : List ℕ} (r : Answer Typed Refusal) {end : ℕ} → Judged (typed_term Σ most_words most_nesting words) end new r
          → is_ok r ≡ false → false ≡ constant_at Σ (drop at sig)
      constant_not_typed (Ok t) J q = absurd (clash (cc))
      constant_not_typed (Err e) {end} J q = sym (tests ∙ typed_refused _ _ (of_words (refused_by (Err e) _ end J.answer _ _ refl)))

      pub typed_kind : {new : List ℕ} (r : Answer Typed Refusal) {end : ℕ} {b : Bool} → Judged (typed_term Σ most_words most_nesting words) end new r
          → is_ok r ≡ true → ((A : Term) → TypeAt new 0 A → b ≡ same A KindP) → b ≡ constant_at Σ (drop at sig)
      typed_kind {new} (Ok t) {end} J q f =
          typed_by (Ok t) _ end J.answer t refl λ A i w l.
          sym (tests ∙ typed_ok A (of_words i) ∙ sym (f A (subst (λ (x : Result Term). Front x new) i J.front)))
      typed_kind (Err e) J q f = absurd (clash (cc))

-- ---- the types of a permit and of a receipt

pub permit_passes : (Σ : List Term) → succeeded (constant Σ (encode (Pi S P))) ≡ true
unfolding encode read too_deep infer size same_term
permit_passes Σ = refl

pub receipt_passes : (Σ : List Term) → succeeded (constant Σ (encode (Pi S (Pi S P)))) ≡ true
unfolding encode read too_deep infer size same_term
receipt_passes Σ = refl

-- ---- the list

-- the tests of a constant's length word
abbrev listable : ℕ → List ℕ → Bool
listable n ws = leb 1 n && leb n most_constant_words && leb n (length ws)

with_count : (b : Bool) (n : ℕ) (ws : List ℕ) → b ≡ true → (b && leb 1 n && leb n most_constant_words && leb n (length ws)) ≡ listable n ws
with_count b n ws e = ap (λ (x : Bool). x && leb 1 n && leb n most_constant_words && leb n (length ws)) e

no_constant : (x : Result Term) (at : ℕ) (f : Term → Result (List Term)) → succeeded x ≡ false → (at_constant at x >>= f) ≡ refused bad_signature at
no_constant (ok A) at f e = absurd (clash (cc))
no_constant (refused m p) at f e = refl

-- the list ends with a bad constant
bad_constant : (k at : ℕ) (Σ : List Term) (ws : List ℕ) → 0 < length ws → constant_at Σ ws ≡ false → constants (suc k) at Σ ws ≡ refused bad_signature at
unfolding constants constant_at
bad_constant k at Σ [] l e = absurd (omega arith)
bad_constant k at Σ (n ∷ ws) l e = go (ltb (length Σ) most_constants) (listable n ws) refl refl e
  where
    go : (c b : Bool) → ltb (length Σ) most_constants ≡ c → listable n ws ≡ b → (b && succeeded (constant Σ (take n ws))) ≡ false
        → (require (ltb (length Σ) most_constants && leb 1 n && leb n most_constant_words && leb n (length ws)) bad_signature at >>
        (at_constant at (constant Σ (take n ws)) >>= λ A. constants k (at + 1 + n) (Σ ++ (A ∷ [])) (drop n ws))) ≡ refused bad_signature at
    go false b p q f = fail bad_signature at _ (ap (λ (x : Bool). x && leb 1 n && leb n most_constant_words && leb n (length ws)) p)
    go true false p q f = fail bad_signature at _ (with_count _ n ws p ∙ q)
    go true true p q f = pass bad_signature at (with_count _ n ws p ∙ q) (no_constant (constant Σ (take n ws)) at _ f)

-- or with one too many
full_list : (k at : ℕ) (Σ : List Term) (ws : List ℕ) → 0 < length ws → most_constants ≤ length Σ → constants (suc k) at Σ ws ≡ refused bad_signature at
unfolding constants
full_list k at Σ [] l h = absurd (omega arith)
full_list k at Σ (n ∷ ws) l h =
    fail bad_signature at _ (ap (λ (x : Bool). x && leb 1 n && leb n most_constant_words && leb n (length ws)) (le-ltb (length Σ) most_constants h))

-- one constant more, whose type A stands behind its length word
pub record One (Σ : List Term) (k at : ℕ) (ws : List ℕ) : Type 0 where
  pub type : Term
  pub kind : Has Σ [] type KindP
  pub goes_on : constants (suc k) at Σ ws ≡ constants k (at + 1 + get_or ws 0 0) (Σ ++ (type ∷ [])) (drop (1 + get_or ws 0 0) ws)
  pub words : take (get_or ws 0 0) (drop 1 ws) ≡ encode type
  pub plain : Plain type
  pub small : get_or ws 0 0 ≤ most_constant_words
  pub inside : 1 + get_or ws 0 0 ≤ length ws

passed_ok : (x : Result Term) → succeeded x ≡ true → (A : Term) × (x ≡ ok A)
passed_ok (ok A) e = (A, refl)
passed_ok (refused m p) e = absurd (clash (cc))

one : (Σ : List Term) → Signature Σ → (k at : ℕ) (ws : List ℕ) → length Σ < most_constants → constant_at Σ ws ≡ true → One Σ k at ws
unfolding constants constant_at
one Σ sg k at [] l e = absurd (clash (cc))
one Σ sg k at (n ∷ ws) l e =
    let (b, c) = both_true (listable n ws) (succeeded (constant Σ (take n ws))) e in
    let (b', fits) = both_true (leb 1 n && leb n most_constant_words) (leb n (length ws)) b in
    let (_, short) = both_true (leb 1 n) (leb n most_constant_words) b' in
    let (A, q) = passed_ok (constant Σ (take n ws)) c in
    let P = (constant_right Σ sg (take n ws) A).0 q in
    let f = leb-true n (length ws) fits in
    let i : 1 + n ≡ suc n = omega arith in
    record {
      type = A;
      kind = P.derivation;
      goes_on =
          pass bad_signature at (with_count _ n ws (lt-ltb (length Σ) most_constants l) ∙ b)
          (ap (λ x. at_constant at x >>= λ A. constants k (at + 1 + n) (Σ ++ (A ∷ [])) (drop n ws)) q)
          ∙ ap (λ (j : ℕ). constants k (at + 1 + n) (Σ ++ (A ∷ [])) (drop j (n ∷ ws))) (sym i);
      words = P.term.words;
      plain = P.term.plain;
      small = leb-true n most_constant_words short;
      inside = omega arith;
    }

ended : (k at : ℕ) (Σ : List Term) → constants (suc k) at Σ [] ≡ ok Σ
unfolding constants
ended k at Σ = refl

-- of the list, the constants up to the place `at` are read
pub record ReadUpTo (sig table : List ℕ) (at count : ℕ) : Type 0 where
  pub Σ : List Term
  pub k : ℕ
  pub constants_are : ConstantsOf sig (take count table) Σ
  pub is : signature sig ≡ constants k at Σ (drop at sig)
  pub enough : length sig < at + k
  pub counted : count ≡ length Σ
  pub within : at ≤ length sig
  pub low : at ≤ count * (1 + most_constant_words)

pub read_up_to_start : (sig table : List ℕ) → ReadUpTo sig table 0 0
read_up_to_start sig table = record {
  Σ = [];
  k = suc (length sig);
  constants_are =
      record {
        declared = record { count = refl; type = λ n A e. absurd (no_entry e); length_word = λ n A e. absurd (no_entry e) };
        signature = empty_signature;
      };
  is = refl;
  enough = omega arith;
  counted = refl;
  within = omega arith;
  low = omega arith;
}

-- the list is refused at a place
refused_at : {r : Answer ℕ Refusal} (sig table : List ℕ) (at k : ℕ) (Σ : List Term) (ws : List ℕ) → signature sig ≡ constants k at Σ ws → 0 < k
    → ((k : ℕ) → constants (suc k) at Σ ws ≡ refused bad_signature at) → told r ≡ refused bad_signature at → SignatureRead (signature sig) sig table r
refused_at sig table at zero Σ ws e l f t = absurd (omega arith)
refused_at sig table at (suc k) Σ ws e l f t = let q = e ∙ f k in record { answer = t ∙ sym (stop _ q); constants = λ Σ i. absurd (not_ok (sym q ∙ i)) }

module _ {sig table : List ℕ} {at count : ℕ} (R : ReadUpTo sig table at count) where
  more_words : at < length sig → 0 < length (drop at sig)
  more_words l = omega (arith, length-drop at sig)

  pub reading_full : {r : Answer ℕ Refusal} (new : List ℕ) → at < length sig → most_constants ≤ count → told r ≡ refused bad_signature at
      → SignatureRead (signature sig) sig new r
  reading_full new l h =
      refused_at sig new at R.k R.Σ (drop at sig) R.is (omega (arith, R.enough))
      (λ k. full_list k at R.Σ (drop at sig) (more_words l) (omega (arith, R.counted)))

  pub reading_bad : {r : Answer ℕ Refusal} (new : List ℕ) → at < length sig → constant_at R.Σ (drop at sig) ≡ false → told r ≡ refused bad_signature at
      → SignatureRead (signature sig) sig new r
  reading_bad new l h =
      refused_at sig new at R.k R.Σ (drop at sig) R.is (omega (arith, R.enough)) (λ k. bad_constant k at R.Σ (drop at sig) (more_words l) h)

  pub reading_done : length sig ≤ at → SignatureRead (signature sig) sig table (Ok count)
  reading_done l = go R.k R.is (omega (arith, R.enough))
    where
      go : (k : ℕ) → signature sig ≡ constants k at R.Σ (drop at sig) → 0 < k → SignatureRead (signature sig) sig table (Ok count)
      go zero e h = absurd (omega arith)
      go (suc k) e h =
          let q : signature sig ≡ ok R.Σ = e ∙ ap (constants (suc k) at R.Σ) (drop_of_length-le sig l) ∙ ended k at R.Σ in
          record {
            answer = ap ok R.counted ∙ sym (bind_is _ q refl);
            constants =
                λ Σ i. subst (λ (Σ : List Term). ConstantsOf sig (take (length Σ) table) Σ) (ok_inj (sym q ∙ i))
                (subst (λ (n : ℕ). ConstantsOf sig (take n table) R.Σ) R.counted R.constants_are);
          }

-- the table with the place of one type more
module _ (sig table : List ℕ) (x : ℕ) (Σ : List Term) (A : Term) (D : Declared sig table Σ) (here : At sig x A) (one_before : 1 ≤ x)
    (length-there : get_or sig (x - 1) 0 ≡ size A) where
  entry_of : (P : Term → ℕ → Type 0) → ((n : ℕ) (B : Term) → get_elem? Σ n ≡ some B → P B (get_or table n 0)) → P A x → (n : ℕ) (B : Term)
      → get_elem? (Σ ++ (A ∷ [])) n ≡ some B → P B (get_or (table ++ (x ∷ [])) n 0)
  entry_of P old new n B e = elim (entry_last Σ n e) [
    | inl (l, q) ↦ (let h : n < length table = omega (arith, D.count) in subst (P B) (sym (get_or-append table (x ∷ []) 0 n h)) (old n B q))
    | inr (h, q) ↦ (let k : n ≡ length table = h ∙ sym D.count in subst (P B)
        (sym (ap (λ (i : ℕ). get_or (table ++ (x ∷ [])) i 0) k ∙ get_or-append_seam table x [] 0)) (subst (λ (B : Term). P B x) q new))
  ]

  more_declared : Declared sig (table ++ (x ∷ [])) (Σ ++ (A ∷ []))
  more_declared = record {
    count = omega (arith, length-append table (x ∷ []), length-append Σ (A ∷ []), D.count);
    type = entry_of (λ B i. At sig i B) D.type here;
    length_word = entry_of (λ B i. (1 ≤ i) × (get_or sig (i - 1) 0 ≡ size B)) D.length_word (one_before, length-there);
  }

module _ {sig table : List ℕ} {at count : ℕ} (R : ReadUpTo sig table at count) (l : at < length sig) (few : count < most_constants)
    (entries : length table ≡ most_constants) (fine : constant_at R.Σ (drop at sig) ≡ true) where
  abbrev words_there : ℕ
  words_there = get_or sig at 0

  one_here : (k : ℕ) → One R.Σ k at (drop at sig)
  one_here k = one R.Σ R.constants_are.signature k at (drop at sig) (omega (arith, R.counted)) fine

  length_word_is : get_or (drop at sig) 0 0 ≡ words_there
  length_word_is = ap (λ (x : List ℕ). get_or x 0 0) (drop_one sig at l)

  module _ (k : ℕ) (O : One R.Σ k at (drop at sig)) where
    rest_words : drop 1 (drop at sig) ≡ drop (at + 1) sig
    rest_words = drop-drop 1 at sig

    inside_there : at + 1 + words_there ≤ length sig
    inside_there = omega (arith, O.inside, length_word_is, length-drop at sig)

    type_words : take words_there (drop (at + 1) sig) ≡ encode O.type
    type_words = ap₂ (λ (i : ℕ) (x : List ℕ). take i x) (sym length_word_is) (sym rest_words) ∙ O.words

    type_there : At sig (at + 1) O.type
    type_there = record {
      plain = O.plain;
      rest = drop words_there (drop (at + 1) sig);
      words = sym (take-append-drop words_there (drop (at + 1) sig)) ∙ ap (λ (x : List ℕ). x ++ drop words_there (drop (at + 1) sig)) type_words;
    }

    type_size : words_there ≡ size O.type
    type_size =
        let a = length-take-le words_there (drop (at + 1) sig) (omega (arith, inside_there, length-drop (at + 1) sig)) in
        sym a ∙ ap length type_words ∙ encode_size O.type

    more_table : take (count + 1) (set table count (at + 1)) ≡ take count table ++ ((at + 1) ∷ [])
    more_table = ap (λ (i : ℕ). take i (set table count (at + 1))) (add-one count) ∙ take-suc-set table count (at + 1) (omega arith)

    reading_on : (K : R.k ≡ suc k) → ReadUpTo sig (set table count (at + 1)) (at + 1 + words_there) (count + 1)
    reading_on K =
        let b : at + 1 - 1 ≡ at = omega arith in
        let d = more_declared sig (take count table) (at + 1) R.Σ O.type R.constants_are.declared type_there (omega arith)
        (ap (λ (i : ℕ). get_or sig i 0) b ∙ type_size) in
        let w : at + (1 + words_there) ≡ at + 1 + words_there = omega arith in
        record {
          Σ = R.Σ ++ (O.type ∷ []);
          k = k;
          constants_are =
              record {
                declared = subst (λ (x : List ℕ). Declared sig x (R.Σ ++ (O.type ∷ []))) (sym more_table) d;
                signature = extend R.constants_are.signature O.kind;
              };
          is = R.is ∙ ap (λ (i : ℕ). constants i at R.Σ (drop at sig)) K ∙ O.goes_on
              ∙ ap (λ (i : ℕ). constants k (at + 1 + i) (R.Σ ++ (O.type ∷ [])) (drop (1 + i) (drop at sig))) length_word_is
              ∙ ap (constants k (at + 1 + words_there) (R.Σ ++ (O.type ∷ []))) (drop-drop (1 + words_there) at sig ∙ ap (λ (i : ℕ). drop i sig) w);
          enough = omega (arith, R.enough, K);
          counted = omega (arith, R.counted, length-append R.Σ (O.type ∷ []));
          within = inside_there;
          low = omega (arith, R.low, O.small, length_word_is);
        }

  pub reading_more : ReadUpTo sig (set table count (at + 1)) (at + (1 + words_there)) (count + 1)
  reading_more =
      let w : at + 1 + words_there ≡ at + (1 + words_there) = omega arith in
      subst (λ (i : ℕ). ReadUpTo sig (set table count (at + 1)) i (count + 1)) w (go R.k refl)
    where
      go : (k : ℕ) → R.k ≡ k → ReadUpTo sig (set table count (at + 1)) (at + 1 + words_there) (count + 1)
      go zero K = absurd (omega (arith, R.enough))
      go (suc k) K = reading_on k (one_here k) K

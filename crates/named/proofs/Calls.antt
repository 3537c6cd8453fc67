-- What a converter answers and leaves in the output, test by test.
use Prim.Native.Nat.{ℕ, ◌+◌, ◌≤◌, ◌<◌}
use mathlib.Core.Path.{◌≡◌, refl, sym, ap, ap₂, subst, ◌∙◌}
use mathlib.Core.List.{List, [], ◌++◌, map, append-nil}
use lib.ListN.{length, take, drop, length-map}
use borrow.Author.Tests.{le-leb, lt-leb}
use native.Mathlib.Omega.{arith}
use Rattle.logic.specs.Limits.{most_words, most_nesting}
use Rattle.logic.specs.Refusals.{term_length, output_short}
use Rattle.logic.specs.Result.{Result, ok, refused, without_value}
use Rattle.logic.specs.Check.{term_of}
use Rattle.logic.proofs.Results.{bind_is, pass, followed}
use Rattle.logic.proofs.Stopped.{stop, fail, stopped_then, not_refused}
use Rattle.words.specs.Place.{written_at, after_write}
use Rattle.words.proofs.Lists.{written_front}
use Rattle.words.proofs.Terms.{long_term}
use Rattle.editions.specs.Named.{Named, encode', size'}
use Rattle.editions.specs.Edition.{unnamed, edition_term, labels, WordsOf'}
use Rattle.editions.specs.Convert.{convert, fitting, converted, ScopeOf}
use Rattle.editions.specs.declared.Edition.{Edition}
use Rattle.named.specs.Answers.{EditionAt, Convertible, WroteTerm, ConvertedAs}
use Rattle.editions.proofs.Words.{encode_size'}
use Rattle.editions.proofs.Editions.{edition_term_right}
use Rattle.editions.proofs.Scopes.{no_names}
use Rattle.editions.proofs.Means.{convert_means, means_size}
use Rattle.editions.proofs.Refuses.{converted_in_turn, converted_is}
use Rattle.named.proofs.Writes.{Writes, wrote_end, wrote_refused}

-- a refusal writes nothing
told_refused : (o : Result (List ℕ)) (old : List ℕ) (m p : ℕ) (r : Result ℕ) → o ≡ refused m p → r ≡ refused m p → ConvertedAs o old old r
told_refused o old m p r e f = record { answer = f ∙ sym (stop (λ xs. ok (length xs)) e); output = sym (ap (λ x. after_write x old) e) }

-- the term that passed tests 6 to 8
pub record TermIn (e : Edition) (ws : List ℕ) : Type 0 where
  pub term : Named
  pub read : edition_term e ws ≡ ok term
  pub words : WordsOf' e ws term

whole_at : {e : Edition} {ws : List ℕ} {s : Named} → WordsOf' e ws s → EditionAt e ws 0 s
whole_at {s} w = record { plain = w.plain; rest = []; words = w.words ∙ sym (append-nil (encode' s)) }

pub convertible : {e : Edition} {ws ns out : List ℕ} → TermIn e ws → ns ≡ [] → length ws ≤ length out → Convertible e ws 0 ns out
convertible {e} T f l = record {
  scoped = subst (ScopeOf e) (sym f) (no_names e);
  s = T.term;
  here = whole_at T.words;
  room = l;
  deep = omega (arith, T.words.nested, ap length f);
}

-- what is copied to the front of an output
pub copied : (old xs front : List ℕ) (n : ℕ) → front ≡ xs → length xs ≡ n → front ++ drop n old ≡ written_at old 0 xs
copied old xs front n e f = let z : n ≡ 0 + length xs = omega arith in ap₂ (λ (l : List ℕ) (i : ℕ). l ++ drop i old) e z

-- the words that are tested
pub bare_words : (e : Edition) (ws old new : List ℕ) → new ≡ written_at old 0 (map (unnamed e) ws) → take (length ws) new ≡ map (unnamed e) ws
bare_words e ws old new h = written_front old new (map (unnamed e) ws) (length ws) h (sym (length-map ws (unnamed e)))

module _ (e : Edition) (ws old : List ℕ) where
  is : converted e ws (length old) ≡ converted_in_turn e ws (length old)
  is = converted_is e ws (length old)

  -- ---- tests 6 to 8

  refused_test : (m p : ℕ) (x : Result ℕ) → term_of most_words most_nesting (map (unnamed e) ws) ≡ refused m p → x ≡ refused m p →
      ConvertedAs (converted e ws (length old)) old old x
  refused_test m p x h = told_refused _ old m p x (is ∙ stop _ (stop (λ t. ok (labels ws 0 t)) h))

  pub too_long : (x : Result ℕ) → most_words < length ws → x ≡ refused term_length 0 → ConvertedAs (converted e ws (length old)) old old x
  too_long x l = refused_test term_length 0 x (long_term most_words most_nesting (map (unnamed e) ws) (omega (arith, length-map ws (unnamed e))))

  module _ (vs : List ℕ) (same : vs ≡ map (unnamed e) ws) (r : Result (Unit {0})) (told : r ≡ without_value (term_of most_words most_nesting vs)) where
    same_test : term_of most_words most_nesting (map (unnamed e) ws) ≡ term_of most_words most_nesting vs
    same_test = ap (term_of most_words most_nesting) (sym same)

    pub test_refused : (m p : ℕ) (x : Result ℕ) → r ≡ refused m p → x ≡ refused m p → ConvertedAs (converted e ws (length old)) old old x
    test_refused m p x i =
        refused_test m p x (same_test ∙ stopped_then (term_of most_words most_nesting vs) (ok tt) (sym told ∙ i) (λ h. h) (λ t h k. absurd (not_refused k)))

    pub test_passed : r ≡ ok tt → TermIn e ws
    test_passed i = followed (term_of most_words most_nesting vs) (ok tt) (sym told ∙ i) λ t j k.
        let f : edition_term e ws ≡ ok (labels ws 0 t) = bind_is (λ t. ok (labels ws 0 t)) (same_test ∙ j) refl in
        record { term = labels ws 0 t; read = f; words = (edition_term_right e ws (labels ws 0 t)).0 f }

  -- ---- behind them

  module _ (T : TermIn e ws) (ns work new : List ℕ) (r : Result ℕ) (none : ns ≡ []) (wrote : Writes e ws 0 ns work new r) where
    done : WroteTerm (convert e [] 0 T.term) 0 (0 + size' T.term) work new r
    done = subst (λ xs. WroteTerm (convert e xs 0 T.term) 0 (0 + size' T.term) work new r) none (wrote T.term (whole_at T.words))

    pub no_binder : (m p : ℕ) (x : Result ℕ) → r ≡ refused m p → x ≡ refused m p → ConvertedAs (converted e ws (length old)) old old x
    no_binder m p x i = told_refused _ old m p x (is ∙ bind_is _ T.read (stop _ (wrote_refused _ 0 _ m p work new r done i)))

    module _ (end : ℕ) (ended : r ≡ ok end) where
      -- the words that were made
      made : (t : Named) × (convert e [] 0 T.term ≡ ok t) × (length (encode' t) ≡ length ws) × (take (length ws) new ≡ encode' t)
      made =
          let (t, i, j) = wrote_end _ 0 _ end work new r done ended in
          let n : length (encode' t) ≡ length ws =
          encode_size' t ∙ means_size (convert_means e T.term [] 0 i) ∙ sym (encode_size' T.term) ∙ sym (ap length T.words.words) in
          (t, i, n, written_front work new (encode' t) (length ws) (done.words t i) (sym n))

      pub short_output : (x : Result ℕ) → length old < length ws → x ≡ refused output_short 0 → ConvertedAs (converted e ws (length old)) old old x
      short_output x l =
          let (t, i, n, w) = made in
          let f = fail output_short 0 (ok (encode' t)) (lt-leb (length (encode' t)) (length old) (omega arith)) in
          told_refused _ old output_short 0 x (is ∙ bind_is _ T.read (bind_is (λ t. fitting (length old) (encode' t)) i f))

      pub all_written : (out : List ℕ) → length ws ≤ length old → out ≡ written_at old 0 (take (length ws) new) →
          ConvertedAs (converted e ws (length old)) old out (ok (length ws))
      all_written out l h =
          let (t, i, n, w) = made in
          let f = pass {s = ok (encode' t)} output_short 0 (le-leb (length (encode' t)) (length old) (omega arith)) refl in
          subst (λ o. ConvertedAs o old out (ok (length ws))) (sym (is ∙ bind_is _ T.read (bind_is (λ t. fitting (length old) (encode' t)) i f)))
          (record { answer = ap ok (sym n); output = h ∙ ap (written_at old 0) w })

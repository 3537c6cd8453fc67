-- Tests 6 to 8 of an edition refuse exactly where specs/Refuses says. Words begin a term of the edition exactly if
-- without names they begin one of document 01, so they are malformed at the same place.
use Prim.Native.Nat.{ℕ, zero, suc}
use mathlib.Core.Path.{◌≡◌, refl, sym, ap, ap₂, ◌∙◌}
use mathlib.Core.Logic.{◌↔◌}
use mathlib.Core.Bool.{◌&&◌}
use mathlib.Core.List.{List, [], ◌∷◌, ◌++◌, map, map-append, append_inj, length-map as map-length}
use lib.Dec.{leb}
use lib.ListN.{length, take, length-map}
use Rattle.logic.specs.Limits.{most_words, most_nesting}
use Rattle.logic.specs.Refusals.{term_length, malformed, nesting}
use Rattle.logic.specs.Result.{refused}
use Rattle.logic.specs.Term.{Term, encode}
use Rattle.logic.specs.Reading.{read_whole, too_deep, Plain, Begins}
use Rattle.logic.specs.Refused.{BadLength, GoodLength}
use Rattle.logic.specs.Check.{term_of}
use Rattle.logic.proofs.Results.{bind_is, pass}
use Rattle.logic.proofs.Stopped.{not_refused, not_mapped, stopped, failed, met, stop, fail, meet}
use Rattle.logic.proofs.Reading.{read_right}
use Rattle.logic.proofs.Malformed.{read_refused}
use Rattle.logic.proofs.Searches.{too_deep_first}
use Rattle.logic.proofs.Refused.{outside, not_outside, inside, is_inside}
use Rattle.editions.specs.Named.{Named, counted, encode', erased}
use Rattle.editions.specs.Edition.{Plain', Begins', Malformed', unnamed, labels, edition_term}
use Rattle.editions.specs.Refuses.{TooDeep', ConvertRefused, convert_6, convert_7, convert_8}
use Rattle.editions.specs.declared.Edition.{Edition}
use Rattle.editions.proofs.Words.{erased_counted, counted_words, plain_counted, erased_plain, unnamed_words}
use Rattle.editions.proofs.Editions.{named_of}

take_map : (f : ℕ → ℕ) (p : ℕ) (ws : List ℕ) → take p (map f ws) ≡ map f (take p ws)
take_map f zero [] = refl
take_map f zero (w ∷ ws) = refl
take_map f (suc p) [] = refl
take_map f (suc p) (w ∷ ws) = ap₂ ◌∷◌ refl (take_map f p ws)

module _ (e : Edition) where
  -- a term of document 01 has no names, so what words without names lack to a term has none
  term_unnamed : (t : Term) → Plain t → map (unnamed e) (encode t) ≡ encode t
  term_unnamed t p = ap (map (unnamed e)) (sym (counted_words t)) ∙ unnamed_words e (counted t) (plain_counted e t p) ∙ ap encode (erased_counted t)

  rest_unnamed : (ws rest : List ℕ) (t : Term) → Plain t → encode t ≡ map (unnamed e) ws ++ rest → map (unnamed e) rest ≡ rest
  rest_unnamed ws rest t p h =
      let us : List ℕ = map (unnamed e) ws in
      (append_inj {s₁ = map (unnamed e) us} {s₂ = us} (rw (h, map-append) at (term_unnamed t p)) (map-length us (unnamed e))).1

  begins : (ws : List ℕ) → Begins (map (unnamed e) ws) ↔ Begins' e ws
  begins ws = (
    (λ (t, p, rest, h). let (s, x, i, j) = named_of e (ws ++ rest) t p (rw (map-append, rest_unnamed ws rest t p h) (sym h)) in (s, x, rest, sym j)),
    λ (s, p, rest, h). (erased s, erased_plain e s p, map (unnamed e) rest, rw (h, map-append) at (sym (unnamed_words e s p))),
  )

  begins_to : (p : ℕ) (ws : List ℕ) → Begins (take p (map (unnamed e) ws)) ↔ Begins' e (take p ws)
  begins_to p ws = rw (take_map (unnamed e) p ws) (begins (take p ws))

  module _ (ws : List ℕ) where
    whole_plain : (s : Named) → Plain' e s → ws ≡ encode' s → Plain (erased s) × (map (unnamed e) ws ≡ encode (erased s))
    whole_plain s p h = (erased_plain e s p, ap (map (unnamed e)) h ∙ unnamed_words e s p)

    same_length : length (map (unnamed e) ws) ≡ length ws
    same_length = length-map ws (unnamed e)

    -- malformed words are refused where the words without names are
    pub edition_malformed : (m p : ℕ) → (read_whole (map (unnamed e) ws) ≡ refused m p) ↔ ((m ≡ malformed) × Malformed' e ws p)
    edition_malformed m p = (
      (λ h. let (n, M) = (read_refused (map (unnamed e) ws) m p).0 h in (
        n,
        record {
          within = rw same_length at M.within;
          good = (begins_to p ws).0 M.good;
          bad = λ l b. M.bad (rw same_length l) ((begins_to (suc p) ws).1 b);
          missing = λ l (s, x, i). let (y, j) = whole_plain s x i in M.missing (l ∙ sym same_length) (erased s, y, j);
        },
      )),
      λ (n, M). (read_refused (map (unnamed e) ws) m p).1 (
        n,
        record {
          within = rw same_length M.within;
          good = (begins_to p ws).1 M.good;
          bad = λ l b. M.bad (rw same_length at l) ((begins_to (suc p) ws).0 b);
          missing = λ l (t, x, i). let (s, y, j, k) = named_of e ws t x i in M.missing (l ∙ same_length) (s, y, k);
        },
      ),
    )

    -- ---- tests 6 to 8

    in_range : (leb 1 (length (map (unnamed e) ws)) && leb (length (map (unnamed e) ws)) most_words) ≡ (leb 1 (length ws) && leb (length ws) most_words)
    in_range = ap (λ n. leb 1 n && leb n most_words) same_length

    pub tests_refused : (room m p : ℕ) → edition_term e ws ≡ refused m p → ConvertRefused e ws room m p
    tests_refused room m p h =
        failed (leb 1 (length (map (unnamed e) ws)) && leb (length (map (unnamed e) ws)) most_words) _ _ _
        (not_mapped (labels ws 0) (term_of most_words most_nesting (map (unnamed e) ws)) h)
        (λ n. row (convert_6 (outside 1 most_words (length ws) (sym in_range ∙ n)))) λ n h₁.
        let l = inside 1 most_words (length ws) (sym in_range ∙ n) in
        stopped (read_whole (map (unnamed e) ws)) _ h₁ (λ r. let (k, M) = (edition_malformed m p).0 r in row (convert_7 l M) k refl) λ t r h₂.
        let (x, i) = (read_right (map (unnamed e) ws) t).0 r in
        let (s, y, j, k) = named_of e ws t x i in
        met _ (too_deep most_nesting 0 t) _ h₂
        (λ d q. row (convert_8 l (record { s = s; plain = y; words = k; first = rw j ((too_deep_first t most_nesting 0 p).0 d) })) q refl) λ d h₃.
        absurd (not_refused h₃)
      where
        row : {m p m' p' : ℕ} → ConvertRefused e ws room m' p' → m ≡ m' → p ≡ p' → ConvertRefused e ws room m p
        row r n z = rw (n, z) r

    pub refused_6 : BadLength most_words ws → edition_term e ws ≡ refused term_length 0
    refused_6 l = stop _ (fail _ _ _ (in_range ∙ not_outside 1 most_words (length ws) l))

    pub refused_7 : (p : ℕ) → GoodLength most_words ws → Malformed' e ws p → edition_term e ws ≡ refused malformed p
    refused_7 p l M = stop _ (pass _ _ (in_range ∙ is_inside 1 most_words (length ws) l) (stop _ ((edition_malformed malformed p).1 (refl, M))))

    pub refused_8 : (p : ℕ) → GoodLength most_words ws → TooDeep' e ws p → edition_term e ws ≡ refused nesting p
    refused_8 p l D =
        stop _ (pass _ _ (in_range ∙ is_inside 1 most_words (length ws) l)
        (bind_is _ ((read_right (map (unnamed e) ws) (erased D.s)).1 (whole_plain D.s D.plain D.words))
        (meet _ _ ((too_deep_first (erased D.s) most_nesting 0 p).1 D.first))))

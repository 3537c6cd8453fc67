-- The laws of request 6.
use Prim.Native.Nat.{ℕ, ◌≤◌}
use mathlib.Core.Path.{◌≡◌, refl, sym, ap, subst, ◌∙◌}
use mathlib.Core.Logic.{◌↔◌}
use mathlib.Core.List.{List, []}
use lib.Dec.{leb}
use lib.ListN.{length}
use borrow.Author.Tests.{le-leb}
use native.Mathlib.Omega.{arith}
use Rattle.logic.specs.Limits.{most_words, most_nesting}
use Rattle.logic.specs.Result.{ok, ◌>>=◌}
use Rattle.logic.specs.Term.{Term, encode}
use Rattle.logic.specs.Reading.{Plain, depth}
use Rattle.logic.specs.Scope.{Signature}
use Rattle.logic.specs.Check.{term_of, WordsOf, Checked, check_term}
use Rattle.logic.proofs.Results.{ok_inj, bound, tested, bind_is, pass}
use Rattle.logic.proofs.Words.{plain_in_range, encode_injective}
use Rattle.logic.proofs.Check.{term_of_right, check_term_right}
use Rattle.editions.specs.Named.{Named, encode', counted, erased}
use Rattle.editions.specs.Edition.{WordsOf', Plain'}
use Rattle.editions.specs.Convert.{convert, name, fitting, from_named, to_named}
use Rattle.editions.specs.Binders.{OnlyNames}
use Rattle.editions.specs.Laws.{Laws}
use Rattle.editions.specs.declared.Edition.TheVariants.{Counts, Names}
use Rattle.editions.proofs.Words.{encode_size', erased_counted, counted_words, counted_plain, erased_plain, counts_counted}
use Rattle.editions.proofs.Editions.{edition_term_right}
use Rattle.editions.proofs.Means.{convert_means, means_size}
use Rattle.editions.proofs.Binders.{one_binder}
use Rattle.editions.proofs.Malformed.{edition_malformed}
use Rattle.editions.proofs.Unbound.{convert_refused, convert_bound}
use Rattle.editions.proofs.Refuses.{converted_is}
use Rattle.editions.proofs.Same.{few, kept, well_formed, same_term}
use Rattle.editions.proofs.Back.{closed, back, named_by_count, typed_closed}

document_01 : (ws : List ℕ) (t : Term) → WordsOf' Counts ws (counted t) ↔ WordsOf most_words most_nesting ws t
document_01 ws t = (
  (λ w. record {
    plain = subst Plain (erased_counted t) (erased_plain Counts (counted t) w.plain);
    words = w.words ∙ counted_words t;
    some_word = w.some_word;
    not_more = w.not_more;
    nested = omega (arith, w.nested, ap depth (erased_counted t));
  }),
  (λ w. record {
    plain = counted_plain t w.plain;
    words = w.words ∙ sym (counted_words t);
    some_word = w.some_word;
    not_more = w.not_more;
    nested = omega (arith, w.nested, ap depth (erased_counted t));
  }),
)

-- what the words of a named term convert to
from_of : (ws xs : List ℕ) (room : ℕ) (s : Named) → WordsOf' Names ws s → from_named ws room ≡ ok xs →
    (u : Named) × (convert Names [] 0 s ≡ ok u) × (xs ≡ encode' u)
from_of ws xs room s w e =
    bound (convert Names [] 0 s) (λ t. fitting room (encode' t))
    (sym (bind_is (λ s. convert Names [] 0 s >>= λ t. fitting room (encode' t)) ((edition_term_right Names ws s).1 w) refl)
    ∙ sym (converted_is Names ws room) ∙ e)
    λ u i j. tested (leb (length (encode' u)) room) _ _ _ j λ l k. (u, i, sym (ok_inj k))

-- words of document 01's edition are those of one term
one_term : (u v : Named) → Plain' Counts u → Plain' Counts v → encode' u ≡ encode' v → u ≡ v
one_term u v p q e =
    let words : (t : Named) → Plain' Counts t → encode (erased t) ≡ encode' t = λ t p. sym (counted_words (erased t)) ∙ ap encode' (counts_counted t p) in
    sym (counts_counted u p)
    ∙ ap counted (encode_injective (erased u) (erased v) (plain_in_range _ (erased_plain Counts u p)) (plain_in_range _ (erased_plain Counts v q))
    (words u p ∙ e ∙ sym (words v q)))
    ∙ counts_counted v q

same_words : (ws vs xs ys : List ℕ) (room room' : ℕ) (s t : Named) → WordsOf' Names ws s → WordsOf' Names vs t →
    from_named ws room ≡ ok xs → from_named vs room' ≡ ok ys → (xs ≡ ys) ↔ OnlyNames s t
same_words ws vs xs ys room room' s t w x e f =
    let (u, i, j) = from_of ws xs room s w e in
    let (v, k, l) = from_of vs ys room' t x f in
    let h = same_term s t u v i k w.plain x.plain (few w) (few x) in (
      (λ g. h.0 (one_term u v (well_formed Names ws s u w i).plain (well_formed Names vs t v x k).plain (sym j ∙ g ∙ l))),
      (λ o. j ∙ ap encode' (h.1 o) ∙ sym l),
    )

-- there and back, on words
back_words : (ws xs : List ℕ) (room room' : ℕ) → to_named ws room ≡ ok xs → length ws ≤ room' → from_named xs room' ≡ ok ws
back_words ws xs room room' e l =
    bound (term_of most_words most_nesting ws) _ e λ t e₁ e₂. bound (name t) _ e₂ λ s e₃ e₄. tested (leb (length (encode' s)) room) _ _ _ e₄ λ r e₅.
    let w = (term_of_right most_words most_nesting ws t).0 e₁ in
    subst (λ zs. from_named zs room' ≡ ok ws) (ok_inj e₅) (
    bind_is _ ((edition_term_right Names (encode' s) s).1 (well_formed Counts ws (counted t) s ((document_01 ws t).1 w) e₃)) (
    bind_is _ (back t s e₃) (
    pass _ _ (le-leb (length (encode t)) room' (omega (arith, ap length w.words))) (ap ok (sym w.words)))))

checked : (Σ : List Term) → Signature Σ → (ws : List ℕ) (c : Checked) (room : ℕ) → check_term Σ ws ≡ ok c → length ws ≤ room →
    (xs : List ℕ) × (to_named ws room ≡ ok xs) × ((from_named xs room >>= λ vs. check_term Σ vs) ≡ ok c)
checked Σ sig ws c room e l =
    let P = (check_term_right Σ sig ws c.term c.type).0 e in
    let (s, f) = (closed c.term).1 (typed_closed P.derivation) in
    let n : length (encode' s) ≡ length ws =
    encode_size' s ∙ means_size (convert_means Counts (counted c.term) [] 0 f) ∙ sym (encode_size' (counted c.term))
    ∙ ap length (counted_words c.term ∙ sym P.term.words) in
    let g : to_named ws room ≡ ok (encode' s) =
    bind_is _ ((term_of_right most_words most_nesting ws c.term).1 P.term)
    (bind_is _ f (pass _ _ (le-leb (length (encode' s)) room (omega arith)) refl)) in
    (encode' s, g, bind_is _ (back_words ws (encode' s) room room g l) e)

pub laws : Laws
laws = record {
  reads = edition_term_right;
  malformed_at = edition_malformed;
  all_bound = convert_bound;
  one_binder = λ h g. one_binder h g refl;
  first_unbound = convert_refused;
  kept = λ e ws s t w h. kept e s t w.plain (few w) h;
  named_by_count = λ t. named_by_count (counted t);
  well_formed = well_formed;
  document_01 = document_01;
  same_words = same_words;
  back = back;
  closed = closed;
  back_words = back_words;
  checked = checked;
}

-- The two converters answer as one, and their first demand.
use Prim.Native.Nat.{ℕ, ◌≤◌}
use mathlib.Core.Path.{◌≡◌, refl, sym, ap, subst, ◌∙◌}
use mathlib.Core.Logic.{◌↔◌}
use mathlib.Core.Bool.{Bool, true, false}
use mathlib.Core.List.{List, []}
use lib.Dec.{leb}
use lib.ListN.{length, drop}
use borrow.Author.Tests.{leb-true, leb-false, le-leb, lt-leb}
use native.Mathlib.Omega.{arith}
use Rattle.logic.specs.Limits.{most_words, most_nesting}
use Rattle.logic.specs.Refusals.{term_length, unbound, output_short}
use Rattle.logic.specs.Result.{Result, ok, refused, ◌>>=◌}
use Rattle.logic.specs.Term.{Term, binds, encode}
use Rattle.logic.specs.Check.{term_of}
use Rattle.logic.proofs.Searches.{stands_within}
use Rattle.logic.proofs.Results.{ok_inj, bound, tested, bind_is, pass}
use Rattle.logic.proofs.Stopped.{not_refused, stopped, failed, stop, fail, one_answer}
use Rattle.words.specs.Place.{after_write}
use Rattle.words.proofs.Lists.{written_behind}
use Rattle.editions.specs.Named.{Named, sign', encode', label, counted, erased}
use Rattle.editions.specs.Edition.{other, WordsOf', edition_term}
use Rattle.editions.specs.Convert.{relabel, convert, unname, fitting, from_named, to_named, converted}
use Rattle.editions.specs.Binders.{NamesGiven}
use Rattle.editions.specs.Refuses.{ConvertRefused, convert_6, convert_7, convert_8, convert_24, convert_25, Converts, ConvertersDemand}
use Rattle.editions.specs.declared.Edition.{Edition}
use Rattle.editions.specs.declared.Edition.TheVariants.{Counts, Names}
use Rattle.editions.proofs.Means.{Means, means_atom, means_var, means_sign, means_node, convert_means, means_size}
use Rattle.editions.proofs.Words.{encode_size', erased_size, counted_words}
use Rattle.editions.proofs.Editions.{edition_term_right, counts_term}
use Rattle.editions.proofs.Malformed.{tests_refused, refused_6, refused_7, refused_8}
use Rattle.editions.proofs.Unbound.{variable_within, convert_refused, convert_bound}
use Rattle.editions.proofs.Same.{few, kept, well_formed, one_result}
use Rattle.editions.proofs.Back.{named_by_count}

-- ---- both calls read a term, convert it and look whether it fits

abbrev pub converted_in_turn : Edition → List ℕ → ℕ → Result (List ℕ)
converted_in_turn e ws room = edition_term e ws >>= λ s. convert e [] 0 s >>= λ t. fitting room (encode' t)

to_named_is : (ws : List ℕ) (room : ℕ) → to_named ws room ≡ converted_in_turn Counts ws room
to_named_is ws room = go (term_of most_words most_nesting ws) ∙ sym (ap (λ r. r >>= rest) (counts_term ws))
  where
    rest : Named → Result (List ℕ)
    rest s = convert Counts [] 0 s >>= λ t. fitting room (encode' t)

    go : (r : Result Term) → (r >>= λ t. rest (counted t)) ≡ ((r >>= λ t. ok (counted t)) >>= rest)
    go (ok t) = refl
    go (refused m p) = refl

-- a binder's name is 0 in what names are converted into
zero_label : (b : Bool) (ns : List ℕ) → label b 0 ≡ relabel Names b ns
zero_label true ns = refl
zero_label false ns = refl

names_counted : {ns : List ℕ} {s t : Named} → Means Names ns s t → counted (erased t) ≡ t
unfolding counted erased
names_counted means_atom = refl
names_counted (means_var m) = refl
names_counted (means_sign {p = p} m) = ap (sign' p) (names_counted m)
names_counted (means_node {ns = ns} {o = o} m n) = rw (zero_label (binds o) ns, names_counted m, names_counted n)

from_named_is : (ws : List ℕ) (room : ℕ) → from_named ws room ≡ converted_in_turn Names ws room
from_named_is ws room = go (edition_term Names ws)
  where
    step : (s : Named) (u : Result Named) → convert Names [] 0 s ≡ u →
        (u >>= (λ t. ok (erased t)) >>= λ t. fitting room (encode t)) ≡ (u >>= λ t. fitting room (encode' t))
    step s (ok t) q = ap (fitting room) (sym (counted_words (erased t)) ∙ ap encode' (names_counted (convert_means Names s [] 0 q)))
    step s (refused m p) q = refl

    go : (r : Result Named) → (r >>= λ s. unname s >>= λ t. fitting room (encode t)) ≡ (r >>= λ s. convert Names [] 0 s >>= λ t. fitting room (encode' t))
    go (ok s) = step s (convert Names [] 0 s) refl
    go (refused m p) = refl

pub converted_is : (e : Edition) (ws : List ℕ) (room : ℕ) → converted e ws room ≡ converted_in_turn e ws room
converted_is Names = from_named_is
converted_is Counts = to_named_is

-- ---- what they answer

names_given : (e : Edition) (s t : Named) → convert e [] 0 s ≡ ok t → NamesGiven e t
names_given Names s t q = tt
names_given Counts s t q = named_by_count s t q

module _ (e : Edition) (ws : List ℕ) (room : ℕ) where
  same_length : (s t : Named) → WordsOf' e ws s → convert e [] 0 s ≡ ok t → length (encode' t) ≡ length ws
  same_length s t h q = encode_size' t ∙ means_size (convert_means e s [] 0 q) ∙ sym (encode_size' s) ∙ ap length (sym h.words)

  in_turn_right : (xs : List ℕ) → (converted_in_turn e ws room ≡ ok xs) ↔ Converts e ws room xs
  in_turn_right xs = (
    (λ q. bound (edition_term e ws) _ q λ s q₁ q₂. bound (convert e [] 0 s) _ q₂ λ t q₃ q₄. tested (leb (length (encode' t)) room) _ _ _ q₄ λ l q₅.
        let h = (edition_term_right e ws s).0 q₁ in
        let n = same_length s t h q₃ in
        let k = leb-true (length (encode' t)) room l in
        record {
          s = s;
          t = t;
          term = h;
          bound = (convert_bound e s).0 (t, q₃);
          result = subst (λ xs. WordsOf' (other e) xs t) (ok_inj q₅) (well_formed e ws s t h q₃);
          preserved = kept e s t h.plain (few h) q₃;
          names = names_given e s t q₃;
          fits = omega arith;
        }),
    (λ c. let (t, q) = (convert_bound e c.s).1 c.bound in
        let n = same_length c.s t c.term q in
        let o = one_result e c.s t c.t c.term.plain c.result.plain (few c.term) q c.preserved c.names in
        bind_is _ ((edition_term_right e ws c.s).1 c.term) (bind_is _ q
        (pass _ _ (le-leb (length (encode' t)) room (omega (arith, c.fits))) (ap ok (ap encode' o ∙ sym c.result.words))))),
  )

  in_turn_length : (xs : List ℕ) → converted_in_turn e ws room ≡ ok xs → length xs ≡ length ws
  in_turn_length xs q = bound (edition_term e ws) _ q λ s q₁ q₂. bound (convert e [] 0 s) _ q₂ λ t q₃ q₄.
      tested (leb (length (encode' t)) room) _ _ _ q₄ λ l q₅. ap length (sym (ok_inj q₅)) ∙ same_length s t ((edition_term_right e ws s).0 q₁) q₃

  refused_right : {m p : ℕ} → ConvertRefused e ws room m p → converted_in_turn e ws room ≡ refused m p
  refused_right (convert_6 h) = stop _ (refused_6 e ws h)
  refused_right (convert_7 {p = p} g h) = stop _ (refused_7 e ws p g h)
  refused_right (convert_8 {p = p} g h) = stop _ (refused_8 e ws p g h)
  refused_right (convert_24 {s = s} {p = p} h f) = bind_is _ ((edition_term_right e ws s).1 h) (stop _ ((convert_refused e s unbound p).1 (refl, f)))
  refused_right (convert_25 {s = s} h f l) =
      let (t, q) = (convert_bound e s).1 f in
      let n = same_length s t h q in
      bind_is _ ((edition_term_right e ws s).1 h) (bind_is _ q (fail _ _ _ (lt-leb (length (encode' t)) room (omega arith))))

  right_refused : (m p : ℕ) → converted_in_turn e ws room ≡ refused m p → ConvertRefused e ws room m p
  right_refused m p q =
      stopped (edition_term e ws) _ q (tests_refused e ws room m p) λ s q₁ q₂.
      let h = (edition_term_right e ws s).0 q₁ in
      stopped (convert e [] 0 s) _ q₂ (λ q₃. let (n, f) = (convert_refused e s m p).0 q₃ in rw n (convert_24 h f)) λ t q₃ q₄.
      let n = same_length s t h q₃ in
      let l = leb-false (length (encode' t)) room in
      failed (leb (length (encode' t)) room) _ _ _ q₄ (λ b x y. rw (x, y) (convert_25 h ((convert_bound e s).0 (t, q₃)) (omega (arith, l b))))
      λ b q₅. absurd (not_refused q₅)

  in_turn_refused : (m p : ℕ) → (converted_in_turn e ws room ≡ refused m p) ↔ ConvertRefused e ws room m p
  in_turn_refused m p = (right_refused m p, refused_right)

-- every refusal has one of the numbers, and a place within the term's words or just behind them
pub converted_bound : (e : Edition) (ws : List ℕ) (room m p : ℕ) → converted e ws room ≡ refused m p →
    (term_length ≤ m) × (m ≤ output_short) × (p ≤ length ws)
converted_bound e ws room m p z = go ((in_turn_refused e ws room m p).0 (sym (converted_is e ws room) ∙ z))
  where
    go : {m p : ℕ} → ConvertRefused e ws room m p → (term_length ≤ m) × (m ≤ output_short) × (p ≤ length ws)
    go (convert_6 l) = (omega arith, omega arith, omega arith)
    go (convert_7 l M) = (omega arith, omega arith, M.within)
    go (convert_8 l D) =
        let (i, d) = stands_within D.first.deep in
        (omega arith, omega arith, omega (arith, D.first.place, erased_size D.s, encode_size' D.s, ap length D.words))
    go (convert_24 {s} w F) = let l = variable_within F.stands in (omega arith, omega arith, omega (arith, encode_size' s, ap length w.words))
    go (convert_25 w b l) = (omega arith, omega arith, omega arith)

past : (e : Edition) (ws xs old : List ℕ) → converted e ws (length old) ≡ ok xs →
    (length xs ≡ length ws) × (drop (length ws) (after_write (converted e ws (length old)) old) ≡ drop (length ws) old)
past e ws xs old z =
    let l = in_turn_length e ws (length old) xs (sym (converted_is e ws (length old)) ∙ z) in
    (l, written_behind old _ xs (length ws) (ap (λ r. after_write r old) z) (sym l))

pub converters : ConvertersDemand
converters = record {
  answers = λ e ws room. rw (converted_is e ws room) (one_answer (converted_in_turn e ws room) (in_turn_right e ws room) (in_turn_refused e ws room));
  unchanged = λ e {ws} {room} old h. ap (λ r. after_write r old) (converted_is e ws room ∙ refused_right e ws room h);
  past = past;
}

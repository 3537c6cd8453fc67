-- The guards hold, by computing; those on binders by their definition or by the laws.
use Prim.Native.Nat.{ℕ, suc}
use mathlib.Core.Path.{◌≡◌, refl, sym, ap}
use mathlib.Core.Logic.{◌↔◌}
use mathlib.Core.List.{List}
use lib.ListN.{get_or}
use native.Mathlib.Omega.{arith}
use Rattle.logic.specs.Result.{ok, number_of}
use Rattle.logic.specs.Term.{payload_of, encode, size}
use Rattle.logic.specs.Reading.{read, too_deep}
use Rattle.logic.proofs.Basics.{clash}
use Rattle.editions.specs.Named.{Named, var', encode', size', counted, erased}
use Rattle.editions.specs.Edition.{labels, edition_term}
use Rattle.editions.specs.Convert.{nearest, convert, from_named, Closed}
use Rattle.editions.specs.Binders.{free, free_first, free_second, binder, binder_second, NamedAt, named, named_signed}
use Rattle.editions.specs.Binders.{named_first, named_second, OnlyNames}
use Rattle.editions.specs.declared.Edition.TheVariants.{Names}
use Rattle.editions.specs.Guards.{lam, lams, NamedGuards}
use Rattle.editions.proofs.Editions.{edition_term_right}
use Rattle.editions.proofs.Unbound.{convert_refused}
use Rattle.editions.proofs.Refuses.{converters}
use Rattle.editions.proofs.Laws.{laws}

-- the law on two named terms that convert
by_words : (s t : Named) {xs ys : List ℕ} → edition_term Names (encode' s) ≡ ok s → edition_term Names (encode' t) ≡ ok t →
    from_named (encode' s) 5 ≡ ok xs → from_named (encode' t) 5 ≡ ok ys → (xs ≡ ys) ↔ OnlyNames s t
by_words s t h k = laws.same_words (encode' s) (encode' t) _ _ 5 5 s t ((edition_term_right Names _ s).0 h) ((edition_term_right Names _ t).0 k)

-- Lam k P b in the body of k binders
lam_by_count : (k : ℕ) (b : Named) → ((x d j : ℕ) → NamedAt x d (suc k) j b → x ≡ d) → (x d j : ℕ) → NamedAt x d k j (lam k b) → x ≡ d
lam_by_count k b h x d j (named c) = c
lam_by_count k b h x d j (named_first c) = elim c [ ]
lam_by_count k b h x d j (named_second {j = i} c) = h x d i c

no_binder_there : {x d k j y : ℕ} → NamedAt x d k j (var' y) → ⊥
no_binder_there = elim [ ]

pub named_guards : NamedGuards
unfolding read too_deep encode size encode' size' counted erased labels nearest convert Closed lams
named_guards = record {
  rule_named = refl;
  rule_back = refl;
  nearest_of_two = refl;
  nearer_of_another = refl;
  no_names_in_sign = refl;
  names_behind_sign = refl;
  no_counts_in_sign = refl;
  anew_in_sign = refl;
  domain_outside = refl;
  lam_domain_outside = refl;
  proof_outside = refl;
  count_outside = refl;
  named_in_domain = refl;
  first_unbound = refl;
  count_unbound = refl;
  unbound_first = refl;
  one_short = refl;
  exact = refl;
  back_one_short = refl;
  any_name = refl;
  no_name_on_says = refl;
  no_payload_on_pi = refl;
  no_name_on_pi = refl;
  empty = refl;
  back_empty = refl;
  missing_first = refl;
  nested_32 = refl;
  nested_33 = refl;
  back_nested_33 = refl;
  past = refl;
  back_past = refl;
  not_written = refl;
  back_not_written = refl;
  binder_of_body = binder_second (binder refl free);
  binder_of_domain = binder refl (free_first free);
  binder_counted = binder refl (free_second refl free);
  no_binder = ((convert_refused Names _ 24 1).0 refl).1.alone;
  hidden = λ b. let e = laws.one_binder b (binder_second (binder refl free)) in omega arith;
  first_of_two = ((convert_refused Names _ 24 1).0 refl).1;
  not_short_yet = λ r. let e = ap number_of (((converters.answers Names _ 0).refuses 25 0).1 r) in omega arith;
  closed_in_sign = (tt, (tt, omega arith));
  open_in_sign = λ c. let l = c.1 in omega arith;
  counted_in_body = named_second (named refl);
  counted_in_domain = named_first (named refl);
  counted_in_sign = named_second (named_second (named_signed (named refl)));
  counted_further_in = named_second (named_second (named_signed (named_second (named refl))));
  by_count = lam_by_count 0 _ (lam_by_count 1 (var' 0) λ x d j c. absurd (no_binder_there c));
  not_by_count = λ h. let e = h 2 1 2 (named_second (named refl)) in omega arith;
  other_names = (by_words _ _ refl refl refl refl).0 refl;
  other_binder = λ o. clash (ap (λ xs. payload_of (get_or xs 4 0)) (sym ((by_words _ _ refl refl refl refl).1 o)));
}

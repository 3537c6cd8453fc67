-- What the tests of `infer` stand for.
use Prim.Native.Nat.{ℕ}
use mathlib.Core.Path.{◌≡◌, refl, ap}
use mathlib.Core.Logic.{inl, inr}
use mathlib.Core.Bool.{true, ◌||◌}
use mathlib.Core.Option.{Option, some, none}
use lib.Dec.{leb}
use borrow.Author.Tests.{leb-true, le-leb}
use Rattle.logic.specs.Limits.{most_type_words}
use Rattle.logic.specs.Result.{Result, ok, ◌>>◌, require}
use Rattle.logic.specs.Term.{Op-discrete, Op, Term, atom, var, sign, node, P, T', KindP, size}
use Rattle.logic.specs.Typing.{DomainSort, of_type, of_prop, of_kind, BodySort, body_prop, body_kind}
use Rattle.logic.specs.Infer.{same_term, same, measured, domain, body, Parts, parts}
use Rattle.logic.specs.Measured.{TypeSmall}
use Rattle.logic.proofs.Basics.{clash, some_inj}
use Rattle.logic.proofs.Results.{ok_inj, tested, pass, or_cases}
use Rattle.logic.proofs.Proposition.{same_true}

pub measured_ok : {A B : Term} (at : ℕ) → measured at A ≡ ok B → TypeSmall A × (A ≡ B)
measured_ok {A} at e = tested (leb (size A) most_type_words) _ at (ok A) e λ s f. (leb-true (size A) most_type_words s, ok_inj f)

pub measured_small : {A : Term} (at : ℕ) → TypeSmall A → measured at A ≡ ok A
measured_small {A} at s = pass _ at (le-leb (size A) most_type_words s) refl

pub parts_some : (o : Op) (t : Term) {p : Parts} → parts o t ≡ some p → t ≡ node o p.left p.right
parts_some o (atom a) e = absurd (clash (cc))
parts_some o (var n) e = absurd (clash (cc))
parts_some o (sign n q) e = absurd (clash (cc))
parts_some o (node h a b) {p} e = go (Op-discrete o h) e
  where
    go : (d : Dec (o ≡ h)) → elim d as (λ u. Option Parts) [ yes _ ↦ some (record { left = a; right = b }) | no _ ↦ none ] ≡ some p
        → node h a b ≡ node o p.left p.right
    go (yes q) e = let f = some_inj e in cc (ap (λ p. p.left) f, ap (λ p. p.right) f)
    go (no n) e = absurd (clash (cc))

pub domain_ok : (s : Term) → domain s ≡ true → DomainSort s
domain_ok s e = elim (or_cases (same s T' || same s P) (same s KindP) e) [
  | inr f ↦ rw (same_true s KindP f) of_kind
  | inl f ↦ elim (or_cases (same s T') (same s P) f) [ inl g ↦ rw (same_true s T' g) of_type | inr g ↦ rw (same_true s P g) of_prop ]
]

pub domain_is : {s : Term} → DomainSort s → domain s ≡ true
unfolding same_term
domain_is of_type = refl
domain_is of_prop = refl
domain_is of_kind = refl

pub body_ok : (r : Term) → body r ≡ true → BodySort r
body_ok r e = elim (or_cases (same r P) (same r KindP) e) [ inl f ↦ rw (same_true r P f) body_prop | inr f ↦ rw (same_true r KindP f) body_kind ]

pub body_is : {r : Term} → BodySort r → body r ≡ true
unfolding same_term
body_is body_prop = refl
body_is body_kind = refl

pub same_tested : {Z : Type 0} (s t : Term) (m p : ℕ) (r : Result Term) {A : Term} → (require (same s t) m p >> r) ≡ ok A → (s ≡ t → r ≡ ok A → Z) → Z
same_tested s t m p r e f = tested (same s t) m p r e λ q. f (same_true s t q)

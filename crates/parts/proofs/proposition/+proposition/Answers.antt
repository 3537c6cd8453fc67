-- `proposition` tells whether a type's conclusion is none of the six sorts, by recursion on the body of a Pi. The
-- measure is the number of words from the type's place to the end of the list.
use Prim.Native.Nat.{ℕ, ◌<◌, ◌≤◌}
use mathlib.Core.Path.{◌≡◌, sym, subst, ◌∙◌}
use native.Mathlib.Omega.{arith}
use Rattle.std.proofs.lemmas.Bool.{eq-eqb, ne_eqb, lt-ltb, le-ltb}
use Rattle.logic.specs.Tags.{tag_variable, tag_pi, tag_bind}
use Rattle.words.specs.Typed.{TypeAt}
use Rattle.words.proofs.Types.{pi_at, no_pi, type_within}
use Rattle.parts.proofs.proposition.+proposition.Goals as goal

pub offset_bounds-words-at : goal.offset_bounds-words-at
offset_bounds-words-at t c = let r = type_within c.requires.here in omega arith

pub bounds-words-at : goal.bounds-words-at
bounds-words-at t c = type_within c.requires.here

pub skip-body-requires : goal.skip-body-requires
skip-body-requires t c = let p = pi_at _ _ _ _ c.tag_of.ensures c.requires.here (eq-eqb _ _ c.in-8.is) in record { term = p.domain; here = p.left }

pub proposition-requires : goal.proposition-requires
proposition-requires t c =
    let r = type_within c.requires.here in
    let p = pi_at _ _ _ _ c.tag_of.ensures c.requires.here (eq-eqb _ _ c.in-8.is) in
    let e = c.skip-body.ensures p.domain p.left in
    (omega arith, record { type = p.body; here = subst (λ (j : ℕ). TypeAt c.args.words.now j p.body) (sym e) p.right })

pub returns-in-8 : goal.returns-in-8
returns-in-8 t c =
    λ A h. let p = pi_at _ _ _ A c.tag_of.ensures h (eq-eqb _ _ c.in-8.is) in
    let e = c.skip-body.ensures p.domain p.left in
    c.proposition.ensures p.body (subst (λ (j : ℕ). TypeAt c.args.words.now j p.body) (sym e) p.right) ∙ sym p.same

pub returns-in-5-to-15 : goal.returns-in-5-to-15
returns-in-5-to-15 t c =
    let n = c.tag_of.result in
    let low : tag_variable ≤ n = omega arith in
    let high : n ≤ tag_bind = omega arith in
    λ A h. no_pi _ _ _ A _ c.tag_of.ensures h (ne_eqb _ _ (λ (e : n ≡ tag_pi). omega arith)) (simp (le-ltb _ _ low, le-ltb _ _ high))

pub returns-in_default : goal.returns-in_default
returns-in_default t c =
    let n = c.tag_of.result in
    let low : n < tag_variable = omega arith in
    λ A h. no_pi _ _ _ A _ c.tag_of.ensures h (ne_eqb _ _ (λ (e : n ≡ tag_pi). omega arith)) (simp (lt-ltb _ _ low))

pub returns-in_default-2 : goal.returns-in_default-2
returns-in_default-2 t c =
    let n = c.tag_of.result in
    let low : tag_variable ≤ n = omega arith in
    let high : tag_bind < n = omega arith in
    λ A h. no_pi _ _ _ A _ c.tag_of.ensures h (ne_eqb _ _ (λ (e : n ≡ tag_pi). omega arith)) (simp (le-ltb _ _ low, lt-ltb _ _ high))

-- The rows by the library's words, as pairs of words.
use Rattle.std.proofs.Common.{rules}
use borrow.Author.Tests.{tests, eqb-false, eqb-true}
use mathlib.Core.Path.{◌≡◌, sym, ◌∙◌}
use lib.Dec.{ltb}
use Rattle.std.specs.Bool.{◌==◌}
use mathlib.Core.Bool.{true}
use lib.ListN.{length, get_or}
use Rattle.std.proofs.lemmas.Iterator.{cases_from_all, YieldsList-from_slice}
use Rattle.std.proofs.lemmas.List.Sorted.{answers_always}
use Rattle.homes.specs.Homes.{no_survey}
use Rattle.homes.proofs.Forms.{rows_odd, rows_fall, rows_decided}
use Rattle.homes.proofs.rows_rise.Goals as goal

pub returns-then-not-is_empty : goal.returns-then-not-is_empty
returns-then-not-is_empty c =
    let r = c.as_chunks.ensures in
    rows_odd _ (λ z. eqb-false _ 0 (sym c.is_empty.ensures ∙ c.if-not-is_empty.true) (r.back_len ∙ z))

pub returns-then-is_sorted_by : goal.returns-then-is_sorted_by
returns-then-is_sorted_by c =
    let r = c.as_chunks.ensures in
    let e : (◌==◌ (length c.as_chunks.result.1.now) 0) ≡ true = sym c.is_empty.ensures ∙ c.if-not-is_empty.false in
    let z : length c.as_chunks.result.1.now ≡ 0 = eqb-true _ 0 e in
    rows_decided _ _ r.front r.front_len _ _ (sym r.back_len ∙ z)
    (c.is_sorted_by.ensures.cases (λ x y. ltb (get_or x 0 0) (get_or y 0 0)) (answers_always _ _ _ (λ f a r g k. search (rules, tests))))
    c.if-is_sorted_by.true
    (cases_from_all _ _ _ (λ x. get_or x 1 0 ≡ no_survey → ⊥) (λ x. get_or x 1 0 ≡ no_survey) c.all.ensures.ran (YieldsList-from_slice _ (cc))
    (λ x q k. search (rules, tests)) (λ x q k. search (rules, tests)))

pub returns-else-is_sorted_by : goal.returns-else-is_sorted_by
returns-else-is_sorted_by c =
    let r = c.as_chunks.ensures in
    rows_fall _ _ r.front r.front_len _
    (c.is_sorted_by.ensures.cases (λ x y. ltb (get_or x 0 0) (get_or y 0 0)) (answers_always _ _ _ (λ f a r g k. search (rules, tests))))
    c.if-is_sorted_by.false

-- `convert_term` converts the term that stands at a place, by recursion on its parts.
use Prim.Native.Nat.{ℕ, ◌+◌, ◌≤◌, ◌<◌}
use mathlib.Core.Path.{◌≡◌, sym, ap, subst, ◌∙◌}
use mathlib.Core.List.{List}
use native.Mathlib.Omega.{arith}
use lib.ListN.{length, length-set, set}
use Rattle.std.proofs.Common.{rules}
use Rattle.logic.specs.Limits.{most_nesting}
use Rattle.logic.specs.Answer.{answer}
use Rattle.logic.specs.declared.word.Class.TheVariants.{Variable}
use Rattle.logic.proofs.Answers.{refusal, handed_on}
use Rattle.logic.proofs.Searches.{depth_pos}
use Rattle.editions.specs.Named.{erased}
use Rattle.editions.specs.Convert.{meaning}
use Rattle.editions.specs.declared.Edition.{Edition}
use Rattle.editions.proofs.Scopes.{meaning_below}
use Rattle.named.specs.Answers.{in_scope, meant, EditionAt, Convertible}
use Rattle.named.proofs.Scopes.{there, missing}
use Rattle.named.proofs.Places.{edition_within}
use Rattle.named.proofs.Writes.{Writes, var_bound, var_unbound, atom_wrote, sign_wrote, first_refused, first_end, node_wrote}
use Rattle.named.proofs.Writes.{entered_scope, signed_convertible, children}
use Rattle.named.proofs.convert.+convert_term.Goals as goal

-- the place is within both lists
record Room (ws : List ℕ) (at : ℕ) (names out : List ℕ) : Type 0 where
  within : at < length ws
  room : length ws ≤ length out
  few : length names < most_nesting

room : {e : Edition} {ws : List ℕ} {at : ℕ} {names out : List ℕ} → Convertible e ws at names out → Room ws at names out
room p = let d = depth_pos (erased p.s) in record { within = edition_within p.here; room = p.room; few = omega (arith, p.deep) }

pub offset_bounds-words-at : goal.offset_bounds-words-at
offset_bounds-words-at t c = let r = room c.requires in omega arith

pub bounds-words-at : goal.bounds-words-at
bounds-words-at t c = let r = room c.requires in omega arith

-- ---- a variable

pub returns-in_err-meant : goal.returns-in_err-meant
returns-in_err-meant t c =
    let h = missing c.meaning.result c.at.result _ (sym c.ok_or.ensures.value ∙ c.in_err-meant.was) in
    let k : c.class_of-class.result ≡ Variable = search rules in
    var_unbound _ _ _ _ _ _ _ c.unnamed.ensures c.class_of-class.ensures _ k
    (ap meant (sym h.0) ∙ c.meaning.ensures ∙ ap (λ x. meaning c.args.edition x (in_scope c.args.scope.now)) c.payload_of.ensures)
    (handed_on _ _ c.from_residual.ensures ∙ ap refusal (sym h.1 ∙ c.at.ensures))

pub overflow_add-out : goal.overflow_add-out
overflow_add-out t c =
    let h = there c.meaning.result c.at.result _ (sym c.ok_or.ensures.value ∙ c.in_ok-meant.was) in
    let l = meaning_below c.args.edition (in_scope c.args.scope.now) _ _ c.requires.scoped (sym c.meaning.ensures ∙ ap meant h) in
    let r = room c.requires in
    omega arith

pub returns-then-eq : goal.returns-then-eq
returns-then-eq t c =
    let h = there c.meaning.result c.at.result _ (sym c.ok_or.ensures.value ∙ c.in_ok-meant.was) in
    let k : c.class_of-class.result ≡ Variable = search rules in
    let r = room c.requires in
    var_bound _ _ _ _ _ _ _ c.unnamed.ensures c.class_of-class.ensures _ k (omega arith)
    (ap meant (sym h) ∙ c.meaning.ensures ∙ ap (λ x. meaning c.args.edition x (in_scope c.args.scope.now)) c.payload_of.ensures)

-- ---- another word

pub offset_bounds-out-at-2 : goal.offset_bounds-out-at-2
offset_bounds-out-at-2 t c = let r = room c.requires in omega arith

pub bounds-out-at-2 : goal.bounds-out-at-2
bounds-out-at-2 t c = let r = room c.requires in omega arith

pub overflow_add-result-in_default : goal.overflow_add-result-in_default
overflow_add-result-in_default t c = let r = room c.requires in omega arith

pub returns-in_default : goal.returns-in_default
returns-in_default t c =
    let r = room c.requires in
    atom_wrote _ _ _ _ _ _ _ c.unnamed.ensures c.class_of-class.ensures _ c.relabelled.ensures (omega arith)
    (search rules) c.in_default.not-Sign c.in_default.not-Node c.in_default.not-Binder

pub convert_term-requires : goal.convert_term-requires
convert_term-requires t c =
    let p = c.requires in
    let r = room p in
    let l = length-set c.args.out.now c.args.at c.relabelled.result in (
      omega arith,
      signed_convertible _ _ _ _ _ _ _ c.unnamed.ensures c.class_of-class.ensures (omega arith) p.s p.here p.deep c.in-Sign.is _ c.new.ensures,
    )

pub returns-in-Sign : goal.returns-in-Sign
returns-in-Sign t c =
    let r = room c.requires in
    sign_wrote _ _ _ _ _ _ _ c.unnamed.ensures c.class_of-class.ensures _ c.relabelled.ensures (omega arith) _ _ c.in-Sign.is
    (subst (λ ns. Writes c.args.edition c.args.words.now (c.args.at + 1) ns (set c.args.out.now c.args.at c.relabelled.result)
    c.convert_term.new.out (answer c.convert_term.result)) c.new.ensures c.convert_term.ensures)

pub overflow_add-at-in-Node : goal.overflow_add-at-in-Node
overflow_add-at-in-Node t c = let r = room c.requires in omega arith

pub convert_term-requires-in-Node : goal.convert_term-requires-in-Node
convert_term-requires-in-Node t c =
    let p = c.requires in
    let r = room p in
    let l = length-set c.args.out.now c.args.at c.relabelled.result in
    let n = children _ _ _ _ _ _ _ c.unnamed.ensures c.class_of-class.ensures p.room p.s p.here p.deep c.in-Node.is in
    (omega arith, record { scoped = p.scoped; s = n.first; here = n.first_here; room = omega arith; deep = n.first_deep })

pub returns-in_err-next-in-Node : goal.returns-in_err-next-in-Node
returns-in_err-next-in-Node t c =
    let r = room c.requires in
    first_refused _ _ _ _ _ _ _ c.unnamed.ensures c.class_of-class.ensures _ c.relabelled.ensures (omega arith) c.in-Node.is _ _
    c.convert_term-in-Node.ensures _ _ _ (ap answer c.in_err-next-in-Node.was) (handed_on _ _ c.from_residual-in_err-next-in-Node.ensures)

pub entered-inner-requires : goal.entered-inner-requires
entered-inner-requires t c = let r = room c.requires in r.few

pub convert_term-requires-in-Node-2 : goal.convert_term-requires-in-Node-2
convert_term-requires-in-Node-2 t c =
    let p = c.requires in
    let r = room p in
    let l = length-set c.args.out.now c.args.at c.relabelled.result in
    let n = children _ _ _ _ _ _ _ c.unnamed.ensures c.class_of-class.ensures p.room p.s p.here p.deep c.in-Node.is in
    let e = first_end _ _ _ _ _ _ _ c.unnamed.ensures c.class_of-class.ensures _ c.relabelled.ensures (omega arith) c.in-Node.is _ _
    c.convert_term-in-Node.ensures _ n.first
    (ap answer c.in_ok-next-in-Node.was) n.first_here in
    let m = c.convert_term-in-Node.auto.out in
    let w = edition_within n.second_here in (
      omega arith,
      record {
        scoped = entered_scope _ _ _ _ _ p.scoped c.entered-inner.ensures;
        s = n.second;
        here = subst (λ i. EditionAt c.args.edition c.args.words.now i n.second) (sym e) n.second_here;
        room = omega arith;
        deep = n.second_deep _ c.entered-inner.ensures;
      },
    )

pub returns-in_ok-next-in-Node : goal.returns-in_ok-next-in-Node
returns-in_ok-next-in-Node t c =
    let r = room c.requires in
    node_wrote _ _ _ _ _ _ _ c.unnamed.ensures c.class_of-class.ensures _ c.relabelled.ensures (omega arith) c.in-Node.is _ _
    c.convert_term-in-Node.ensures _ _ _ _ (ap answer c.in_ok-next-in-Node.was) c.entered-inner.ensures c.convert_term-in-Node-2.ensures

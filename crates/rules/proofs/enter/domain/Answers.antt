-- `domain` tells whether a type that begins with the word is one that a domain may have.
use mathlib.Core.Logic.{inl, inr}
use mathlib.Core.Path.{sym, ap, ◌∙◌}
use Rattle.rules.proofs.Enters.{domain_word, domain_first}
use Rattle.rules.proofs.enter.domain.Goals as goal

pub returns-in-33554432 : goal.returns-in-33554432
returns-in-33554432 c = λ A p e. elim c.in-33554432.is [
  | inl x ↦ ap domain_word (sym x) ∙ domain_first A _ p e
  | inr y ↦ elim y [
    | inl x ↦ ap domain_word (sym x) ∙ domain_first A _ p e
    | inr x ↦ ap domain_word (sym x) ∙ domain_first A _ p e
  ]
]

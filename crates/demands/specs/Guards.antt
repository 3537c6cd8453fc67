-- The theorems that guard definitions by literals and examples, a sentence of the documents at a time.
use Rattle.std.specs.Prelude.{List}
use Rattle.logic.specs.Term.{Term}
use Rattle.logic.specs.Scope.{Signature}
use Rattle.logic.specs.Worked.{Starred}
use Rattle.logic.specs.Order.{Order}
use Rattle.logic.specs.Sentences.{Sentences}
use Rattle.logic.specs.WholeProperty.{WholeProperty}
use Rattle.logic.specs.SeparateRefusals.{SeparateRefusals, SeparateExamples}
use Rattle.logic.specs.FreeVariables.{FreeExamples}
use Rattle.register.specs.Shape.{Shape}
use Rattle.register.specs.Worked.{WorkedRegister, WorkedDays}
use Rattle.register.specs.Order.{CallOrder}
use Rattle.register.specs.BatchGuards.{BatchGuards}
use Rattle.register.specs.HistoryGuards.{HistoryGuards}
use Rattle.register.specs.MarkGuards.{MarkGuards}
use Rattle.register.specs.Paper.{PaperNumbers}
use Rattle.decimal.specs.Guards.{DecimalGuards}
use Rattle.homes.specs.Guards.{HomesGuards}
use Rattle.extract.specs.Guards.{ExtractGuards}
use Rattle.editions.specs.Guards.{NamedGuards}
use Rattle.uses.specs.Guards.{UsesGuards}
use Rattle.reduction.specs.Guards.{SimplifyGuards}

pub record DefinitionGuards : Type 0 where
  -- every number of the documents; document 01's starred proofs and its worked register
  pub numbers : PaperNumbers
  pub starred : Starred
  pub worked : WorkedRegister
  -- the rules; the order of the tests; test 3
  pub rules : Sentences
  pub term_order : Order
  pub call_order : CallOrder
  pub shapes : Shape
  -- lists of calls
  pub histories : HistoryGuards
  -- document 02's slips 1, 2, 3 and 5 to 10
  pub whole_property : WholeProperty
  pub separate_refusals : (Σ : List Term) → Signature Σ → SeparateRefusals Σ
  pub separate_examples : SeparateExamples
  pub decimals : DecimalGuards
  pub homes : HomesGuards
  pub extracts : ExtractGuards
  pub days : WorkedDays
  pub names : NamedGuards
  pub batches : BatchGuards
  pub free_variables : FreeExamples
  pub counts : UsesGuards
  pub simplified : SimplifyGuards
  pub marks : MarkGuards

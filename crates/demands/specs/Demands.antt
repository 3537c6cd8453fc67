-- What is proved on the definitions, in one record: the three demands, of the calls on the register, of the extract
-- desk, of the converters, of the count of free variables, of simplified terms and of lists of calls; the theorems beside
-- them; those of the logic; and the guards. proofs/Fields takes each claim on calls field by field, so that one that
-- loses a field is refused there.
use Rattle.std.specs.Prelude.{ℕ, List}
use Rattle.logic.specs.Term.{Term}
use Rattle.logic.specs.Scope.{Signature}
use Rattle.register.specs.Records.{Ask}
use Rattle.register.specs.Calls.{Lent}
use Rattle.register.specs.Succeeds.{Demand2}
use Rattle.register.specs.Refuses.{Demand1}
use Rattle.register.specs.Leaves.{Leaving}
use Rattle.register.specs.Stated.{StatedRight}
use Rattle.register.specs.Verdict.{Verdicts}
use Rattle.register.specs.Lapse.{Lapses}
use Rattle.register.specs.Batch.{Batches}
use Rattle.register.specs.BatchTests.{TestedOnce}
use Rattle.register.specs.History.{Call, Demand3}
use Rattle.register.specs.Unread.{Unread}
use Rattle.register.specs.Trials.{TrialDemand3, BackToMark, NoMarkLaw}
use Rattle.homes.specs.Right.{WritingStep}
use Rattle.extract.specs.Demands.{ExtractDemands}
use Rattle.extract.specs.Desk.{DeskCall, DeskDemand3, DeskTrialDemand3, DeskNoMarkLaw}
use Rattle.editions.specs.Laws.{Laws}
use Rattle.editions.specs.Refuses.{ConvertersDemand}
use Rattle.uses.specs.Demands.{UsesDemand}
use Rattle.reduction.specs.Refuses.{SimplifyDemands}
use Rattle.reduction.specs.Laws.{SimplifyLaws}
use Rattle.demands.specs.Logic.{WordLaws, Metatheory}
use Rattle.demands.specs.Bounds.{Bounds}
use Rattle.demands.specs.Guards.{DefinitionGuards}

pub record Demands : Type 0 where
  -- the first and the second demand, of the calls on the register, of the extract desk, of the two converters, of the
  -- count of free variables and of simplified terms
  pub refuses : Demand1
  pub succeeds : Demand2
  pub extracts : (l : Lent) (reg : List ℕ) (k : Ask) (hs t : List ℕ) (room : ℕ) → ExtractDemands l reg k hs t room
  pub converts : ConvertersDemand
  pub counts : UsesDemand
  pub simplifies : SimplifyDemands
  -- the third demand, also of lists with extracts, and of both with marks and returns
  pub lists : Demand3
  pub desk_lists : DeskDemand3
  pub trial_lists : TrialDemand3
  pub desk_trial_lists : DeskTrialDemand3
  -- where a return leads, and lists of calls where no mark can be set
  pub back : BackToMark Call
  pub desk_back : BackToMark DeskCall
  pub unmarked_lists : NoMarkLaw
  pub desk_unmarked_lists : DeskNoMarkLaw
  -- words past the used count are unread
  pub unread : Unread
  -- what calls that succeed leave, what records state, what a verdict depends on, what lapses
  pub leaves : Leaving
  pub states : StatedRight
  pub depends : Verdicts
  pub lapses : Lapses
  -- which numbers and places a refusal has at all
  pub bounds : Bounds
  -- batches, and their tests without writing
  pub batches : Batches
  pub once : TestedOnce
  -- the writing step, the laws of conversion and those of steps
  pub writes : WritingStep
  pub laws : Laws
  pub steps : SimplifyLaws
  -- the logic
  pub words : WordLaws
  pub metatheory : (Σ : List Term) → Signature Σ → Metatheory Σ
  -- examples
  pub guards : DefinitionGuards

-- `binder` searches the entry of variable n, by a loop over entries. The invariant (`BinderFound`): from `kept` on,
-- the words kept are the entries of the binders behind the first n - left. The measure is `kept`.
use mathlib.Core.List.{List}
use Prim.Native.Nat.{ℕ, ◌-◌, ◌≤◌}
use Rattle.logic.specs.Term.{Term}
use Rattle.rules.specs.Scope.{scope_words, Binders}
use Rattle.rules.specs.Variable.{BinderFound}
use Rattle.rules.proofs.scope.binder.Given as goal

abbrev pub invariant-loop-kept : goal.invariant-loop-kept
invariant-loop-kept l =
    (l.left ≤ l.n) × ((proof : List ℕ) (Γ : List Term) → Binders proof (scope_words l.floor l.used l.ws) Γ → BinderFound proof l.ws l.floor l.used
    (l.n - l.left) Γ l.kept)

abbrev pub decreases-loop-kept : goal.decreases-loop-kept
decreases-loop-kept l = l.kept

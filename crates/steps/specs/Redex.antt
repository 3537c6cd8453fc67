-- Where the first step of a term is taken.
use Rattle.std.specs.Prelude.{ℕ, ◌+◌, ◌≤◌, cond, List, Some, None}
use Rattle.std.specs.Prelude.{Option as Maybe}
use Rattle.std.proofs.Math.Option.{Option, some, none, map}
use Rattle.logic.specs.Limits.{payloads}
use Rattle.logic.specs.Term.{Term, atom, var, sign, node, size}
use Rattle.logic.specs.Reading.{or_else}
use Rattle.words.specs.Place.{At}
use Rattle.reduction.specs.Steps.{contracted, steps_first, steps_second}

-- a term stands at a place, and there is room for a copy of it
pub record TermWithRoom (ws : List ℕ) (at len : ℕ) : Type 0 where
  pub term : Term
  pub here : At ws at term
  pub few : size term ≤ payloads
  pub room : size term ≤ len

-- the place of the first step of a term that begins at the place `at`: where `next_step` of `reduction` takes it
unfoldable pub first_place : ℕ → Term → Option ℕ
first_place at (atom a) = none
first_place at (var n) = none
first_place at (sign n q) = none
first_place at (node o a b) =
    or_else (map (λ u. at) (contracted o a b)) (or_else (cond (steps_first o) (first_place (at + 1) a) none)
    (cond (steps_second o) (first_place (at + 1 + size a) b) none))

-- the values of each case
abbrev pub redex_answer : Maybe ℕ → Option ℕ
redex_answer (Some p) = some p
redex_answer None = none

-- What the code of an atom's type is asked and what it ensures.
use Rattle.std.specs.Prelude.{ℕ, ◌≤◌, ◌<◌, List, length}
use Rattle.std.proofs.Math.Option.{Option, some, none}
use Rattle.logic.specs.Limits.{most_words}
use Rattle.logic.specs.Term.{Atom, propA, typeA, stringA, prinA, kindPA, kindTA, constA, textA, nameA, Term}
use Rattle.rules.specs.Scope.{Declared}
use Rattle.rules.specs.Form.{front_words}

-- the type of an atom that is no constant is an atom
abbrev pub sort_of : Atom → Option Atom
sort_of propA = some kindPA
sort_of typeA = some kindTA
sort_of stringA = some typeA
sort_of prinA = some typeA
sort_of kindPA = none
sort_of kindTA = none
sort_of (constA n) = none
sort_of (textA n) = some stringA
sort_of (nameA n) = some prinA

pub record Constants (sig table ws : List ℕ) (at : ℕ) : Type 0 where
  pub Σ : List Term
  pub declared : Declared sig table Σ
  pub place : at < most_words
  pub room : front_words ≤ length ws

-- What the code that fills a term is asked and what it ensures.
use Rattle.std.specs.Prelude.{ℕ, ◌+◌, ◌≤◌, ◌≡◌, cond, List, length, leb, Option, Some, None}
use Rattle.logic.specs.Limits.{payloads}
use Rattle.logic.specs.Term.{Term, encode, size}
use Rattle.words.specs.Place.{At, Is, written_at}
use Rattle.moves.specs.declared.fill.Filled.{Filled}

-- a term stands at a place, the binders that are passed do not make c too big, and the filler's words are lent
pub record Fillable (ws : List ℕ) (at c : ℕ) (fs : List ℕ) : Type 0 where
  pub term : Term
  pub here : At ws at term
  pub deep : c + size term ≤ payloads
  pub filler : Term
  pub lends : Is fs filler
  pub short : length fs ≤ payloads

-- of t, which stands at a place, u is written from the place to on, if there is room
pub record FilledTo (t u : Term) (at : ℕ) (old : List ℕ) (to : ℕ) (new : List ℕ) (r : Option Filled) : Type 0 where
  pub answer : r ≡ cond (leb (to + size u) (length old)) (Some (record { next = at + size t; end = to + size u })) None
  pub words : to + size u ≤ length old → new ≡ written_at old to (encode u)

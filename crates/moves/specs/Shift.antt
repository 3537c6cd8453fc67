-- What the code that shifts a term is asked and what it ensures.
use Rattle.std.specs.Prelude.{ℕ, ◌+◌, ◌≤◌, ◌≡◌, List, length, ℤ, nat_abs}
use Rattle.logic.specs.Limits.{payloads}
use Rattle.logic.specs.Term.{Term, encode, size}
use Rattle.logic.specs.Move.{shift, free_from}
use Rattle.words.specs.Place.{At, Is, written_at}
use Rattle.moves.specs.declared.shift.Shift.{Shift}

-- a term stands at a place, there is room for its words, and its variables' numbers stay far below 2 ^ 31
pub record Shiftable (ws : List ℕ) (at c : ℕ) (z : ℤ) (room : ℕ) : Type 0 where
  pub term : Term
  pub here : At ws at term
  pub fits : size term ≤ room
  pub deep : c + size term ≤ payloads + payloads
  pub near : nat_abs z ≤ payloads

-- ws is the words of a term, there is room for them, and its variables' numbers stay far below 2 ^ 31
pub record ShiftableWhole (ws : List ℕ) (c : ℕ) (z : ℤ) (room : ℕ) : Type 0 where
  pub term : Term
  pub whole : Is ws term
  pub fits : length ws ≤ room
  pub deep : c + length ws ≤ payloads + payloads
  pub near : nat_abs z ≤ payloads

-- the words of the shifted term were written at a place, and the variables that stand free from c on were counted
pub record Shifted (t : Term) (c : ℕ) (z : ℤ) (old : List ℕ) (to : ℕ) (new : List ℕ) (r : Shift) : Type 0 where
  pub words_are : r.words ≡ size t
  pub free_is : r.free ≡ free_from c t
  pub words : new ≡ written_at old to (encode (shift c z t))

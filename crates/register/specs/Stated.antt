-- What records state and from which day on, by literals and places: a guard of `statements`, which reads it off in one
-- pass.
use Rattle.std.specs.Prelude.{ℕ, ◌≡◌, ◌↔◌}
use mathlib.Core.List.{List, [], ◌∷◌, ◌++◌, Memᴰ}
use Rattle.std.proofs.Math.Option.{some, none}
use Rattle.register.specs.Records.{Record, Content, Dated, Unbroken, statements}

-- "Kinds 1, 2 and 4 are the statements held": a rule or a say holds from its first to its last day, and a receipt "from
-- the day of the grant just before it"
pub data StatedIn (rs : List Record) : Dated → Type 0 where
  by_rule : (before after : List Record) {a f l : ℕ} {q : List ℕ} → rs ≡ before ++ (record { kind = 1; body = a ∷ f ∷ l ∷ q } ∷ after) →
      StatedIn rs (record { principal = a; words = q; first = f; last = some l })
  by_say : (before after : List Record) {a f l : ℕ} {q : List ℕ} → rs ≡ before ++ (record { kind = 2; body = a ∷ f ∷ l ∷ q } ∷ after) →
      StatedIn rs (record { principal = a; words = q; first = f; last = some l })
  by_receipt : (before after : List Record) (i v u : ℕ) (p : List ℕ) {day a : ℕ} {q : List ℕ} →
      rs ≡ before ++ (record { kind = 3; body = i ∷ v ∷ u ∷ day ∷ p } ∷ record { kind = 4; body = a ∷ q } ∷ after) →
      StatedIn rs (record { principal = a; words = q; first = day; last = none })

-- a rule, two grants of other days with their receipts, the first by another than the desk, and a say between them
abbrev pub six_records : List Record
six_records =
    record { kind = 1; body = 0 ∷ 10 ∷ 20 ∷ 70 ∷ 71 ∷ [] } ∷ record { kind = 3; body = 0 ∷ 7 ∷ 9 ∷ 15 ∷ 72 ∷ [] } ∷
    record { kind = 4; body = 5 ∷ 73 ∷ [] } ∷ record { kind = 2; body = 3 ∷ 12 ∷ 18 ∷ 74 ∷ [] } ∷
    record { kind = 3; body = 0 ∷ 7 ∷ 9 ∷ 16 ∷ 75 ∷ [] } ∷ record { kind = 4; body = 0 ∷ 76 ∷ 77 ∷ [] } ∷ []

pub record StatedRight : Type 0 where
  -- in the order of the records
  pub listed : statements six_records ≡
      record { principal = 0; words = 70 ∷ 71 ∷ []; first = 10; last = some 20 } ∷
      record { principal = 5; words = 73 ∷ []; first = 15; last = none } ∷
      record { principal = 3; words = 74 ∷ []; first = 12; last = some 18 } ∷
      record { principal = 0; words = 76 ∷ 77 ∷ []; first = 16; last = none } ∷ []
  -- the statements of a register that is not broken are exactly these
  pub right : {reg : List ℕ} {c : Content} → Unbroken reg c → (d : Dated) → Memᴰ d (statements c.records) ↔ StatedIn c.records d

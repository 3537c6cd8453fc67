-- What lapses: on which days a check that succeeds goes on to succeed, and when a Sign is refused with 22 and when with
-- 14.
use Rattle.std.specs.Prelude.{ℕ, ◌<◌, ◌≡◌, List, length}
use Rattle.std.proofs.Math.Option.{some}
use Rattle.logic.specs.Result.{ok, refused}
use Rattle.logic.specs.Term.{Term, sign, encode}
use Rattle.logic.specs.Reading.{SubtermAt, Embedded}
use Rattle.logic.specs.Check.{Passes}
use Rattle.register.specs.Records.{Record, Content, Dated, Unbroken, Covers, StatedBy, Held, HeldOutside, NotHeld}
use Rattle.register.specs.Calls.{Lent, check_call}
use Rattle.register.specs.Succeeds.{Ready, Checkable}

-- a term passes the check up to its Signs, and Sign n q, at the index p, is the first of them that may not be held on
-- the day: those before it are
pub record HeldBefore (l : Lent) (reg : List ℕ) (day : ℕ) (ws : List ℕ) (n : ℕ) (q : Term) (p : ℕ) (c : Content) : Type 0 where
  pub unbroken : Unbroken reg c
  pub Σ : List Term
  pub ready : Ready l (length reg) Σ
  pub t : Term
  pub A : Term
  pub passes : Passes Σ ws t A
  pub level : ℕ
  pub embedded : SubtermAt (sign n q) p level t
  pub before : (m : ℕ) (r : Term) (i d : ℕ) → SubtermAt (sign m r) i d t → i < p → Held (some day) c.records m (encode r)

pub record Lapses : Type 0 where
  -- a check that succeeds on a day succeeds, with the same type, on every day that all the statements it uses cover
  pub stays : (l : Lent) (reg : List ℕ) (day day' : ℕ) (ws : List ℕ) (A : Term) (h : Checkable l reg day ws A) →
      ((n : ℕ) (q : Term) (i : Embedded n q h.t) → Covers (some day') (h.signs n q i).which) → check_call l reg day' ws ≡ ok A
  -- 22 at the first Sign that is not held on the day, if statements outside the day state it
  pub outside : (l : Lent) (reg : List ℕ) (day : ℕ) (ws : List ℕ) (n : ℕ) (q : Term) (p : ℕ) (c : Content) →
      HeldBefore l reg day ws n q p c → HeldOutside (some day) c.records n (encode q) → check_call l reg day ws ≡ refused 22 p
  -- and 14, if none does
  pub unheld : (l : Lent) (reg : List ℕ) (day : ℕ) (ws : List ℕ) (n : ℕ) (q : Term) (p : ℕ) (c : Content) →
      HeldBefore l reg day ws n q p c → NotHeld c.records n (encode q) → check_call l reg day ws ≡ refused 14 p
  -- so a Sign that only one statement holds has lapsed when its last day has passed
  pub passed : (day : ℕ) (rs : List Record) (a : ℕ) (q : List ℕ) (d : Dated) (last : ℕ) →
      StatedBy rs a q d → ((e : Dated) → StatedBy rs a q e → e ≡ d) → d.last ≡ some last → last < day → HeldOutside (some day) rs a q
  -- and is then 22, where it is the first that is not held
  pub passed_22 : (l : Lent) (reg : List ℕ) (day : ℕ) (ws : List ℕ) (n : ℕ) (q : Term) (p : ℕ) (c : Content) (d : Dated) (last : ℕ) →
      HeldBefore l reg day ws n q p c → StatedBy c.records n (encode q) d → ((e : Dated) → StatedBy c.records n (encode q) e → e ≡ d) →
      d.last ≡ some last → last < day → check_call l reg day ws ≡ refused 22 p

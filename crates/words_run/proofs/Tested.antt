-- What the program's tests tell: the words are one term, and the amount is one that a shift may be asked.
use Prim.Native.Nat.{ℕ, ◌-◌, ◌≤◌}
use mathlib.Core.Path.{◌≡◌, sym, ap, ◌∙◌}
use mathlib.Core.Bool.{false}
use mathlib.Core.List.{List}
use native.Mathlib.Omega.{arith}
use lib.IntN.{ℤ, pos, negsuc, nat_abs}
use lib.ListN.{length}
use lib.Signed.{lt_z}
use borrow.Author.Tests.{ltb-false}
use Rattle.logic.specs.Limits.{payloads}
use Rattle.logic.specs.Term.{Term, size}
use Rattle.logic.specs.Reading.{read_whole}
use Rattle.words.specs.Place.{Is}
use Rattle.std.specs.Prelude.{Ok, Err, Option, Some}
use Rattle.std.specs.Result.{result_ok}
use Rattle.std.specs.Prelude.{Result as Answer}
use Rattle.logic.specs.Answer.{answer as told}
use Rattle.logic.specs.declared.refusal.Refusal.{Refusal}
use Rattle.words.specs.Parsing.{whole_end}
use Rattle.words.proofs.Parses.{whole_term}
use Rattle.words.proofs.Places.{size_is}

-- ws is one term of n words
pub record OneTerm (ws : List ℕ) (n : ℕ) : Type 0 where
  pub term : Term
  pub is : Is ws term
  pub count : n ≡ size term
  pub words : length ws ≡ n

pub one_term : (ws : List ℕ) {r : Answer ℕ Refusal} (n : ℕ) → told r ≡ whole_end (read_whole ws) → r ≡ Ok n → OneTerm ws n
one_term ws n e q =
    let (t, i, is, c) = whole_term ws n (sym e ∙ ap told q) in
    record { term = t; is = is; count = c; words = size_is ws t is ∙ sym c }

-- the same, where only the value was kept
pub one_read : (ws : List ℕ) (r : Answer ℕ Refusal) {o : Option ℕ} {n : ℕ} → told r ≡ whole_end (read_whole ws) → o ≡ result_ok r → o ≡ Some n
    → OneTerm ws n
one_read ws (Ok m) {n} e v q = let i : m ≡ n = cc in one_term ws n e (ap Ok i)
one_read ws (Err x) e v q = absurd (cc)

pub near : (z : ℤ) → lt_z z (negsuc (payloads - 1)) ≡ false → lt_z (pos payloads) z ≡ false → nat_abs z ≤ payloads
near (pos k) l h = ltb-false payloads k h
near (negsuc k) l h = let a = ltb-false (payloads - 1) k l in omega arith

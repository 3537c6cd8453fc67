-- What lapses: the check on other days, and its refusals 22 and 14.
use Prim.Native.Nat.{ℕ, ◌<◌}
use mathlib.Core.Path.{◌≡◌, ◌∙◌, ap}
use mathlib.Core.List.{List}
use mathlib.Core.Option.{Option, some, none}
use native.Mathlib.Omega.{arith}
use Rattle.logic.specs.Refusals.{not_held, held_outside}
use Rattle.logic.specs.Result.{ok, refused, ◌>>◌}
use Rattle.logic.specs.Term.{Term, encode}
use Rattle.logic.specs.Reading.{Miss, first_miss}
use Rattle.logic.proofs.Basics.{clash}
use Rattle.logic.proofs.Results.{bind_is}
use Rattle.logic.proofs.Check.{check_term_right}
use Rattle.logic.proofs.Searches.{first_miss_first}
use Rattle.register.specs.Records.{Record, Content, Dated, statements, holding, Until, StatedBy, HeldOutside}
use Rattle.register.specs.Calls.{Lent, sign_refusal, unmissed, check_own, check_call}
use Rattle.register.specs.Lapse.{HeldBefore, Lapses}
use Rattle.register.proofs.Held.{holding_covered, holding_lapsed, holding_unheld}
use Rattle.register.proofs.Shared.{signature_of, register_is}
use Rattle.register.proofs.Succeeds.{demand2}

-- the check refuses the first Sign that is not held, with the number for what is known of it
missed : (l : Lent) (reg : List ℕ) (day : ℕ) (ws : List ℕ) (n : ℕ) (q : Term) (p : ℕ) (c : Content) (m : ℕ) → HeldBefore l reg day ws n q p c →
    sign_refusal (holding (some day) (statements c.records) n (encode q)) ≡ some m → check_call l reg day ws ≡ refused m p
missed l reg day ws n q p c m F e =
    let refuses : ℕ → Term → Option ℕ = λ a r. sign_refusal (holding (some day) (statements c.records) a (encode r)) in
    let miss : Miss = record { number = m; place = p } in
    let first : first_miss refuses 0 F.t ≡ some miss = (first_miss_first refuses F.t 0 miss).1 (record {
      index = p;
      at_index = omega arith;
      n = n;
      q = q;
      level = F.level;
      embedded = F.embedded;
      refused = e;
      before = λ a r i d st h. ap sign_refusal ((holding_covered (some day) c.records a (encode r)).1 (F.before a r i d st h));
    }) in
    register_is l reg (check_own day ws) F.unbroken F.ready
    (bind_is _ ((check_term_right F.Σ (signature_of F.ready) ws F.t F.A).1 F.passes) (ap (λ o. unmissed o >> ok F.A) first))

-- a last day that has passed
not_until : (day last : ℕ) (o : Option ℕ) → o ≡ some last → last < day → Until day o → ⊥
not_until day last none e l h = clash (cc)
not_until day last (some x) e l h = let f : x ≡ last = cc in omega arith

-- a Sign that only one statement holds has lapsed when its last day has passed
only_passed : (day : ℕ) (rs : List Record) (a : ℕ) (q : List ℕ) (d : Dated) (last : ℕ) → StatedBy rs a q d →
    ((e : Dated) → StatedBy rs a q e → e ≡ d) → d.last ≡ some last → last < day → HeldOutside (some day) rs a q
only_passed day rs a q d last s only e l = record {
  which = d;
  stated = s;
  outside = λ h. not_until day last h.which.last (ap (λ (y : Dated). y.last) (only h.which h.stated) ∙ e) l h.covers.1;
}

-- a Sign that is held only outside the day is 22, where those before it are held
lapsed_22 : (l : Lent) (reg : List ℕ) (day : ℕ) (ws : List ℕ) (n : ℕ) (q : Term) (p : ℕ) (c : Content) →
    HeldBefore l reg day ws n q p c → HeldOutside (some day) c.records n (encode q) → check_call l reg day ws ≡ refused held_outside p
lapsed_22 l reg day ws n q p c F h =
    missed l reg day ws n q p c held_outside F (ap sign_refusal ((holding_lapsed (some day) c.records n (encode q)).1 h))

pub lapses : Lapses
lapses = record {
  stays = λ l reg day day' ws A h cover. (demand2.checks l reg day' ws A).1 (record {
    content = h.content;
    unbroken = h.unbroken;
    Σ = h.Σ;
    ready = h.ready;
    t = h.t;
    passes = h.passes;
    signs = λ n q i. record { which = (h.signs n q i).which; stated = (h.signs n q i).stated; covers = cover n q i };
  });
  outside = lapsed_22;
  unheld = λ l reg day ws n q p c F h.
      missed l reg day ws n q p c not_held F (ap sign_refusal ((holding_unheld (some day) c.records n (encode q)).1 h));
  passed = only_passed;
  passed_22 = λ l reg day ws n q p c d last F s only e k.
      lapsed_22 l reg day ws n q p c F (only_passed day c.records n (encode q) d last s only e k);
}

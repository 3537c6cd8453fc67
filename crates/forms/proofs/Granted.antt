-- A proof in p's shape derives the permission, and passes a request where its rule and its statement are held.
use Prim.Native.Nat.{ℕ, ◌+◌, ◌≤◌, ◌<◌}
use mathlib.Core.Path.{◌≡◌, refl}
use mathlib.Core.List.{List, []}
use mathlib.Core.Option.{some}
use native.Mathlib.Omega.{arith}
use lib.ListN.{length, get_elem?}
use Rattle.logic.specs.Limits.{payloads, most_operations}
use Rattle.logic.specs.Result.{ok}
use Rattle.logic.specs.Term.{Term, P, S, Pi, Name, Says, size, encode}
use Rattle.logic.specs.Move.{shift, fill_at, occurs}
use Rattle.logic.specs.Typing.{Has, has_text, has_name, has_var, has_const, has_app, has_sign, has_ret, has_bind}
use Rattle.logic.specs.Measured.{Measured}
use Rattle.logic.specs.Reading.{Plain, depth, first_miss}
use Rattle.logic.specs.Check.{Passes}
use Rattle.logic.specs.SignatureList.{permit}
use Rattle.register.specs.Records.{ask_of, Content, covered, Unbroken, Held, used, words_of, statements, holding}
use Rattle.register.specs.Calls.{Lent, Holding, signs_held, entry, request_call}
use Rattle.register.specs.Succeeds.{Ready}
use Rattle.forms.specs.Forms.{rule_form, consent_form, proof_form}
use Rattle.register.proofs.Held.{holding_covered}
use Rattle.register.proofs.Shared.{signs_right}
use Rattle.register.proofs.Succeeds.{demand2}

-- a proposition with a measured derivation
abbrev pub DerivesProp : List Term → Term → Type 0
DerivesProp Σ t = (D : Has Σ [] t P) × Measured D

module _ (Σ : List Term) (i q v a : ℕ) where
  -- the derivation of a proof in p's shape
  pub proof_passes : i < most_operations → q < payloads → v < payloads → a < payloads → get_elem? Σ (permit i) ≡ some (Pi S P) →
      DerivesProp Σ (rule_form q i) → DerivesProp Σ (consent_form q v) →
      Passes Σ (encode (proof_form i q v a)) (proof_form i q v a) (Says (Name 0) (consent_form (permit i) v))
  unfolding encode size Plain depth shift fill_at occurs Measured
  proof_passes hi hq hv ha e r c = record {
    term = record {
      plain = (
        (omega arith, (tt, (tt, ((omega arith, (hq, omega arith)), (omega arith, omega arith))))),
        (omega arith, (((omega arith, hv), ha), (ha, (hq, hv)))),
      );
      words = refl;
      some_word = omega arith;
      not_more = omega arith;
      nested = omega arith;
    };
    derivation = has_bind (has_sign r.0)
        (has_ret has_name (has_app (has_app (has_app (has_var refl) has_text) has_name) (has_sign c.0)) (has_app (has_const e) has_text)) refl;
    measured = (
      (r.1, omega arith),
      (omega arith, (((omega arith, omega arith, omega arith), omega arith, omega arith), (c.1, omega arith), omega arith), omega arith),
      omega arith,
    );
  }

-- the two Signs of such a proof
two_signs : (h : Holding) (i q v a : ℕ) → h 0 (encode (rule_form q i)) ≡ covered → h a (encode (consent_form q v)) ≡ covered →
    signs_held h (proof_form i q v a) ≡ ok tt
unfolding first_miss
two_signs h i q v a e f = rw (e, f) refl

-- it passes a request where the rule and the statement are held on the day
pub pair_granted : (l : Lent) (reg : List ℕ) {c : Content} {Σ : List Term} (i q v a u day : ℕ) → Unbroken reg c → Ready l (length reg) Σ →
    i < l.n → q < payloads → v < payloads → a < payloads → u < payloads → DerivesProp Σ (rule_form q i) → DerivesProp Σ (consent_form q v) →
    Held (some day) c.records 0 (encode (rule_form q i)) → Held (some day) c.records a (encode (consent_form q v)) → c.latest ≤ day →
    used reg + length (words_of (entry (ask_of i v u day (encode (proof_form i q v a))))) ≤ length reg →
    request_call l reg (ask_of i v u day (encode (proof_form i q v a))) ≡ ok tt
pair_granted l reg {c} {Σ} i q v a u day unbroken r hi hq hv ha hu rule consent held said late room =
    (demand2.grants l reg (ask_of i v u day (encode (proof_form i q v a)))).1 (record {
      operation = hi;
      extract = hv;
      delivery = hu;
      proof = record {
        content = c;
        unbroken = unbroken;
        Σ = Σ;
        ready = r;
        t = proof_form i q v a;
        passes = proof_passes Σ i q v a (omega (arith, hi, r.not_more)) hq hv ha (r.permits i hi) rule consent;
        signs = (signs_right (some day) c.records (proof_form i q v a)).0 (two_signs (holding (some day) (statements c.records)) i q v a
            ((holding_covered (some day) c.records 0 (encode (rule_form q i))).1 held)
            ((holding_covered (some day) c.records a (encode (consent_form q v))).1 said));
      };
      not_before = late;
      room = room;
    })

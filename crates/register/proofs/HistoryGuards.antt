-- Lists of calls by literals: by computation, and relations by their constructors.
use Prim.Native.Nat.{ℕ, ◌<◌}
use mathlib.Core.Path.{◌≡◌, refl, sym, subst}
use mathlib.Core.List.Memᴰ
use mathlib.Core.List.{[], ◌∷◌}
use mathlib.Core.Option.{some}
use native.Mathlib.Decide.{ℕ_discrete}
use native.Mathlib.Omega.{arith}
use Rattle.logic.specs.Term.{Term, sign, P, Const, Text, Name, Says, App, size, encode}
use Rattle.logic.specs.Move.{shift, fill_at, occurs}
use Rattle.logic.specs.Reading.{read, too_deep, first_miss, SubtermAt, root, in_sign, in_first, in_second, Embedded}
use Rattle.logic.specs.Infer.{infer, same_term, conclusion}
use Rattle.logic.specs.Worked.{sample, listed, consent}
use Rattle.logic.specs.SignatureList.{constants, operations}
use Rattle.logic.proofs.Results.{ok_inj}
use Rattle.logic.proofs.Check.{check_term_right}
use Rattle.logic.proofs.SignatureList.{signature_right}
use Rattle.logic.proofs.Signatures.{sample_signature}
use Rattle.register.specs.Records.{ask_of, Content, records, words_of, statements_from, same_words, some_of, say_shape, release_mode, Held}
use Rattle.register.specs.Calls.{outline_of, opening}
use Rattle.register.specs.Batch.{item_list, asks, in_turn, after_requests}
use Rattle.register.specs.Lapse.{HeldBefore}
use Rattle.register.specs.Verdict.{both_broken, both_whole, SameSigns, SameForAll}
use Rattle.register.specs.History.{lent, request_refused, NoRefusal, OneDay, run, replies}
use Rattle.register.specs.Worked.{setting}
use Rattle.register.specs.HistoryGuards.{other_consent, both_consents, consents, consents_content, HistoryGuards}
use Rattle.register.proofs.Shared.{made_ready}

-- no Sign stands in the word P
no_sign : (n : ℕ) (q : Term) → Embedded n q P → ⊥
no_sign n q (i, d, s) = elim s [ ]

-- so all registers agree on those that do
same_without : (day : ℕ) (c c' : Content) → SameSigns day (encode P) c c'
unfolding read encode
same_without day c c' t r n q e = absurd (no_sign n q (subst (λ t. Embedded n q t) (sym (ok_inj r)) e))

-- what such a register says
abbrev said_content : ℕ → Content
said_content a = record { mode = 0; latest = 5; records = record { kind = 2; body = a ∷ 1 ∷ 4 ∷ encode consent } ∷ [] }

same_for_one : SameForAll (ask_of 0 7 9 6 (encode P) ∷ []) (said_content 3) (said_content 4)
same_for_one = ((λ k m. rw (Memᴰ.eq_of_singleton m) (same_without 6 (said_content 3) (said_content 4))), refl)

-- ---- the first of the two Signs is held on day 6

-- no Sign stands in App C2 sn
no_sign_within : {m n i d : ℕ} {r : Term} → SubtermAt (sign m r) i d (App (Const 2) (Text n)) → ⊥
no_sign_within (in_first s) = elim s [ ]
no_sign_within (in_second s) = elim s [ ]

one_sign : {m n i d : ℕ} {r : Term} → SubtermAt (sign m r) i d (sign 3 (App (Const 2) (Text n))) → (m ≡ 3) × (r ≡ App (Const 2) (Text n))
one_sign root = (refl, refl)
one_sign (in_sign s) = absurd (no_sign_within s)

first_held : (m : ℕ) (r : Term) (i d : ℕ) → SubtermAt (sign m r) i d both_consents → i < 5 → Held (some 6) consents_content.records m (encode r)
unfolding size encode statements_from
first_held m r i d (in_first s) h =
    let (a, b) = one_sign s in
    let held : Held (some 6) consents_content.records 3 (encode consent) = record {
      which = record { principal = 3; words = encode consent; first = 1; last = some 9 };
      stated = record { among = Memᴰ.head refl; by = refl; says = refl };
      covers = (omega arith, omega arith);
    } in
    rw (a, b) held
first_held m r i d (in_second s) h = absurd (omega arith)

held_before : HeldBefore (lent setting 12288) consents 6 (encode both_consents) 3 other_consent 5 consents_content
unfolding infer same_term conclusion read too_deep shift fill_at occurs size encode ℕ_discrete constants operations words_of listed
held_before = record {
  unbroken = record { known_mode = release_mode; shape = (say_shape {n = 6} (omega arith), (say_shape {n = 6} (omega arith), tt)); tail = []; words = refl };
  Σ = sample;
  ready = made_ready _ (outline_of consents) (omega arith) (omega arith, omega arith) ((signature_right _ sample).0 refl) refl;
  t = both_consents;
  A = Says (Name 3) other_consent;
  passes = (check_term_right sample sample_signature (encode both_consents) both_consents (Says (Name 3) other_consent)).0 refl;
  level = 2;
  embedded = in_second root;
  before = first_held;
}

pub history_guards : HistoryGuards
unfolding infer same_term conclusion read too_deep first_miss shift fill_at occurs size encode ℕ_discrete constants operations records
    words_of statements_from same_words some_of opening item_list asks in_turn after_requests run replies NoRefusal OneDay listed
history_guards = record {
  open_behind = refl;
  say_behind = refl;
  repeated_behind = refl;
  request_behind = refl;
  later_behind = refl;
  later_before = refl;
  later_day = refl;
  later_setting = refl;
  no_refusal_of_all = ((λ f. elim f [ ]), ((λ f. elim f [ ]), ((λ f. elim f [ ]), ((λ f. elim f [ ]), ((λ f. elim f [ ]), tt)))));
  no_refusal = ((λ f. elim f [ ]), ((λ f. elim f [ ]), tt));
  no_refusal_turned = ((λ f. elim f [ ]), ((λ f. elim f [ ]), tt));
  first_refused = λ h. h.0 request_refused;
  last_refused = λ h. h.1.0 request_refused;
  of_one_day = (refl, (refl, (refl, tt)));
  of_another_day = λ h. let e : ◌≡◌ {A = ℕ} 16 15 = h.0 in omega arith;
  alike_check = record { lengths = refl; words_used = refl; contents = both_whole (same_without 3 (said_content 3) (said_content 4)) };
  alike_request = record { lengths = refl; words_used = refl; contents = both_whole (same_without 6 (said_content 3) (said_content 4), refl) };
  alike_batch = record { lengths = refl; words_used = refl; contents = both_whole same_for_one };
  alike_broken = record { lengths = refl; words_used = refl; contents = both_broken };
  alike_say = record { lengths = refl; words_used = refl; contents = both_whole ((same_without 6 (said_content 3) (said_content 4), refl), refl) };
  held_before = held_before;
  second_lapsed = refl;
}

-- A say's own tests, one after the other, behind those that calls share.
use Prim.Native.Nat.{ℕ, ◌+◌, ◌-◌, ◌≤◌, ◌<◌}
use native.Mathlib.Omega.{arith}
use mathlib.Core.Path.{◌≡◌, sym, ap, ap₂, ◌∙◌}
use mathlib.Core.Bool.{Bool, true, false, not, cond}
use mathlib.Core.List.{List, []}
use mathlib.Core.Option.{some}
use lib.Dec.{leb, eqb}
use lib.ListN.{length}
use borrow.Author.Tests.{le-leb, lt-leb, eq-eqb, ne_eqb}
use Rattle.logic.specs.Limits.{most_words}
use Rattle.logic.specs.Refusals.{bad_number, day_before_latest, desk_says, register_full}
use Rattle.logic.specs.Result.{Result, ok, refused, ◌>>=◌, ◌>>◌, require, without_value}
use Rattle.logic.specs.Term.{Term}
use Rattle.logic.specs.Scope.{Signature}
use Rattle.logic.specs.Check.{check_statement}
use Rattle.logic.proofs.Check.{check_statement_right}
use Rattle.std.specs.Prelude.{Result as Answer}
use Rattle.logic.specs.Answer.{answer}
use Rattle.logic.specs.declared.refusal.Refusal.{Refusal}
use Rattle.words.specs.Place.{Is}
use Rattle.records.specs.Answers.{Room}
use Rattle.write_records.proofs.Adds.{statement_length, room_for}
use Rattle.records.proofs.Items.{records_there}
use Rattle.register.specs.Records.{Record, Statement, Content, used, latest, statements, holding, states, words_of}
use Rattle.register.specs.Records.{statement_extra, say_kind}
use Rattle.register.specs.Calls.{Lent, signs_held, view, outline_of, statement_test, say_entry, stated_own, say_own, say_call}
use Rattle.register.specs.Succeeds.{Adds, added_now, Sayable}
use Rattle.register.proofs.Succeeds.{demand2}
use Rattle.register.proofs.Words.{unbroken_right}
use Rattle.shared_tests.specs.Shared.{PreparedAs}
use Rattle.shared_tests.proofs.SharedTests.{value_refused, value_there, latest_read}
use Rattle.shared_tests.proofs.OwnTests.{PassedSo, not_prepared}

-- ---- tests 14 and 16, and whether the statement is held

abbrev in_turn : Result (Unit {0}) → Bool → Bool → Result Bool
in_turn s h b = s >> cond h (ok false) (require b register_full 0 >> ok true)

module _ (l : Lent) (Σ : List Term) (c : Content) (reg : List ℕ) (day : ℕ) (st : Statement) (q : Term) where
  abbrev tests : Result Bool
  tests = stated_own day st q (view l (outline_of reg) c Σ)

  -- whether its Signs are held, whether it stands there, and whether it fits
  abbrev held-signs : Result (Unit {0})
  held-signs = signs_held (holding (some day) (statements c.records)) q

  abbrev there : Bool
  there = states (statements c.records) st

  abbrev statement_fits : Bool
  statement_fits = leb (used reg + length (words_of (say_entry st))) (length reg)

  pub say_missed : {m p : ℕ} → held-signs ≡ refused m p → tests ≡ refused m p
  say_missed f = ap (λ s. in_turn s there statement_fits) f

  module _ (f : held-signs ≡ ok tt) (h : Bool) (g : h ≡ there) where
    signs_found : (b : Bool) → h ≡ b → tests ≡ cond b (ok false) (require statement_fits register_full 0 >> ok true)
    signs_found b k = ap (λ s. in_turn s there statement_fits) f ∙ ap
        (λ (y : Bool). cond y (ok false) (require statement_fits register_full 0 >> ok true)) (sym g ∙ k)

    pub say_repeated : h ≡ true → tests ≡ ok false
    say_repeated k = signs_found true k

    module _ (k : h ≡ false) where
      pub say_full : length reg - used reg < length st.words + statement_extra → tests ≡ refused register_full 0
      say_full l = signs_found false k ∙ ap (λ (b : Bool). require b register_full 0 >> ok true)
          (lt-leb (used reg + length (words_of (say_entry st))) (length reg) (omega (arith, statement_length say_kind st)))

      pub say_enough : used reg ≤ length reg → length st.words + statement_extra ≤ length reg - used reg → tests ≡ ok true
      say_enough w l = signs_found false k ∙ ap (λ (b : Bool). require b register_full 0 >> ok true)
          (le-leb (used reg + length (words_of (say_entry st))) (length reg) (omega (arith, statement_length say_kind st)))

-- ---- tests 6 to 12

-- a statement that passes them
pub record StatementSo (Σ : List Term) (st : Statement) : Type 0 where
  pub term : Term
  pub is : check_statement Σ st.principal st.words ≡ ok term
  pub term_is : Is st.words term
  pub short : length st.words ≤ most_words

pub statement_so : (Σ : List Term) → Signature Σ → (st : Statement) → without_value (check_statement Σ st.principal st.words) ≡ ok tt → StatementSo Σ st
statement_so Σ sig st e =
    let (t, f) = value_there (check_statement Σ st.principal st.words) e in
    let W = ((check_statement_right Σ sig st.words st.principal t).0 f).term in
    record { term = t; is = f; term_is = record { plain = W.plain; words = W.words }; short = omega (arith, W.not_more) }

-- ---- all tests

module _ (l : Lent) (reg table : List ℕ) (day : ℕ) (st : Statement) (r : Answer ℕ Refusal) (P : PreparedAs l reg table r) where
  pub say_not_prepared : {m p : ℕ} → answer r ≡ refused m p → say_call l reg day st ≡ refused m p
  say_not_prepared q = not_prepared l reg table r (say_own day st) P _ _ q

  module _ (count : ℕ) (so : PassedSo l reg table r (say_own day st) P count) where
    abbrev behind : Result Term → Result Bool
    behind x = x >>= λ q. stated_own day st q (view l (outline_of reg) so.content so.Σ)

    -- tests 5, 23 and 15, each by what it finds
    abbrev numbered : (fine timely desk : Bool) → Result Bool
    numbered b t d =
        require b bad_number 0
        >> (require t day_before_latest 0 >> (require (not d) desk_says 0 >> behind (check_statement so.Σ st.principal st.words)))

    abbrev not_before : Bool
    not_before = leb so.content.latest day

    by_desk : Bool
    by_desk = eqb st.principal 0

    call_is : say_call l reg day st ≡ numbered (statement_test st) not_before by_desk
    unfolding by_desk
    call_is = so.is

    module _ (b : Bool) (e : b ≡ statement_test st) where
      pub say_bad_numbers : b ≡ false → say_call l reg day st ≡ refused bad_number 0
      say_bad_numbers f = call_is ∙ ap (λ (x : Bool). numbered x not_before by_desk) (sym e ∙ f)

      module _ (fine : b ≡ true) (t : Bool) (g : t ≡ leb (latest reg) day) where
        -- the latest day is that of the register
        fine_numbers : (x : Bool) → t ≡ x → say_call l reg day st ≡ numbered true x by_desk
        fine_numbers x h =
            let same : not_before ≡ x = ap (λ (d : ℕ). leb d day) (sym (latest_read reg so.content so.reads)) ∙ sym g ∙ h in
            call_is ∙ ap₂ (λ (x y : Bool). numbered x y by_desk) (sym e ∙ fine) same

        pub say_late : t ≡ false → say_call l reg day st ≡ refused day_before_latest 0
        say_late f = fine_numbers false f

        module _ (timely : t ≡ true) where
          pub say_by_desk : st.principal ≡ 0 → say_call l reg day st ≡ refused desk_says 0
          unfolding by_desk
          say_by_desk f = fine_numbers true timely ∙ ap (numbered true true) (eq-eqb st.principal 0 f)

          module _ (n : st.principal ≡ 0 → ⊥) where
            numbers_right : say_call l reg day st ≡ behind (check_statement so.Σ st.principal st.words)
            unfolding by_desk
            numbers_right = fine_numbers true timely ∙ ap (numbered true true) (ne_eqb st.principal 0 n)

            pub say_not_stated : {m p : ℕ} → without_value (check_statement so.Σ st.principal st.words) ≡ refused m p → say_call l reg day st ≡ refused m p
            say_not_stated q = numbers_right ∙ ap behind (value_refused (check_statement so.Σ st.principal st.words) q)

            pub say_stated : (S : StatementSo so.Σ st) → say_call l reg day st ≡ stated_own day st S.term (view l (outline_of reg) so.content so.Σ)
            say_stated S = numbers_right ∙ ap behind S.is

-- ---- what a say leaves

module _ (l : Lent) (reg : List ℕ) (day : ℕ) (st : Statement) where
  -- records of a say that succeeded fit
  room : (added : Bool) (new : List Record) → say_call l reg day st ≡ ok added →
      ((S : Sayable l reg day st added) → used reg + length (words_of new) ≤ length reg) → Room reg new
  room added new a fits =
      let S = (demand2.says l reg day st added).0 a in
      room_for reg new (record { found = S.content; reads = (unbroken_right reg S.content).1 S.unbroken }) S.ready.not_longer (fits S)

  pub held_room : say_call l reg day st ≡ ok false → Room reg []
  unfolding words_of
  held_room held = room false [] held λ S. let u = (unbroken_right reg S.content).1 S.unbroken in omega (arith, (records_there reg S.content u).within)

  fits_now : {rs : List Record} → Adds rs reg st true → used reg + length (words_of (say_entry st)) ≤ length reg
  fits_now (added_now n f) = f

  pub say_room : say_call l reg day st ≡ ok true → Room reg (say_entry st)
  say_room added = room true (say_entry st) added λ S. fits_now S.adds

-- When and where the mark calls refuse.
use Prim.Native.Nat.{ℕ, ◌≤◌}
use mathlib.Core.Path.{◌≡◌, refl, ap}
use mathlib.Core.Logic.{◌↔◌}
use mathlib.Core.Bool.{false, ◌&&◌}
use mathlib.Core.List.{List}
use mathlib.Core.Option.{Option, some, none}
use native.Mathlib.Omega.{arith}
use lib.Dec.{leb, eqb}
use lib.ListN.{length}
use borrow.Author.Tests.{ltb-false, le-ltb}
use Rattle.logic.specs.Limits.{most_register}
use Rattle.logic.specs.Refusals.{register_broken, no_mark}
use Rattle.logic.specs.Result.{refused, known}
use Rattle.logic.proofs.Basics.{clash}
use Rattle.logic.proofs.Results.{bind_is, then_is, pass}
use Rattle.logic.proofs.Stopped.{not_refused, stopped, stopped_then, failed, missed, stop, stop_then, fail, miss, not_passed, passed_not}
use Rattle.logic.proofs.Refused.{outside, not_outside, inside, is_inside}
use Rattle.register.specs.Records.{header, release, trial, RegisterMode, release_mode, trial_mode, register_content}
use Rattle.register.specs.Marks.{Mark, most_marks, standing, others, room_for_mark, marks_of, trial_content, mark_call}
use Rattle.register.specs.Marks.{at_an_end, return_call}
use Rattle.register.specs.Refuses.{TrialRefused, trial_2, trial_3, trial_27, NoMarks, MarkRefused, mark_trial, mark_27, mark_28}
use Rattle.register.specs.Refuses.{ReturnRefused, return_trial, return_27_list, return_27_unknown, return_27_end}
use Rattle.register.proofs.Words.{unbroken_right}
use Rattle.register.proofs.Marks.{marks_right, others_right, others_only, stands_right, stands_only, unmarked_right, unmarked_only}
use Rattle.register.proofs.Marks.{trial_right, ends_right}
use Rattle.register.proofs.SharedRefused.{broken_right}

-- of the two kinds, the one that is not trial
release_left : {k : ℕ} → RegisterMode k → eqb k trial ≡ false → k ≡ release
release_left release_mode e = refl
release_left trial_mode e = absurd (clash (cc))

-- 2, 3, and 27 on a release register
trial_refused : (reg : List ℕ) (m p : ℕ) → (trial_content reg ≡ refused m p) ↔ TrialRefused reg m p
trial_refused reg m p = (from, to)
  where
    row : {m p m' p' : ℕ} → TrialRefused reg m' p' → m ≡ m' → p ≡ p' → TrialRefused reg m p
    row r n z = rw (n, z) r

    from : trial_content reg ≡ refused m p → TrialRefused reg m p
    from e =
        failed (leb header (length reg) && leb (length reg) most_register) _ _ _ e (λ h. row (trial_2 (outside header most_register (length reg) h))) λ h e₁.
        let range = inside header most_register (length reg) h in
        stopped (register_content reg) _ e₁ (λ b. let (n, z, broken) = (broken_right reg m p).0 b in row (trial_3 range broken) n z) λ c u e₂.
        failed (eqb c.mode trial) _ _ _ e₂
        (λ k.
        let unbroken = (unbroken_right reg c).0 u in
        row (trial_27 (record {
          not_shorter = range.0;
          not_longer = range.1;
          unbroken = unbroken;
          of_mode = release_left unbroken.known_mode k;
        }))) λ k e₃.
        absurd (not_refused e₃)

    to : {m p : ℕ} → TrialRefused reg m p → trial_content reg ≡ refused m p
    to (trial_2 h) = fail _ _ _ (not_outside header most_register (length reg) h)
    to (trial_3 h b) = pass _ _ (is_inside header most_register (length reg) h) (stop _ ((broken_right reg register_broken 0).1 (refl, refl, b)))
    to (trial_27 {c} h) =
        pass _ _ (is_inside header most_register (length reg) (h.not_shorter, h.not_longer))
        (bind_is _ ((unbroken_right reg c).1 h.unbroken) (fail _ _ _ (ap (λ k. eqb k trial) h.of_mode)))

-- a list that holds no marks, by reading it
no_marks : (list : List ℕ) → marks_of list ≡ none → NoMarks list
no_marks list e ms h = clash (cc ((marks_right list ms).1 h))

marks_none : (list : List ℕ) → NoMarks list → marks_of list ≡ none
marks_none list h = go (marks_of list) refl
  where
    go : (o : Option (List Mark)) → marks_of list ≡ o → marks_of list ≡ none
    go none e = e
    go (some ms) e = absurd (h ms ((marks_right list ms).0 e))

module _ (reg list : List ℕ) (n : ℕ) where
  pub mark_refused : (m p : ℕ) → (mark_call reg list n ≡ refused m p) ↔ MarkRefused reg list n m p
  mark_refused m p = (from, to)
    where
      row : {m p m' p' : ℕ} → MarkRefused reg list n m' p' → m ≡ m' → p ≡ p' → MarkRefused reg list n m p
      row r k z = rw (k, z) r

      from : mark_call reg list n ≡ refused m p → MarkRefused reg list n m p
      from e =
          stopped_then (trial_content reg) _ e (λ t. mark_trial ((trial_refused reg m p).0 t)) λ c t e₁.
          let k = (trial_right reg c).0 t in
          missed _ _ (marks_of list) _ e₁ (λ o. row (mark_27 k (no_marks list o))) λ ms l e₂.
          failed (room_for_mark n ms) _ _ _ e₂
          (λ r. row (mark_28 k ((marks_right list ms).0 l) (others_right n ms) (ltb-false (length (others n ms)) most_marks r))) λ r e₃.
          absurd (not_refused e₃)

      to : {m p : ℕ} → MarkRefused reg list n m p → mark_call reg list n ≡ refused m p
      to (mark_trial {m} {p} t) = stop_then _ ((trial_refused reg m p).1 t)
      to (mark_27 {c} k h) = then_is _ ((trial_right reg c).1 k) (miss _ _ _ (marks_none list h))
      to (mark_28 {c} {ms} {rest} k l o h) =
          let many : most_marks ≤ length (others n ms) = omega (arith, h, ap length (others_only n o)) in
          then_is _ ((trial_right reg c).1 k) (bind_is _ (ap (known no_mark 0) ((marks_right list ms).1 l))
          (fail _ _ _ (le-ltb (length (others n ms)) most_marks many)))

  pub return_refused : (m p : ℕ) → (return_call reg list n ≡ refused m p) ↔ ReturnRefused reg list n m p
  return_refused m p = (from, to)
    where
      row : {m p m' p' : ℕ} → ReturnRefused reg list n m' p' → m ≡ m' → p ≡ p' → ReturnRefused reg list n m p
      row r k z = rw (k, z) r

      from : return_call reg list n ≡ refused m p → ReturnRefused reg list n m p
      from e =
          stopped (trial_content reg) _ e (λ t. return_trial ((trial_refused reg m p).0 t)) λ c t e₁.
          let k = (trial_right reg c).0 t in
          missed _ _ (marks_of list) _ e₁ (λ o. row (return_27_list k (no_marks list o))) λ ms l e₂.
          let listed = (marks_right list ms).0 l in
          missed _ _ (standing n ms) _ e₂ (λ s. row (return_27_unknown k listed (unmarked_right n ms s))) λ x s e₃.
          failed (at_an_end c.records x) _ _ _ e₃
          (λ a. row (return_27_end k listed (stands_right n x ms s) (λ h. passed_not a ((ends_right c.records x).1 h)))) λ a e₄.
          absurd (not_refused e₄)

      to : {m p : ℕ} → ReturnRefused reg list n m p → return_call reg list n ≡ refused m p
      to (return_trial {m} {p} t) = stop _ ((trial_refused reg m p).1 t)
      to (return_27_list {c} k h) = bind_is _ ((trial_right reg c).1 k) (miss _ _ _ (marks_none list h))
      to (return_27_unknown {c} {ms} k l u) =
          bind_is _ ((trial_right reg c).1 k) (bind_is _ (ap (known no_mark 0) ((marks_right list ms).1 l)) (miss _ _ _ (unmarked_only n ms u)))
      to (return_27_end {c} {ms} {x} k l s h) =
          bind_is _ ((trial_right reg c).1 k) (bind_is _ (ap (known no_mark 0) ((marks_right list ms).1 l))
          (bind_is _ (ap (known no_mark 0) (stands_only n s).0) (fail _ _ _ (not_passed λ a. h ((ends_right c.records x).0 a)))))

-- The statements that the pass over the records reads are exactly those that stand in them.
use Prim.Native.Nat.{ℕ, ◌<◌}
use mathlib.Core.Path.{◌≡◌, refl, ◌∙◌, ap, ap₂, subst}
use mathlib.Core.Logic.{⊎_elim}
use mathlib.Core.List.Memᴰ
use mathlib.Core.List.{List, [], ◌∷◌, ◌++◌, append_assoc, Memᴰ}
use native.Mathlib.Omega.{arith}
use lib.ListN.{length, drop, get_or}
use lib.Seq.{drop-cons}
use Rattle.register.specs.Records.{Record, Dated, rule_kind, say_kind, grant_kind, receipt_kind, no_kind, ask_of, grant, Shaped, RecordShape, rule_shape}
use Rattle.register.specs.Records.{say_shape, grant_shape, receipt_shape, stated, grant_day, statements_from}
use Rattle.register.specs.Stated.{StatedIn, by_rule, by_say, by_receipt, StatedRight}

-- ---- what stands in the records is read

-- what records state whatever the day of the last grant, they state behind others
behind : (day : ℕ) (before rs : List Record) {d : Dated} → ((day : ℕ) → Memᴰ d (statements_from day rs)) →
    Memᴰ d (statements_from day (before ++ rs))
unfolding statements_from
behind day [] rs h = h day
behind day (r ∷ before) rs h = Memᴰ.append_right (stated day r) (behind (grant_day day r) before rs h)

reads : {rs : List Record} {d : Dated} → StatedIn rs d → Memᴰ d (statements_from 0 rs)
unfolding statements_from
reads (by_rule before after e) = rw e (behind 0 before _ λ day. Memᴰ.head refl)
reads (by_say before after e) = rw e (behind 0 before _ λ day. Memᴰ.head refl)
reads (by_receipt before after i v u p e) = rw e (behind 0 before _ λ day. Memᴰ.head refl)

-- ---- what is read stands in the records

-- the first three words of a body
three_words : (b : List ℕ) → 2 < length b → b ≡ get_or b 0 0 ∷ get_or b 1 0 ∷ get_or b 2 0 ∷ drop 3 b
three_words b h =
    drop-cons b 0 0 (omega arith) ∙ ap (λ l. get_or b 0 0 ∷ l) (drop-cons b 1 0 (omega arith) ∙ ap (λ l. get_or b 1 0 ∷ l) (drop-cons b 2 0 h))

-- behind a record of a grant's kind, the records `prior` end with a grant of the day `day`
abbrev Carries : (before day : ℕ) → List Record → Type 0
Carries before day prior =
    before ≡ grant_kind → (front : List Record) × (i : ℕ) × (v : ℕ) × (u : ℕ) × (p : List ℕ) × (prior ≡ front ++ (grant (ask_of i v u day p) ∷ []))

module _ (day : ℕ) (prior : List Record) (b : List ℕ) where
  -- with one record more they end with a grant of the day that is read
  carries : {before k n : ℕ} → RecordShape before k n → n ≡ length b →
      Carries k (grant_day day (record { kind = k; body = b })) (prior ++ (record { kind = k; body = b } ∷ []))
  carries (rule_shape h) l e = absurd (omega arith)
  carries (say_shape h) l e = absurd (omega arith)
  carries (grant_shape h) l e =
      let four = three_words b (omega arith) ∙ ap (λ l. get_or b 0 0 ∷ get_or b 1 0 ∷ get_or b 2 0 ∷ l) (drop-cons b 3 0 (omega arith)) in
      (prior, get_or b 0 0, get_or b 1 0, get_or b 2 0, drop 4 b, ap (λ b. prior ++ (record { kind = grant_kind; body = b } ∷ [])) four)
  carries (receipt_shape h) l e = absurd (omega arith)

  -- what is read of one record stands there
  one : {before k n : ℕ} (after : List Record) → Carries before day prior → RecordShape before k n → n ≡ length b → {d : Dated} →
      Memᴰ d (stated day (record { kind = k; body = b })) → StatedIn (prior ++ (record { kind = k; body = b } ∷ after)) d
  one after c (rule_shape h) l m =
      rw (Memᴰ.eq_of_singleton m) (by_rule prior after (ap (λ b. prior ++ (record { kind = rule_kind; body = b } ∷ after)) (three_words b (omega arith))))
  one after c (say_shape h) l m =
      rw (Memᴰ.eq_of_singleton m) (by_say prior after (ap (λ b. prior ++ (record { kind = say_kind; body = b } ∷ after)) (three_words b (omega arith))))
  one after c (grant_shape h) l m = absurd (Memᴰ.not-nil m)
  one after c (receipt_shape h) l m =
      let (front, i, v, u, p, e) = c refl in
      let body = drop-cons b 0 0 (omega arith) in
      rw (Memᴰ.eq_of_singleton m) (by_receipt front after i v u p
      (ap₂ (λ prior b. prior ++ (record { kind = receipt_kind; body = b } ∷ after)) e body ∙ append_assoc front (_ ∷ []) _))

stands : (before day : ℕ) (prior rs : List Record) → Carries before day prior → Shaped before rs → {d : Dated} →
    Memᴰ d (statements_from day rs) → StatedIn (prior ++ rs) d
unfolding statements_from
stands before day prior [] c s m = absurd (Memᴰ.not-nil m)
stands before day prior (r ∷ rs) c s {d} m =
    ⊎_elim (one day prior r.body rs c s.0 refl)
    (λ m. subst (λ l. StatedIn l d) (append_assoc prior (r ∷ []) rs)
    (stands r.kind (grant_day day r) (prior ++ (r ∷ [])) rs (carries day prior r.body s.0 refl) s.1 m))
    (Memᴰ.append_cases (stated day r) m)

pub stated_right : StatedRight
unfolding statements_from
stated_right = record { listed = refl; right = λ u d. (stands no_kind 0 [] _ (λ e. absurd (omega arith)) u.shape, reads) }

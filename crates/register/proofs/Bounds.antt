-- Every refusal of a call on the register has one of the numbers that documents 01 and 02 give it, and a
-- place within what was lent.
use Prim.Native.Nat.{ℕ, zero, suc, ◌+◌, ◌≤◌, ◌<◌}
use mathlib.Core.Path.{◌≡◌, refl, sym, ap, ◌∙◌, subst}
use mathlib.Core.Logic.{◌⊎◌, inl, inr, ◌≢◌}
use mathlib.Core.Bool.{Bool, true, false, ◌&&◌, not, cond}
use mathlib.Core.List.{List, [], ◌∷◌, ◌++◌}
use mathlib.Core.Option.{Option, some, none}
use native.Mathlib.Omega.{arith}
use lib.Dec.{leb, ltb, eqb}
use lib.ListN.{length, take, drop, get_elem?, length-drop, length-append}
use borrow.Author.Tests.{leb-true}
use Rattle.logic.specs.Limits.{most_type_words, most_words, most_nesting, most_statement_words, most_statement_nesting}
use Rattle.logic.specs.Limits.{least_workspace, most_register, most_constants, most_constant_words}
use Rattle.logic.specs.Refusals.{register_length, register_broken, bad_signature, bad_number, malformed, not_held, out_of_form, held_outside}
use Rattle.logic.specs.Refusals.{day_before_latest, no_mark, marks_full}
use Rattle.logic.specs.Result.{Result, ok, refused, ◌>>=◌, ◌>>◌, require, known, nowhere}
use Rattle.logic.specs.Term.{propA, typeA, stringA, prinA, kindPA, kindTA, constA, textA, nameA, saysO, piO, lamO, appO}
use Rattle.logic.specs.Term.{retO, bindO, Atom, Term, atom, var, sign, node, P, N, Name, Says, Pi, encode, size}
use Rattle.logic.specs.Move.{raise, lower, fill, occurs}
use Rattle.logic.specs.Reading.{read_whole, SubtermAt, too_deep, Miss, first_miss}
use Rattle.logic.specs.Infer.{same, measured, domain, body, proposition, parts, infer_atom, infer}
use Rattle.logic.specs.Check.{term_of, Checked, check_term, check_statement}
use Rattle.logic.specs.SignatureList.{at_constant, constant, constants, signature, operations_test}
use Rattle.logic.proofs.Basics.{clash, some_inj}
use Rattle.logic.proofs.Results.{ok_inj, bound, tested, searched, followed, both_true}
use Rattle.logic.proofs.Words.{encode_size}
use Rattle.logic.proofs.Reading.{read_right}
use Rattle.logic.proofs.Malformed.{read_refused}
use Rattle.logic.proofs.Searches.{too_deep_first, first_miss_first}
use Rattle.logic.proofs.Places.{stands_words}
use Rattle.register.specs.Records.{Record, Statement, Ask, Content, Holds, covered, lapsed, unheld, Next, ended, cut, whole, header, mode_test}
use Rattle.register.specs.Records.{register_mode, rule_head}
use Rattle.register.specs.Records.{no_kind, used, count, latest, records, recorded, register_content, statements, holding, words_of, next_rule}
use Rattle.register.specs.Calls.{Lent, Outline, View, outline_of, fresh_outline, Holding, length_test, shared, sign_refusal, unmissed, signs_held}
use Rattle.register.specs.Calls.{on_register, day_test, after_request, fits, check_own, check_call, statement_test, say_own, say_call, permission}
use Rattle.register.specs.Calls.{say_entry, entry, ask_test, request_own, request_call}
use Rattle.register.specs.Calls.{at_rule, with_rule, rule_numbers, rule_own, opening, open_own, new_content, open_call, read_call}
use Rattle.register.specs.Batch.{most_items, NextItem, no_item, cut_item, whole_item, next_item, item_before, item_list, items}
use Rattle.register.specs.Batch.{Batched, all_granted, refused_at, at_index, in_turn, items_call, batch_call}
use Rattle.register.specs.Marks.{mark_call, return_call}
use Rattle.register.specs.Refuses.{TrialRefused, trial_2, trial_3, trial_27, MarkRefused, mark_trial, mark_27, mark_28}
use Rattle.register.specs.Refuses.{ReturnRefused, return_trial, return_27_list, return_27_unknown, return_27_end}
use Rattle.register.proofs.MarkRefused.{mark_refused, return_refused}
use Rattle.register.proofs.Opening.{next_rule_rest}
use Rattle.register.proofs.Batch.{next_item_rest}

-- a refusal number of document 01 or 02, of a call on the register: 21 is the extract desk's alone, and those above 23
-- are the converters', simplify's and the mark calls'
abbrev pub Number : ℕ → Type 0
Number m = (1 ≤ m) × (m ≤ day_before_latest) × (m ≢ out_of_form)

-- where a result is a refusal, it has such a number and a place up to the bound
pub data Within {X : Type 0} (bound : ℕ) : Result X → Type 0 where
  passed : {x : X} → Within bound (ok x)
  place_within : {m p : ℕ} → Number m → p ≤ bound → Within bound (refused m p)

pub bounded_refusal : {X : Type 0} {bound m p : ℕ} {r : Result X} → Within bound r → r ≡ refused m p → Number m × (p ≤ bound)
bounded_refusal passed e = absurd (clash (cc))
bounded_refusal {m} {p} (place_within {m = m'} {p = p'} h k) e = let n : m' ≡ m = cc in let l : p' ≡ p = cc in (omega arith, omega arith)

-- ---- results put together

bind_within : {X Y : Type 0} {bound : ℕ} (r : Result X) (k : X → Result Y) → Within bound r → ((x : X) → r ≡ ok x → Within bound (k x)) → Within bound (r >>= k)
bind_within (ok x) k h f = f x refl
bind_within (refused m p) k (place_within a b) f = place_within a b

then_within : {X Y : Type 0} {bound : ℕ} (r : Result X) (s : Result Y) → Within bound r → Within bound s → Within bound (r >> s)
then_within (ok x) s h f = f
then_within (refused m p) s (place_within a b) f = place_within a b

require_within : {bound : ℕ} (b : Bool) (m p : ℕ) → Number m → p ≤ bound → Within bound (require b m p)
require_within true m p h k = passed
require_within false m p h k = place_within h k

-- a test, and what comes behind it where it passes
tested_within : {Y : Type 0} {bound : ℕ} (b : Bool) (m p : ℕ) (s : Result Y) → Number m → p ≤ bound → (b ≡ true → Within bound s) →
    Within bound (require b m p >> s)
tested_within true m p s h k f = f refl
tested_within false m p s h k f = place_within h k

known_within : {X : Type 0} {bound : ℕ} (m p : ℕ) (o : Option X) → Number m → p ≤ bound → Within bound (known m p o)
known_within m p none h k = place_within h k
known_within m p (some x) h k = passed

nowhere_within : {bound : ℕ} (m : ℕ) (o : Option ℕ) → Number m → ((p : ℕ) → o ≡ some p → p ≤ bound) → Within bound (nowhere m o)
nowhere_within m none h f = passed
nowhere_within m (some p) h f = place_within h (f p refl)

cond_within : {X : Type 0} {bound : ℕ} (b : Bool) (r s : Result X) → Within bound r → Within bound s → Within bound (cond b r s)
cond_within true r s h k = h
cond_within false r s h k = k

at_rule_within : {X : Type 0} {bound own : ℕ} (at : ℕ) (r : Result X) → at ≤ bound → Within own r → Within bound (at_rule at r)
at_rule_within at (ok x) h k = passed
at_rule_within at (refused m p) h (place_within a b) = place_within a h

at_constant_within : {X : Type 0} {bound : ℕ} (at : ℕ) (r : Result X) → at ≤ bound → Within bound (at_constant at r)
at_constant_within at (ok x) h = passed
at_constant_within at (refused m p) h = place_within {m = bad_signature} (omega arith) h

wider : {X : Type 0} {b c : ℕ} {r : Result X} → b ≤ c → Within b r → Within c r
wider l passed = passed
wider l (place_within {p} a b) = place_within {p = p} a (omega arith)

-- ---- tests 6 to 12

measured_within : {bound : ℕ} (at : ℕ) (A : Term) → at ≤ bound → Within bound (measured at A)
measured_within at A h = then_within (require (leb (size A) most_type_words) _ at) (ok A)
    (require_within (leb (size A) most_type_words) _ at (omega arith) h) passed

atom_within : {bound : ℕ} (Σ : List Term) (at : ℕ) (a : Atom) → at ≤ bound → Within bound (infer_atom Σ at a)
atom_within Σ at propA h = passed
atom_within Σ at typeA h = passed
atom_within Σ at stringA h = passed
atom_within Σ at prinA h = passed
atom_within Σ at kindPA h = place_within {m = malformed} (omega arith) h
atom_within Σ at kindTA h = place_within {m = malformed} (omega arith) h
atom_within Σ at (constA n) h = known_within _ at (get_elem? Σ n) (omega arith) h
atom_within Σ at (textA n) h = passed
atom_within Σ at (nameA n) h = passed

module _ (Σ : List Term) {bound : ℕ} where
  -- 9 to 12 and 18 to 20 are at words of the term
  infer_within : (t : Term) (Γ : List Term) (at : ℕ) → at + size t ≤ bound → Within bound (infer Σ Γ at t)
  unfolding infer size
  infer_within (atom a) Γ at h = bind_within (infer_atom Σ at a) _ (atom_within Σ at a (omega arith)) λ A _. measured_within at A (omega arith)
  infer_within (var n) Γ at h = bind_within (known _ at (get_elem? Γ n)) _ (known_within _ at (get_elem? Γ n) (omega arith) (omega arith))
      λ A _. measured_within at (raise (suc n) A) (omega arith)
  infer_within (sign n q) Γ at h =
      bind_within (infer Σ [] (at + 1) q) _ (infer_within q [] (at + 1) (omega arith)) λ s _. tested_within (same s P) _ at _ (omega arith) (omega arith) λ _.
      measured_within at (Says (Name n) q) (omega arith)
  infer_within (node saysO a q) Γ at h =
      bind_within (infer Σ Γ (at + 1) a) _ (infer_within a Γ (at + 1) (omega arith)) λ s _. tested_within (same s N) _ at _ (omega arith) (omega arith) λ _.
      bind_within (infer Σ Γ (at + 1 + size a) q) _ (infer_within q Γ (at + 1 + size a) (omega arith)) λ r _.
      tested_within (same r P) _ at _ (omega arith) (omega arith) λ _.
      measured_within at P (omega arith)
  infer_within (node piO d b) Γ at h =
      bind_within (infer Σ Γ (at + 1) d) _ (infer_within d Γ (at + 1) (omega arith)) λ s _. tested_within (domain s) _ at _ (omega arith) (omega arith) λ _.
      bind_within (infer Σ (d ∷ Γ) (at + 1 + size d) b) _ (infer_within b (d ∷ Γ) (at + 1 + size d) (omega arith)) λ r _.
      tested_within (body r) _ at _ (omega arith) (omega arith) λ _.
      measured_within at r (omega arith)
  infer_within (node lamO d b) Γ at h =
      bind_within (infer Σ Γ (at + 1) d) _ (infer_within d Γ (at + 1) (omega arith)) λ s _. tested_within (domain s) _ at _ (omega arith) (omega arith) λ _.
      bind_within (infer Σ (d ∷ Γ) (at + 1 + size d) b) _ (infer_within b (d ∷ Γ) (at + 1 + size d) (omega arith)) λ B _.
      tested_within (proposition B) _ at _ (omega arith) (omega arith) λ _.
      measured_within at (Pi d B) (omega arith)
  infer_within (node appO f x) Γ at h =
      bind_within (infer Σ Γ (at + 1) f) _ (infer_within f Γ (at + 1) (omega arith)) λ F _.
      bind_within (known _ at (parts piO F)) _ (known_within _ at (parts piO F) (omega arith) (omega arith)) λ p _.
      bind_within (infer Σ Γ (at + 1 + size f) x) _ (infer_within x Γ (at + 1 + size f) (omega arith)) λ E _.
      tested_within (same E p.left) _ at _ (omega arith) (omega arith) λ _.
      measured_within at (fill p.right x) (omega arith)
  infer_within (node retO a x) Γ at h =
      bind_within (infer Σ Γ (at + 1) a) _ (infer_within a Γ (at + 1) (omega arith)) λ s _. tested_within (same s N) _ at _ (omega arith) (omega arith) λ _.
      bind_within (infer Σ Γ (at + 1 + size a) x) _ (infer_within x Γ (at + 1 + size a) (omega arith)) λ Q _.
      tested_within (proposition Q) _ at _ (omega arith) (omega arith) λ _.
      measured_within at (Says a Q) (omega arith)
  infer_within (node bindO x b) Γ at h =
      bind_within (infer Σ Γ (at + 1) x) _ (infer_within x Γ (at + 1) (omega arith)) λ E _.
      bind_within (known _ at (parts saysO E)) _ (known_within _ at (parts saysO E) (omega arith) (omega arith)) λ p _.
      bind_within (infer Σ (p.right ∷ Γ) (at + 1 + size x) b) _ (infer_within b (p.right ∷ Γ) (at + 1 + size x) (omega arith)) λ B _.
      bind_within (known _ at (parts saysO B)) _ (known_within _ at (parts saysO B) (omega arith) (omega arith)) λ r _.
      tested_within (same r.left (raise 1 p.left)) _ at _ (omega arith) (omega arith) λ _.
      tested_within (eqb (occurs 0 r.right) 0) _ at _ (omega arith) (omega arith) λ _.
      measured_within at (Says p.left (lower r.right)) (omega arith)

-- a term's words
words_size : (ws : List ℕ) {t : Term} → read_whole ws ≡ ok t → size t ≡ length ws
words_size ws {t} e = sym (ap length ((read_right ws t).0 e).1 ∙ encode_size t)

-- 7 is at one of the words lent, or at their end
read_within : (ws : List ℕ) → Within (length ws) (read_whole ws)
read_within ws = go (read_whole ws) refl
  where
    go : (r : Result Term) → read_whole ws ≡ r → Within (length ws) r
    go (ok t) e = passed
    go (refused m p) e = let (n, M) = (read_refused ws m p).0 e in place_within {m = m} (omega (arith, n)) M.within

-- where a term stands in another is within its words
stands_within : {s t : Term} {i d : ℕ} → SubtermAt s i d t → i ≤ size t
stands_within {s} {t} {i} st =
    let (before, behind, n, e) = stands_words st in
    let k : size t ≡ length before + length (encode s ++ behind) = sym (encode_size t) ∙ ap length e ∙ length-append before (encode s ++ behind) in
    omega (arith, n, k)

term_within : (most deep : ℕ) (ws : List ℕ) → Within (length ws) (term_of most deep ws)
term_within most deep ws =
    tested_within (leb 1 (length ws) && leb (length ws) most) _ 0 _ (omega arith) (omega arith) λ _.
    bind_within (read_whole ws) _ (read_within ws) λ t e.
    then_within (nowhere _ (too_deep deep 0 t)) (ok t)
    (nowhere_within _ (too_deep deep 0 t) (omega arith) λ p f. let F = (too_deep_first t deep 0 p).0 f in
    omega (arith, F.place, stands_within F.deep, words_size ws e)) passed

-- a term that was read has the words lent
term_size : (most deep : ℕ) (ws : List ℕ) (t : Term) → term_of most deep ws ≡ ok t → size t ≡ length ws
term_size most deep ws t e =
    tested (leb 1 (length ws) && leb (length ws) most) _ _ _ e λ _ e₁. bound (read_whole ws) _ e₁ λ u r e₂. searched _ (too_deep deep 0 u) (ok u) e₂ λ _ e₃.
    words_size ws (r ∙ e₃)

check_within : (Σ : List Term) (ws : List ℕ) → Within (length ws) (check_term Σ ws)
check_within Σ ws =
    bind_within (term_of most_words most_nesting ws) _ (term_within most_words most_nesting ws) λ t e.
    bind_within (infer Σ [] 0 t) _ (infer_within Σ t [] 0 (omega (arith, term_size most_words most_nesting ws t e))) λ A _. passed

check_size : (Σ : List Term) (ws : List ℕ) (c : Checked) → check_term Σ ws ≡ ok c → size c.term ≡ length ws
check_size Σ ws c e =
    bound (term_of most_words most_nesting ws) _ e λ t e₁ e₂. bound (infer Σ [] 0 t) _ e₂ λ A _ e₃.
    ap (λ (x : Checked). size x.term) (sym (ok_inj e₃)) ∙ term_size most_words most_nesting ws t e₁

statement_within : (Σ : List Term) (a : ℕ) (ws : List ℕ) → Within (length ws) (check_statement Σ a ws)
statement_within Σ a ws =
    bind_within (term_of most_statement_words most_statement_nesting ws) _ (term_within most_statement_words most_statement_nesting ws) λ q e.
    bind_within (infer Σ [] 0 q) _ (infer_within Σ q [] 0 (omega (arith, term_size most_statement_words most_statement_nesting ws q e))) λ s _.
    tested_within (same s P) _ 0 _ (omega arith) (omega arith) λ _.
    then_within (measured 0 (Says (Name a) q)) (ok q) (measured_within 0 (Says (Name a) q) (omega arith)) passed

statement_size : (Σ : List Term) (a : ℕ) (ws : List ℕ) (q : Term) → check_statement Σ a ws ≡ ok q → size q ≡ length ws
statement_size Σ a ws q e =
    bound (term_of most_statement_words most_statement_nesting ws) _ e λ t e₁ e₂. bound (infer Σ [] 0 t) _ e₂ λ s _ e₃. tested (same s P) _ _ _ e₃ λ _ e₄.
    followed (measured 0 (Says (Name a) t)) (ok t) e₄ λ _ _ e₅.
    ap size (sym (ok_inj e₅)) ∙ term_size most_statement_words most_statement_nesting ws t e₁

-- ---- tests 14 and 22: at a Sign of the term
sign_number : (x : Holds) {m : ℕ} → sign_refusal x ≡ some m → Number m
sign_number covered e = absurd (clash (cc))
sign_number lapsed {m} e = let h : held_outside ≡ m = some_inj e in omega arith
sign_number unheld {m} e = let h : not_held ≡ m = some_inj e in omega arith

signs_within : (h : Holding) (t : Term) → Within (size t) (signs_held h t)
signs_within h t = go (first_miss refuses 0 t) refl
  where
    refuses : ℕ → Term → Option ℕ
    refuses a q = sign_refusal (h a (encode q))

    go : (o : Option Miss) → first_miss refuses 0 t ≡ o → Within (size t) (unmissed o)
    go none e = passed
    go (some m) e =
        let F = (first_miss_first refuses t 0 m).0 e in
        place_within {p = m.place} (sign_number (h F.n (encode F.q)) F.refused) (omega (arith, F.at_index, stands_within F.embedded))

-- ---- test 4: at a constant's length word
constants_within : {bound : ℕ} (k at : ℕ) (Σ : List Term) (ws : List ℕ) → at + length ws ≤ bound → Within bound (constants k at Σ ws)
unfolding constants
constants_within zero at Σ ws h = place_within {m = bad_signature} {p = at} (omega arith) (omega arith)
constants_within (suc k) at Σ [] h = passed
constants_within (suc k) at Σ (n ∷ ws) h =
    tested_within (ltb (length Σ) most_constants && leb 1 n && leb n most_constant_words && leb n (length ws)) _ at _ (omega arith) (omega arith) λ t.
    bind_within (at_constant at (constant Σ (take n ws))) _ (at_constant_within at (constant Σ (take n ws)) (omega arith)) λ A _.
    let l = leb-true n (length ws) (both_true (ltb (length Σ) most_constants && leb 1 n && leb n most_constant_words) (leb n (length ws)) t).1 in
    constants_within k (at + 1 + n) (Σ ++ (A ∷ [])) (drop n ws) (omega (arith, length-drop n ws, l))

signature_within : (sig : List ℕ) → Within (length sig) (signature sig)
signature_within sig = constants_within (suc (length sig)) 0 [] sig (omega arith)

-- ---- the calls

-- tests 2 and 3 name no place
length_within : (len : ℕ) → Within 0 (length_test len)
length_within len = require_within (leb header len && leb len most_register) _ 0 (omega arith) (omega arith)

content_within : (reg : List ℕ) → Within 0 (register_content reg)
content_within reg =
    tested_within (leb header (used reg) && leb (used reg) (length reg)) _ 0 _ (omega arith) (omega arith) λ _.
    tested_within (mode_test (register_mode reg)) _ 0 _ (omega arith) (omega arith) λ _.
    bind_within (known _ 0 (records (used reg) no_kind (recorded reg))) _
    (known_within _ 0 (records (used reg) no_kind (recorded reg)) (omega arith) (omega arith)) λ rs _.
    tested_within (eqb (length rs) (count reg)) _ 0 (ok (record { mode = register_mode reg; latest = latest reg; records = rs }))
    (omega arith) (omega arith) λ _. passed

module _ {Y : Type 0} {words : ℕ} (l : Lent) (o : Outline) where
  -- behind the shared tests, a call's own have places within its own words
  shared_within : (content : Result Content) (own : View → Result Y) → Within 0 content → ((v : View) → Within words (own v)) →
      Within (length l.sig + words) (shared l o content own)
  shared_within content own r f =
      tested_within (leb least_workspace l.workspace) _ 0 _ (omega arith) (omega arith) λ _.
      then_within (length_test o.size) _ (wider (omega arith) (length_within o.size)) (
      bind_within content _ (wider (omega arith) r) λ c _.
      bind_within (signature l.sig) _ (wider (omega arith) (signature_within l.sig)) λ Σ _.
      tested_within (operations_test Σ l.n) _ 0 _ (omega arith) (omega arith) λ _.
      wider (omega arith) (f _))

fits_within : {bound : ℕ} (v : View) (rs : List Record) → Within bound (fits v rs)
fits_within v rs = require_within (leb (v.outline.used + length (words_of rs)) v.outline.size) _ 0 (omega arith) (omega arith)

check_own_within : (day : ℕ) (ws : List ℕ) (v : View) → Within (length ws) (check_own day ws v)
check_own_within day ws v =
    bind_within (check_term v.Σ ws) _ (check_within v.Σ ws) λ c e.
    then_within (signs_held (v.holds day) c.term) (ok c.type)
    (wider (omega (arith, check_size v.Σ ws c e)) (signs_within (v.holds day) c.term)) passed

say_own_within : (day : ℕ) (st : Statement) (v : View) → Within (length st.words) (say_own day st v)
say_own_within day st v =
    tested_within (statement_test st) _ 0 _ (omega arith) (omega arith) λ _.
    tested_within (leb v.latest day) _ 0 _ (omega arith) (omega arith) λ _.
    tested_within (not (eqb st.principal 0)) _ 0 _ (omega arith) (omega arith) λ _.
    bind_within (check_statement v.Σ st.principal st.words) _ (statement_within v.Σ st.principal st.words) λ q e.
    then_within (signs_held (v.holds day) q) _
    (wider (omega (arith, statement_size v.Σ st.principal st.words q e)) (signs_within (v.holds day) q))
    (cond_within (v.stands st) _ _ passed (then_within (fits v (say_entry st)) (ok true) (fits_within v (say_entry st)) passed))

request_own_within : (k : Ask) (s : View) → Within (length k.proof) (request_own k s)
request_own_within k s =
    tested_within (ask_test s.n k) _ 0 _ (omega arith) (omega arith) λ _.
    tested_within (leb s.latest k.day) _ 0 _ (omega arith) (omega arith) λ _.
    bind_within (check_term s.Σ k.proof) _ (check_within s.Σ k.proof) λ c e.
    tested_within (same c.type (permission k)) _ 0 _ (omega arith) (omega arith) λ _.
    then_within (signs_held (s.holds k.day) c.term) _
    (wider (omega (arith, check_size s.Σ k.proof c e)) (signs_within (s.holds k.day) c.term)) (fits_within s (entry k))

rule_numbers_within : {bound : ℕ} (at : ℕ) (st : Statement) (n : ℕ) → at ≤ bound → Within bound (rule_numbers at st n)
rule_numbers_within at st n h =
    tested_within (statement_test st) _ at _ (omega arith) h λ _. require_within (leb 1 n && leb n most_statement_words) _ at (omega arith) h

-- a refusal of a rule is at its principal word
opening_within : {bound : ℕ} (k : ℕ) (Σ : List Term) (at : ℕ) (rs : List Record) (ws : List ℕ) → at + length ws ≤ bound → Within bound (opening k Σ at rs ws)
unfolding opening
opening_within zero Σ at rs ws h = place_within {m = malformed} {p = at} (omega arith) (omega arith)
opening_within {bound} (suc k) Σ at rs ws h = go (next_rule ws) refl (λ at rs ws. opening_within k Σ at rs ws)
  where
    go : (x : Next) → next_rule ws ≡ x → ((at : ℕ) (rs : List Record) (ws : List ℕ) → at + length ws ≤ bound →
        Within bound (opening k Σ at rs ws)) → Within bound (rule_own (opening k Σ) at Σ rs x)
    go ended e ih = passed
    go (cut st n) e ih = then_within (rule_numbers at st n) _ (rule_numbers_within at st n (omega arith))
        (place_within {m = malformed} {p = at} (omega arith) (omega arith))
    go (whole st rest) e ih =
        then_within (rule_numbers at st (length st.words)) _ (rule_numbers_within at st (length st.words) (omega arith)) (
        bind_within (at_rule at (check_statement Σ st.principal st.words)) _
        (at_rule_within at (check_statement Σ st.principal st.words) (omega arith) (statement_within Σ st.principal st.words)) λ q _.
        let holds = holding none (statements rs) in
        then_within (at_rule at (signs_held holds q)) _ (at_rule_within at (signs_held holds q) (omega arith) (signs_within holds q))
        (ih (at + rule_head + length st.words) (with_rule rs st) rest (omega (arith, next_rule_rest ws e))))

open_own_within : (mode : ℕ) (rules : List ℕ) (s : View) → Within (length rules) (open_own mode rules s)
open_own_within mode rules s =
    tested_within (mode_test mode) _ 0 _ (omega arith) (omega arith) λ _.
    bind_within (opening (suc (length rules)) s.Σ 0 [] rules) _ (opening_within (suc (length rules)) s.Σ 0 [] rules (omega arith)) λ rs _.
    then_within (fits s rs) (ok rs) (fits_within s rs) passed

-- ---- the statements, of each call

pub check_bound : (l : Lent) (reg : List ℕ) (day : ℕ) (ws : List ℕ) {m p : ℕ} → check_call l reg day ws ≡ refused m p →
    Number m × (p ≤ length l.sig + length ws)
check_bound l reg day ws e =
    bounded_refusal (shared_within l (outline_of reg) (register_content reg) (check_own day ws) (content_within reg) (check_own_within day ws)) e

pub say_bound : (l : Lent) (reg : List ℕ) (day : ℕ) (st : Statement) {m p : ℕ} → say_call l reg day st ≡ refused m p →
    Number m × (p ≤ length l.sig + length st.words)
say_bound l reg day st e =
    bounded_refusal (shared_within l (outline_of reg) (register_content reg) (say_own day st) (content_within reg) (say_own_within day st)) e

request_within : (l : Lent) (reg : List ℕ) (k : Ask) → Within (length l.sig + length k.proof) (request_call l reg k)
request_within l reg k = shared_within l (outline_of reg) (register_content reg) (request_own k) (content_within reg) (request_own_within k)

pub request_bound : (l : Lent) (reg : List ℕ) (k : Ask) {m p : ℕ} → request_call l reg k ≡ refused m p → Number m × (p ≤ length l.sig + length k.proof)
request_bound l reg k e = bounded_refusal (request_within l reg k) e

pub open_bound : (l : Lent) (reg : List ℕ) (mode : ℕ) (rules : List ℕ) {m p : ℕ} → open_call l reg mode rules ≡ refused m p →
    Number m × (p ≤ length l.sig + length rules)
open_bound l reg mode rules e = bounded_refusal (shared_within l (fresh_outline (length reg)) (ok (new_content mode [])) (open_own mode rules) passed
    (open_own_within mode rules)) e

-- a batch's refusal is at an index below 16, and has such a number and place
data BatchWithin (bound : ℕ) : Batched → Type 0 where
  all_passed : BatchWithin bound all_granted
  index_within : {i m p : ℕ} → i < most_items → Number m → p ≤ bound → BatchWithin bound (refused_at i m p)

at_index_within : {bound : ℕ} (i : ℕ) (r : Result (Unit {0})) (rest : Batched) → i < most_items → Within bound r → BatchWithin bound rest →
    BatchWithin bound (at_index i r rest)
at_index_within i (ok _) rest l h k = k
at_index_within i (refused m p) rest l (place_within a b) k = index_within l a b

-- the items of words that are among n
in_turn_within : (l : Lent) (n b day i : ℕ) (reg ws : List ℕ) → length ws ≤ n → i + length (item_list b day ws) ≤ most_items →
    BatchWithin (length l.sig + n) (in_turn l i reg (item_list b day ws))
unfolding item_list in_turn
in_turn_within l n zero day i reg ws h most = all_passed
in_turn_within l n (suc b) day i reg ws h most = go (next_item day ws) refl most (in_turn_within l n b day)
  where
    go : (x : NextItem) → next_item day ws ≡ x → i + length (item_before (item_list b day) x) ≤ most_items →
        ((i : ℕ) (reg ws : List ℕ) → length ws ≤ n → i + length (item_list b day ws) ≤ most_items →
        BatchWithin (length l.sig + n) (in_turn l i reg (item_list b day ws))) →
        BatchWithin (length l.sig + n) (in_turn l i reg (item_before (item_list b day) x))
    go no_item e most ih = all_passed
    go cut_item e most ih = index_within {i = i} {m = malformed} {p = 0} (omega arith) (omega arith) (omega arith)
    go (whole_item k rest) e most ih =
        let size = next_item_rest day ws e in
        at_index_within i (request_call l reg k) _ (omega arith) (wider (omega arith) (request_within l reg k))
        (ih (suc i) (after_request (request_call l reg k) reg k) rest (omega arith) (omega arith))

batch_within : (l : Lent) (reg : List ℕ) (day : ℕ) (ws : List ℕ) → BatchWithin (length l.sig + length ws) (batch_call l reg day ws)
batch_within l reg day ws = go (leb (length (items day ws)) most_items) refl (items day ws) refl
  where
    bound : ℕ
    bound = length l.sig + length ws

    day_within : (v : View) → Within (length ws) (day_test day v)
    day_within v = require_within (leb v.latest day) _ 0 (omega arith) (omega arith)

    go : (b : Bool) → leb (length (items day ws)) most_items ≡ b → (xs : List (Option Ask)) → items day ws ≡ xs →
        BatchWithin bound (cond b (items_call l reg day xs) (refused_at 0 bad_number 0))
    go false h xs e = index_within {i = 0} {m = bad_number} {p = 0} (omega arith) (omega arith) (omega arith)
    go true h [] e = at_index_within 0 (on_register l reg (day_test day)) all_granted (omega arith)
        (shared_within l (outline_of reg) (register_content reg) (day_test day) (content_within reg) day_within) all_passed
    go true h (x ∷ xs) e = subst (λ xs. BatchWithin bound (in_turn l 0 reg xs)) e
        (in_turn_within l (length ws) (length ws) day 0 reg ws (omega arith) (omega (arith, leb-true (length (items day ws)) most_items h)))

pub batch_bound : (l : Lent) (reg : List ℕ) (day : ℕ) (ws : List ℕ) {i m p : ℕ} → batch_call l reg day ws ≡ refused_at i m p →
    (i < most_items) × Number m × (p ≤ length l.sig + length ws)
batch_bound l reg day ws {i} {m} {p} e = go (batch_call l reg day ws) (batch_within l reg day ws) e
  where
    go : {bound : ℕ} (b : Batched) → BatchWithin bound b → b ≡ refused_at i m p → (i < most_items) × Number m × (p ≤ bound)
    go all_granted all_passed e = absurd (clash (cc))
    go (refused_at i' m' p') (index_within h n k) e =
        let f : i' ≡ i = cc in
        let g : m' ≡ m = cc in
        let d : p' ≡ p = cc in
        (omega arith, omega arith, omega arith)

-- read names no place
read_within_none : (reg : List ℕ) (k : ℕ) → Within 0 (read_call reg k)
read_within_none reg k =
    then_within (length_test (length reg)) _ (length_within (length reg)) (
    bind_within (register_content reg) _ (content_within reg) λ c _.
    known_within _ 0 (get_elem? c.records k) (omega arith) (omega arith))

pub read_bound : (reg : List ℕ) (k : ℕ) {m p : ℕ} → read_call reg k ≡ refused m p → Number m × (p ≡ 0)
read_bound reg k e = let (m, p) = bounded_refusal (read_within_none reg k) e in (m, omega arith)

-- a mark call names no place, and its numbers are 2, 3 and 27, and 28 where a mark is set
abbrev pub ReturnNumber : ℕ → Type 0
ReturnNumber m = (m ≡ register_length) ⊎ (m ≡ register_broken) ⊎ (m ≡ no_mark)

abbrev pub MarkNumber : ℕ → Type 0
MarkNumber m = (m ≡ marks_full) ⊎ ReturnNumber m

trial_bound : {reg : List ℕ} {m p : ℕ} → TrialRefused reg m p → ReturnNumber m × (p ≡ 0)
trial_bound (trial_2 h) = (inl refl, refl)
trial_bound (trial_3 h b) = (inr (inl refl), refl)
trial_bound (trial_27 h) = (inr (inr refl), refl)

pub mark_bound : (reg list : List ℕ) (n : ℕ) {m p : ℕ} → mark_call reg list n ≡ refused m p → MarkNumber m × (p ≡ 0)
mark_bound reg list n {m} {p} e = go ((mark_refused reg list n m p).0 e)
  where
    go : {m p : ℕ} → MarkRefused reg list n m p → MarkNumber m × (p ≡ 0)
    go (mark_trial t) = let (m, p) = trial_bound t in (inr m, p)
    go (mark_27 k h) = (inr (inr (inr refl)), refl)
    go (mark_28 k l o h) = (inl refl, refl)

pub return_bound : (reg list : List ℕ) (n : ℕ) {m p : ℕ} → return_call reg list n ≡ refused m p → ReturnNumber m × (p ≡ 0)
return_bound reg list n {m} {p} e = go ((return_refused reg list n m p).0 e)
  where
    go : {m p : ℕ} → ReturnRefused reg list n m p → ReturnNumber m × (p ≡ 0)
    go (return_trial t) = trial_bound t
    go (return_27_list k h) = (inr (inr refl), refl)
    go (return_27_unknown k l u) = (inr (inr refl), refl)
    go (return_27_end k l s h) = (inr (inr refl), refl)

-- The entries of the binders in scope, among the words kept at the end of a workspace.
use Prim.Native.Nat.{ℕ, ◌+◌, ◌-◌, ◌≤◌, ◌<◌}
use native.Mathlib.Nat.{add-zero}
use native.Mathlib.Omega.{arith}
use mathlib.Core.Path.{◌≡◌, refl, sym, ap, ap₂, subst, ◌∙◌}
use mathlib.Core.Bool.{Bool, true, cond}
use mathlib.Core.List.{List, [], ◌∷◌, ◌++◌}
use mathlib.Core.Option.{some}
use lib.ListN.{length, take, drop, get_or, get_elem?, length-append, length-drop}
use lib.Seq.{drop-drop, drop-nil, drop_at, drop-append-add, get_or-drop, get_or-take, length-take-le}
use lib.Dec.{ltb}
use borrow.Author.Tests.{lt-ltb}
use Rattle.logic.specs.Term.{Term, encode, size}
use Rattle.logic.proofs.Basics.{clash}
use Rattle.logic.proofs.Words.{encode_size}
use Rattle.words.specs.Place.{At}
use Rattle.words.proofs.Lists.{drop_take}
use Rattle.rules.specs.Scope.{tail, scope_words, entry_head, Binders, no_entries, in_proof, in_workspace}
use Rattle.rules.specs.Variable.{BinderFound}

-- ---- the words of a scope

pub scope_length : (floor kept : ℕ) (ws : List ℕ) → kept ≤ length ws → length (scope_words floor kept ws) ≡ kept - floor
scope_length floor kept ws h =
    let d : length (tail kept ws) ≡ length ws - (length ws - kept) = length-drop (length ws - kept) ws in
    length-take-le (kept - floor) (tail kept ws) (omega arith)

pub scope_word : (floor kept i : ℕ) (ws : List ℕ) → floor + i < kept → get_or (scope_words floor kept ws) i 0 ≡ get_or ws (length ws - kept + i) 0
scope_word floor kept i ws h = get_or-take (kept - floor) (tail kept ws) i 0 (omega arith) ∙ get_or-drop (length ws - kept) ws i 0

-- the words behind the first t
scope_drop : (floor kept t : ℕ) (ws : List ℕ) → floor + t ≤ kept → kept ≤ length ws → drop t (scope_words floor kept ws) ≡ scope_words floor (kept - t) ws
scope_drop floor kept t ws h l =
    let a : kept - floor - t ≡ kept - t - floor = omega arith in
    let b : length ws - kept + t ≡ length ws - (kept - t) = omega arith in
    drop_take t (kept - floor) (tail kept ws) ∙ ap₂ (λ (i : ℕ) (x : List ℕ). take i x) a (drop-drop t (length ws - kept) ws ∙ ap (λ (i : ℕ). drop i ws) b)

-- ---- the nearest binder's entry

-- of the words h of a scope, the nearest binder's entry has `total` words; its type has `words` words, which stand at
-- the entry's end, or in the proof from `start` on
pub record Nearest (proof h : List ℕ) (Γ : List Term) (total start words : ℕ) : Type 0 where
  pub type : Term
  pub known : get_elem? Γ 0 ≡ some type
  pub type_words : words ≡ size type
  pub head : entry_head ≤ total
  pub inside : total ≤ length h
  pub others : Binders proof (drop total h) (drop 1 Γ)
  pub within : ltb entry_head total ≡ true → words ≤ total
  pub here : At (cond (ltb entry_head total) h proof) (cond (ltb entry_head total) (total - words) start) type

nearest : (proof h : List ℕ) (Γ : List Term) → 0 < length h → Binders proof h Γ → Nearest proof h Γ (get_or h 0 0) (get_or h 1 0) (get_or h 2 0)
nearest proof h Γ l no_entries = absurd (omega arith)
nearest proof h Γ l (in_proof {A} a b) = record {
  type = A;
  known = refl;
  type_words = refl;
  head = omega arith;
  inside = omega arith;
  others = b;
  within = λ e. absurd (clash (cc));
  here = a;
}
nearest proof h Γ l (in_workspace {h = g} {Γ = Δ} {A} {s} x p one b) =
    let k : ℕ = length x + size A in
    let e : List ℕ = (entry_head + k) ∷ s ∷ size A ∷ (x ++ (encode A ++ g)) in
    let t : ltb entry_head (entry_head + k) ≡ true = lt-ltb entry_head (entry_head + k) (omega arith) in
    let a : drop (entry_head + k) e ≡ g = sym (drop-drop k entry_head e) ∙ drop-append-add x (encode A ++ g) (size A)
    ∙ drop_at (encode A) g (size A) (encode_size A) in
    let i : entry_head + k - size A ≡ entry_head + length x = omega arith in
    let w : drop (entry_head + k - size A) e ≡ encode A ++ g = ap (λ (i : ℕ). drop i e) i ∙ sym (drop-drop (length x) entry_head e)
    ∙ drop_at x (encode A ++ g) (length x) refl in
    let m : length (x ++ (encode A ++ g)) ≡ length x + (length (encode A) + length g) = length-append x (encode A ++ g)
    ∙ ap (λ (i : ℕ). length x + i) (length-append (encode A) g) in
    let n : length (encode A) ≡ size A = encode_size A in
    record {
      type = A;
      known = refl;
      type_words = refl;
      head = omega arith;
      inside = omega arith;
      others = subst (λ (y : List ℕ). Binders proof y Δ) (sym a) b;
      within = λ _. omega arith;
      here = subst (λ (f : Bool). At (cond f e proof) (cond f (entry_head + k - size A) s) A) (sym t) (record { plain = p; rest = g; words = w });
    }

-- the entry's first words are read from the workspace
pub entry_at : (proof ws : List ℕ) (floor kept : ℕ) (Γ : List Term) → floor < kept → kept ≤ length ws → Binders proof (scope_words floor kept ws) Γ
    → Nearest proof (scope_words floor kept ws) Γ (get_or ws (length ws - kept) 0) (get_or ws (length ws - kept + 1) 0) (get_or ws (length ws - kept + 2) 0)
entry_at proof ws floor kept Γ h l b =
    let x : List ℕ = scope_words floor kept ws in
    let n : length (scope_words floor kept ws) ≡ kept - floor = scope_length floor kept ws l in
    let e = nearest proof x Γ (omega arith) b in
    let i : entry_head ≤ get_or x 0 0 = e.head in
    let j : get_or x 0 0 ≤ length x = e.inside in
    let a : get_or x 0 0 ≡ get_or ws (length ws - kept) 0 = scope_word floor kept 0 ws (omega arith) ∙ ap (λ (i : ℕ). get_or ws i 0)
    (add-zero (length ws - kept)) in
    let c : get_or x 1 0 ≡ get_or ws (length ws - kept + 1) 0 = scope_word floor kept 1 ws (omega arith) in
    let d : get_or x 2 0 ≡ get_or ws (length ws - kept + 2) 0 = scope_word floor kept 2 ws (omega arith) in
    rw (a, c, d) at e

-- ---- the search for a binder

-- no entry is passed yet
pub passed_none : {proof ws : List ℕ} {floor used : ℕ} {Γ : List Term} (n : ℕ) → floor ≤ used → Binders proof (scope_words floor used ws) Γ
    → BinderFound proof ws floor used (n - n) Γ used
passed_none {proof} {ws} {floor} {used} {Γ} n l b =
    let z : 0 ≡ n - n = omega arith in
    record { least = l; most = omega arith; binders = subst (λ (i : ℕ). Binders proof (scope_words floor used ws) (drop i Γ)) z b }

-- n entries are passed
pub passed_n : {proof ws : List ℕ} {floor used kept : ℕ} {Γ : List Term} (left n : ℕ) → left ≡ 0 → BinderFound proof ws floor used (n - left) Γ kept
    → BinderFound proof ws floor used n Γ kept
passed_n {proof} {ws} {floor} {used} {kept} {Γ} left n z f =
    let e : n - left ≡ n = omega arith in subst (λ (i : ℕ). BinderFound proof ws floor used i Γ kept) e f

-- an entry ends within the words of the scope
pub record EntryStep (ws : List ℕ) (floor kept : ℕ) : Type 0 where
  pub some : 0 < get_or ws (length ws - kept) 0
  pub inside : floor + get_or ws (length ws - kept) 0 ≤ kept

pub entry_step : {proof ws : List ℕ} {floor used kept n : ℕ} {Γ : List Term} → floor < kept → used ≤ length ws → BinderFound proof ws floor used n Γ kept
    → EntryStep ws floor kept
entry_step {proof} {ws} {floor} {used} {kept} {n} {Γ} h l f =
    let most : kept ≤ used = f.most in
    let b : kept ≤ length ws = omega arith in
    let e = entry_at proof ws floor kept (drop n Γ) h b f.binders in
    let head : entry_head ≤ get_or ws (length ws - kept) 0 = e.head in
    let i : get_or ws (length ws - kept) 0 ≤ length (scope_words floor kept ws) = e.inside in
    let s : length (scope_words floor kept ws) ≡ kept - floor = scope_length floor kept ws b in
    record { some = omega arith; inside = omega arith }

-- an entry is passed
pub passed_one : {proof ws : List ℕ} {floor used kept : ℕ} {Γ : List Term} (left n : ℕ) → floor < kept → used ≤ length ws → 0 < left → left ≤ n
    → BinderFound proof ws floor used (n - left) Γ kept → BinderFound proof ws floor used (n - (left - 1)) Γ (kept - get_or ws (length ws - kept) 0)
passed_one {proof} {ws} {floor} {used} {kept} {Γ} left n h l z m f =
    let most : kept ≤ used = f.most in
    let b : kept ≤ length ws = omega arith in
    let e = entry_at proof ws floor kept (drop (n - left) Γ) h b f.binders in
    let t : ℕ = get_or ws (length ws - kept) 0 in
    let i : floor + get_or ws (length ws - kept) 0 ≤ kept = (entry_step h l f).inside in
    let g : n - left + 1 ≡ n - (left - 1) = omega arith in
    record {
      least = omega arith;
      most = omega arith;
      binders = subst (Binders proof (scope_words floor (kept - t) ws)) (drop-drop 1 (n - left) Γ ∙ ap (λ (i : ℕ). drop i Γ) g)
          (subst (λ (y : List ℕ). Binders proof y (drop 1 (drop (n - left) Γ))) (scope_drop floor kept t ws (omega arith) b) e.others);
    }

pub no_binders : (proof h : List ℕ) (Γ : List Term) → h ≡ [] → Binders proof h Γ → Γ ≡ []
no_binders proof h Γ e no_entries = refl
no_binders proof h Γ e (in_proof a b) = absurd (clash (cc))
no_binders proof h Γ e (in_workspace x p one b) = absurd (clash (cc))

-- no binder is left
pub passed_all : {proof ws : List ℕ} {floor used kept : ℕ} {Γ : List Term} (left n : ℕ) → left ≤ n → kept ≤ floor
    → BinderFound proof ws floor used (n - left) Γ kept
    → BinderFound proof ws floor used n Γ floor
passed_all {proof} {ws} {floor} {used} {kept} {Γ} left n m h f =
    let least : floor ≤ kept = f.least in
    let e : kept ≡ floor = omega arith in
    let z : kept - floor ≡ 0 = omega arith in
    let k : n - left + left ≡ n = omega arith in
    let o : drop (n - left) Γ ≡ [] = no_binders proof (scope_words floor kept ws) (drop (n - left) Γ) (ap (λ (i : ℕ). take i (tail kept ws)) z) f.binders in
    let q : drop (n - left) Γ ≡ drop n Γ = o ∙ sym (drop-nil left) ∙ ap (drop left) (sym o) ∙ drop-drop left (n - left) Γ ∙ ap (λ (i : ℕ). drop i Γ) k in
    subst (BinderFound proof ws floor used n Γ) e (record {
      least = least;
      most = f.most;
      binders = subst (Binders proof (scope_words floor kept ws)) q f.binders;
    })

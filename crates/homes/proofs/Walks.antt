-- The join in one pass, a turn at a time.
use Prim.Native.Nat.{ℕ, suc, ◌+◌, ◌*◌, ◌-◌, ◌≤◌, ◌<◌}
use native.Mathlib.Omega.{arith}
use mathlib.Core.Path.{◌≡◌, refl, sym, ap, ◌∙◌}
use mathlib.Core.Bool.{Bool, true, cond}
use mathlib.Core.List.{List, [], ◌∷◌}
use lib.ListN.{length, take, drop, get_or, set, length-set, drop_of_length-le}
use lib.Seq.{take_all}
use borrow.Author.Tests.{lt-ltb, le-ltb, eq-eqb, ne_eqb}
use Rattle.homes.specs.Homes.{no_survey, formed, joined}
use Rattle.words.specs.Place.{written_at}
use Rattle.words.proofs.Lists.{drop_one, written_none, written_cons}
use Rattle.homes.proofs.Joins.{beyond, here, walked, formed_facts, walked_joined}

-- ---- the first row of those that are left

pub row_over : (h : ℕ) (ws : List ℕ) → 2 ≤ length ws → get_or ws 0 0 < h → beyond h (take (length ws - 2) (drop 2 ws)) ≡ beyond h ws
unfolding beyond
row_over h [] l s = absurd (omega arith)
row_over h (x ∷ []) l s = absurd (omega arith)
row_over h (x ∷ c ∷ ws) l s =
    let e : suc (suc (length ws)) - 2 ≡ length ws = omega arith in
    ap (λ n. beyond h (take n ws)) e ∙ ap (beyond h) (take_all (length ws) ws (omega arith))
    ∙ sym (ap (λ (b : Bool). cond b (beyond h ws) (x ∷ c ∷ ws)) (lt-ltb x h s))

pub row_stays : (h : ℕ) (ws : List ℕ) → (2 ≤ length ws → h ≤ get_or ws 0 0) → beyond h ws ≡ ws
unfolding beyond
row_stays h [] n = refl
row_stays h (x ∷ []) n = refl
row_stays h (x ∷ c ∷ ws) n = ap (λ (b : Bool). cond b (beyond h ws) (x ∷ c ∷ ws)) (le-ltb x h (n (omega arith)))

pub here_own : (h : ℕ) (ws : List ℕ) → 2 ≤ length ws → get_or ws 0 0 ≡ h → here h ws ≡ get_or ws 1 0
unfolding here
here_own h [] l e = absurd (omega arith)
here_own h (x ∷ []) l e = absurd (omega arith)
here_own h (x ∷ c ∷ ws) l e = ap (λ (b : Bool). cond b c no_survey) (eq-eqb x h e)

pub here_none : (h : ℕ) (ws : List ℕ) → (2 ≤ length ws → get_or ws 0 0 ≡ h → ⊥) → here h ws ≡ no_survey
unfolding here
here_none h [] n = refl
here_none h (x ∷ []) n = refl
here_none h (x ∷ c ∷ ws) n = ap (λ (b : Bool). cond b c no_survey) (ne_eqb x h (n (omega arith)))

-- ---- a home is written, however many rows of lower homes are left before it

module _ (hs left stood out : List ℕ) (k c : ℕ) where
  pub home_written : k < length hs → 2 * k + 1 < length out → beyond (get_or hs k 0) left ≡ stood → here (get_or hs k 0) stood ≡ c →
      written_at (set (set out (2 * k) (get_or hs k 0)) (2 * k + 1) c) (2 * (k + 1)) (walked (drop (k + 1) hs) stood)
      ≡ written_at out (2 * k) (walked (drop k hs) left)
  unfolding walked
  home_written h l e q =
      let x : ℕ = get_or hs k 0 in
      let a : 2 * (k + 1) ≡ 2 * k + 1 + 1 = omega arith in
      let w : List ℕ = walked (drop (k + 1) hs) stood in
      let s : walked (drop k hs) left ≡ x ∷ c ∷ w =
      ap (λ (m : List ℕ). walked m left) (drop_one hs k h)
      ∙ ap (λ (m : List ℕ). x ∷ here x m ∷ walked (drop (k + 1) hs) m) e ∙ ap (λ (d : ℕ). x ∷ d ∷ w) q in
      written_cons out _ (2 * k) x (c ∷ w) (omega arith)
      (written_cons (set out (2 * k) x) _ (2 * k + 1) c w (omega (arith, length-set out (2 * k) x))
      (ap (λ (i : ℕ). written_at (set (set out (2 * k) x) (2 * k + 1) c) i w) a))
      ∙ ap (written_at out (2 * k)) (sym s)

-- ---- a turn, whose home is x: a row is passed over, or the home is written, of which no lower row is left

module _ (hs left out : List ℕ) (k x : ℕ) (inside : k < length hs) (home : x ≡ get_or hs k 0) where
  walk_from : (ws : List ℕ) → walked (drop k hs) ws ≡ x ∷ here x (beyond x ws) ∷ walked (drop (k + 1) hs) (beyond x ws)
  unfolding walked
  walk_from ws = ap (λ (m : List ℕ). walked m ws) (drop_one hs k inside ∙ ap (λ (h : ℕ). h ∷ drop (k + 1) hs) (sym home))

  pub row_passed : 2 ≤ length left → get_or left 0 0 < x →
      written_at out (2 * k) (walked (drop k hs) (take (length left - 2) (drop 2 left))) ≡ written_at out (2 * k) (walked (drop k hs) left)
  row_passed l s =
      ap (written_at out (2 * k))
      (walk_from (take (length left - 2) (drop 2 left))
      ∙ ap (λ (m : List ℕ). x ∷ here x m ∷ walked (drop (k + 1) hs) m) (row_over x left l s) ∙ sym (walk_from left))

  pub home_taken : (c : ℕ) → 2 * k + 1 < length out → beyond x left ≡ left → here x left ≡ c →
      written_at (set (set out (2 * k) x) (2 * k + 1) c) (2 * (k + 1)) (walked (drop (k + 1) hs) left)
      ≡ written_at out (2 * k) (walked (drop k hs) left)
  home_taken c l e q =
      ap (λ (h : ℕ). written_at (set (set out (2 * k) h) (2 * k + 1) c) (2 * (k + 1)) (walked (drop (k + 1) hs) left)) home
      ∙ home_written hs left left out k c inside l
      (ap (λ (h : ℕ). beyond h left) (sym home) ∙ e) (ap (λ (h : ℕ). here h left) (sym home) ∙ q)

-- all homes are written
pub homes_written : (hs t left old out : List ℕ) (k : ℕ) → length hs ≤ k → formed hs t (length old) ≡ true →
    written_at out (2 * k) (walked (drop k hs) left) ≡ written_at old 0 (walked hs t) → out ≡ written_at old 0 (joined hs t)
unfolding walked
homes_written hs t left old out k h form e =
    let f = formed_facts hs t (length old) form in
    sym (written_none out (2 * k)) ∙ ap (λ (m : List ℕ). written_at out (2 * k) (walked m left)) (sym (drop_of_length-le hs {i = k} h)) ∙ e
    ∙ ap (written_at old 0) (walked_joined 0 hs t f.rise f.table)

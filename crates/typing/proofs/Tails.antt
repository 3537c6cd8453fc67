-- The words kept at the end of a workspace: what is written at its front, and what a part
-- of it that was lent gives back, leaves them.
use Prim.Native.Nat.{ℕ, ◌+◌, ◌-◌, ◌≤◌}
use native.Mathlib.Omega.{arith}
use mathlib.Core.Path.{◌≡◌, sym, ap, ◌∙◌}
use mathlib.Core.List.{List, ◌++◌, append-nil}
use lib.ListN.{length, take, drop, length-append, length-drop, drop_of_length-le}
use lib.Seq.{drop-drop, drop-append-add, length-take-le, take_all}
use Rattle.rules.specs.Scope.{tail}

-- what is not written from the place i on is kept
pub tail_kept : (k i : ℕ) (old new : List ℕ) → length new ≡ length old → drop i new ≡ drop i old → i + k ≤ length old → tail k new ≡ tail k old
tail_kept k i old new e d l =
    let q : length old - k ≡ i + (length old - k - i) = omega arith in
    ap (λ (j : ℕ). drop j new) (ap (λ (j : ℕ). j - k) e ∙ q)
    ∙ sym (drop-drop (length old - k - i) i new)
    ∙ ap (drop (length old - k - i)) d
    ∙ drop-drop (length old - k - i) i old
    ∙ ap (λ (j : ℕ). drop j old) (sym q)

-- the rest from n on, while it is lent
abbrev pub rest_of : ℕ → List ℕ → List ℕ
rest_of n ws = take (length ws - n) (drop n ws)

-- the whole, once the rest has come back
abbrev pub whole_of : ℕ → List ℕ → List ℕ → List ℕ
whole_of n ws part = take n ws ++ (part ++ drop (length ws - n) (drop n ws))

pub rest_is : (n : ℕ) (ws : List ℕ) → rest_of n ws ≡ drop n ws
rest_is n ws = let d : length (drop n ws) ≡ length ws - n = length-drop n ws in take_all (length ws - n) (drop n ws) (omega arith)

pub whole_is : (n : ℕ) (ws part : List ℕ) → whole_of n ws part ≡ take n ws ++ part
whole_is n ws part =
    let d : length (drop n ws) ≡ length ws - n = length-drop n ws in
    let z : length (drop n ws) ≤ length ws - n = omega arith in
    ap (λ (x : List ℕ). take n ws ++ (part ++ x)) (drop_of_length-le (drop n ws) z)
    ∙ ap (λ (x : List ℕ). take n ws ++ x) (append-nil part)

pub rest_length : (n : ℕ) (ws : List ℕ) → length (rest_of n ws) ≡ length ws - n
rest_length n ws = ap length (rest_is n ws) ∙ length-drop n ws

pub rest_tail : (n k : ℕ) (ws : List ℕ) → n + k ≤ length ws → tail k (rest_of n ws) ≡ tail k ws
rest_tail n k ws l =
    let d : length (drop n ws) ≡ length ws - n = length-drop n ws in
    let q : n + (length (drop n ws) - k) ≡ length ws - k = omega arith in
    ap (tail k) (rest_is n ws)
    ∙ drop-drop (length (drop n ws) - k) n ws
    ∙ ap (λ (i : ℕ). drop i ws) q

append_tail : (x y : List ℕ) (k : ℕ) → k ≤ length y → tail k (x ++ y) ≡ tail k y
append_tail x y k l =
    let e : length (x ++ y) ≡ length x + length y = length-append x y in
    let q : length (x ++ y) - k ≡ length x + (length y - k) = omega arith in
    ap (λ (i : ℕ). drop i (x ++ y)) q ∙ drop-append-add x y (length y - k)

-- the words that the rest kept, the whole has
pub whole_tail : (n k : ℕ) (ws part : List ℕ) → n + k ≤ length ws → length part ≡ length (rest_of n ws) → tail k part ≡ tail k (rest_of n ws)
    → tail k (whole_of n ws part) ≡ tail k ws
whole_tail n k ws part l e q =
    let d = rest_length n ws in
    ap (tail k) (whole_is n ws part)
    ∙ append_tail (take n ws) part k (omega arith)
    ∙ q
    ∙ rest_tail n k ws l

pub whole_length : (n : ℕ) (ws part : List ℕ) → n ≤ length ws → length part ≡ length (rest_of n ws) → length (whole_of n ws part) ≡ length ws
whole_length n ws part l e =
    let a : length (take n ws) ≡ n = length-take-le n ws l in
    let d = rest_length n ws in
    let s : length (take n ws ++ part) ≡ length (take n ws) + length part = length-append (take n ws) part in
    ap length (whole_is n ws part) ∙ omega arith

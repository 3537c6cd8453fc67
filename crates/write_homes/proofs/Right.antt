-- What the program prints, without its reader; and the bytes that it reads of a file decide.
use Prim.Native.Nat.{ℕ, ◌+◌, ◌*◌, ◌≤◌, ◌<◌}
use native.Mathlib.Omega.{arith}
use mathlib.Core.Path.{◌≡◌, refl, sym, ap, ◌∙◌}
use mathlib.Core.Logic.{◌↔◌}
use mathlib.Core.Bool.{Bool, true, false}
use Rattle.std.specs.Prelude.{Option, Some, None}
use mathlib.Core.List.{List, ◌++◌}
use lib.Dec.{leb}
use lib.ListN.{length, take}
use lib.Seq.{length-take-le, take_all}
use borrow.Author.Tests.{leb-true, leb-false}
use Rattle.logic.specs.Refusals.{out_of_form}
use Rattle.logic.specs.Result.{ok, require, ◌>>◌}
use Rattle.decimal.specs.Decimal.{comma, feed}
use Rattle.number_file.specs.NumberFile.{file, fields, IsFile}
use Rattle.number_file.proofs.Grammar.{file_right}
use Rattle.homes.specs.Homes.{most_homes, formed, joined, write_call}
use Rattle.homes.proofs.InForm.{in_form}
use Rattle.write_homes.specs.Printed.{home_line, home_code_line, most_list, most_table, refusal, shown, printed}
use Rattle.write_homes.specs.Right.{Files, PrintsRight}
use Rattle.write_homes.proofs.Prints.{shown_refuses, no_list, no_table, both_refused, long_list, long_table, written_is}

-- ---- both kinds of file: neither byte that ends a number is a digit

homes_file : (bs ns : List ℕ) → (file home_line feed bs ≡ ok ns) ↔ IsFile home_line feed bs ns
homes_file bs ns = file_right home_line feed bs ns (λ x h e. omega arith)

surveys_file : (bs ns : List ℕ) → (file home_code_line comma bs ≡ ok ns) ↔ IsFile home_code_line comma bs ns
surveys_file bs ns = file_right home_code_line comma bs ns (λ x h e. omega arith)

-- ---- the bytes behind the longest file in form

within : (n : ℕ) (bs : List ℕ) (X : Type 0) → (length bs ≤ n → X) → (n < length bs → X) → X
within n bs X f g = go (leb (length bs) n) refl
  where
    go : (b : Bool) → leb (length bs) n ≡ b → X
    go true e = f (leb-true (length bs) n e)
    go false e = g (leb-false (length bs) n e)

-- a list that is longer is refused, and so are its first bytes
list_refused : (bs cs : List ℕ) → most_list < length bs → refusal ≡ printed (Some bs) (Some cs)
list_refused bs cs h = shown_refuses _ (long_list bs cs refl refl h)

list_cut : (bs cs : List ℕ) → printed (Some (take (most_list + 1) bs)) (Some cs) ≡ printed (Some bs) (Some cs)
list_cut bs cs =
    within (most_list + 1) bs (printed (Some (take (most_list + 1) bs)) (Some cs) ≡ printed (Some bs) (Some cs))
    (λ h. ap (λ (l : List ℕ). printed (Some l) (Some cs)) (take_all (most_list + 1) bs h))
    (λ h.
    let l : most_list < length (take (most_list + 1) bs) = omega (arith, length-take-le (most_list + 1) bs (omega arith)) in
    sym (list_refused (take (most_list + 1) bs) cs l) ∙ list_refused bs cs (omega arith))

table_refused : (bs cs : List ℕ) → most_table < length cs → refusal ≡ printed (Some bs) (Some cs)
table_refused bs cs h = shown_refuses _ (long_table bs cs refl refl h)

table_cut : (bs cs : List ℕ) → printed (Some bs) (Some (take (most_table + 1) cs)) ≡ printed (Some bs) (Some cs)
table_cut bs cs =
    within (most_table + 1) cs (printed (Some bs) (Some (take (most_table + 1) cs)) ≡ printed (Some bs) (Some cs))
    (λ h. ap (λ (l : List ℕ). printed (Some bs) (Some l)) (take_all (most_table + 1) cs h))
    (λ h.
    let l : most_table < length (take (most_table + 1) cs) = omega (arith, length-take-le (most_table + 1) cs (omega arith)) in
    sym (table_refused bs (take (most_table + 1) cs) l) ∙ table_refused bs cs (omega arith))

-- what is read of two files prints what the files print
cut : (bs cs : List ℕ) → printed (Some (take (most_list + 1) bs)) (Some (take (most_table + 1) cs)) ≡ printed (Some bs) (Some cs)
cut bs cs = table_cut (take (most_list + 1) bs) cs ∙ list_cut bs cs

-- ---- two files of a list and a table in form print the join, and anything else the refusal

write_ok : (hs t : List ℕ) → formed hs t (2 * most_homes) ≡ true → write_call hs t (2 * most_homes) ≡ ok (joined hs t)
unfolding write_call
write_ok hs t e = ap (λ (b : Bool). require b out_of_form 0 >> ok (joined hs t)) e

prints_join : (bs cs hs t : List ℕ) → Files bs cs hs t → printed (Some bs) (Some cs) ≡ home_code_line ++ fields comma feed (joined hs t)
unfolding shown
prints_join bs cs hs t f =
    ap shown (written_is bs cs refl refl hs t ((homes_file bs hs).1 f.homes) ((surveys_file cs t).1 f.surveys)
    ∙ write_ok hs t ((in_form hs t (2 * most_homes)).1 f.form))

-- two files that are there and are not of that kind
prints_refusal : (bs cs : List ℕ) → ((hs t : List ℕ) → Files bs cs hs t → ⊥) → printed (Some bs) (Some cs) ≡ refusal
prints_refusal bs cs n =
    sym (shown_refuses _ (both_refused bs cs refl refl
    (λ hs t x y e. n hs t (record { homes = (homes_file bs hs).0 x; surveys = (surveys_file cs t).0 y; form = (in_form hs t (2 * most_homes)).0 e }))))

-- a file that is not there
no_homes : (g : Option (List ℕ)) → printed None g ≡ refusal
no_homes g = sym (shown_refuses _ (no_list None g refl))

no_surveys : (f : Option (List ℕ)) → printed f None ≡ refusal
no_surveys f = sym (shown_refuses _ (no_table f None refl))

pub prints_right : PrintsRight
prints_right = record { prints = prints_join; refuses = prints_refusal; no_homes = no_homes; no_surveys = no_surveys; cut = cut }

-- The outcomes of the two files.
use Prim.Native.Nat.{ℕ, ◌+◌, ◌*◌, ◌≤◌, ◌<◌}
use native.Mathlib.Omega.{arith}
use mathlib.Core.Path.{◌≡◌, refl, sym, ap, ◌∙◌}
use mathlib.Core.Bool.{Bool, true, false}
use mathlib.Core.List.{List}
use lib.ListN.{length, take, drop, length-append}
use Rattle.std.specs.Prelude.{Option, Some, None, Ok, Err}
use Rattle.std.specs.Prelude.{Result as Answer}
use Rattle.std.specs.Result.{result_ok}
use Rattle.logic.specs.Refusals.{out_of_form}
use Rattle.logic.specs.Answer.{reason_number, found}
use Rattle.logic.specs.declared.refusal.Refusal.{Refusal}
use Rattle.logic.specs.Result.{Result, ok, refused, require, ◌>>=◌, ◌>>◌}
use Rattle.logic.proofs.Results.{ok_inj}
use Rattle.words.specs.Place.{written_at, after_write}
use Rattle.words.proofs.Lists.{written_front}
use Rattle.decimal.specs.Decimal.{Put, comma, feed}
use Rattle.decimal.proofs.Puts.{put_then}
use Rattle.number_file.specs.NumberFile.{file, fields, ReadAs}
use Rattle.number_file.proofs.Grammar.{file_length}
use Rattle.homes.specs.Homes.{most_homes, formed, joined, write_call, Wrote}
use Rattle.homes.proofs.Joins.{formed_facts}
use Rattle.homes.proofs.Outputs.{joined_length}
use Rattle.write_homes.specs.Printed.{home_line, home_code_line, most_list, most_table, written_homes, refusal, Stepped, shown}

-- ---- what was read

abbrev pub Refuses : {X : Type 0} → Result X → Type 0
Refuses (ok x) = ⊥
Refuses (refused m p) = Unit {0}

pub shown_refuses : (o : Result (List ℕ)) → Refuses o → refusal ≡ shown o
unfolding shown
shown_refuses (ok ws) r = absurd r
shown_refuses (refused m p) r = refl

pub none_stepped : (o : Result (List ℕ)) (old new : List ℕ) → Refuses o → Stepped o old new None
none_stepped (ok ws) old new r = absurd r
none_stepped (refused m p) old new r = record { count = refl; words = λ ws e. absurd (cc) }

read_broken : (o : Result (List ℕ)) {old new : List ℕ} {r : Option ℕ} → ReadAs o old new r → r ≡ None → Refuses o
read_broken (ok ns) x e = let a : ok (length ns) ≡ refused out_of_form 0 = sym x.answer ∙ ap (found out_of_form 0) e in absurd (cc)
read_broken (refused m p) x e = tt

-- the n numbers or words at the front
pub record Front (o : Result (List ℕ)) (n : ℕ) (new : List ℕ) : Type 0 where
  pub is : o ≡ ok (take n new)
  pub count : n ≡ length (take n new)
  pub within : n ≤ length new

front : (old new ns : List ℕ) (n : ℕ) → new ≡ written_at old 0 ns → n ≡ length ns → Front (ok ns) n new
front old new ns n w c =
    let t : take n new ≡ ns = written_front old new ns n w c in
    record { is = ap ok (sym t); count = c ∙ ap length (sym t); within = omega (arith, ap length w, length-append ns (drop (0 + length ns) old)) }

pub read_front : (o : Result (List ℕ)) (old : List ℕ) {new : List ℕ} {r : Option ℕ} {n : ℕ} → ReadAs o old new r → r ≡ Some n → Front o n new
read_front (ok ns) old {new} {r} {n} x e = front old new ns n (x.words ns refl) (ok_inj (sym (ap (found out_of_form 0) e) ∙ x.answer))
read_front (refused m p) old {new} {r} {n} x e = let a : ok n ≡ refused m p = sym (ap (found out_of_form 0) e) ∙ x.answer in absurd (cc)

-- ---- what is printed

pub stepped_none : (o : Result (List ℕ)) {old new : List ℕ} {r : Option ℕ} → Stepped o old new r → r ≡ None → refusal ≡ shown o
stepped_none (ok ws) s e = absurd (cc (s.count, e))
stepped_none (refused m p) s e = shown_refuses (refused m p) tt

pub stepped_front : (o : Result (List ℕ)) (old : List ℕ) {new : List ℕ} {r : Option ℕ} {n : ℕ} → Stepped o old new r → r ≡ Some n → Front o n new
stepped_front (ok ws) old {new} {r} {n} s e = let q : Some n ≡ Some (length ws) = sym e ∙ s.count in front old new ws n (s.words ws refl) (cc)
stepped_front (refused m p) old {new} {r} {n} s e = let q : Some n ≡ None = sym e ∙ s.count in absurd (cc)

pub front_shown : (o : Result (List ℕ)) (n : ℕ) (words : List ℕ) {old mid out : List ℕ} {to r : ℕ} → Front o n words → Put old 0 home_code_line mid to →
    Put mid to (fields comma feed (take n words)) out r → Put old 0 (shown o) out r
unfolding shown
front_shown o n words f p q = rw f.is (put_then _ _ _ _ _ _ _ _ p q (omega arith))

-- ---- the writing step

wrote_none : (o : Result (List ℕ)) {old new : List ℕ} (r : Answer (Unit {0}) Refusal) → Wrote o old new r → result_ok r ≡ None → Refuses o
wrote_none (ok ws) (Ok u) w e = absurd (cc)
wrote_none (ok ws) (Err x) w e = let a : refused (reason_number x.reason) x.place ≡ ok tt = w.answered in absurd (cc)
wrote_none (refused m p) r w e = tt

module _ (hs t : List ℕ) (room : ℕ) where
  by_form : Bool → Result (List ℕ)
  by_form b = require b out_of_form 0 >> ok (joined hs t)

  wrote_some : {old new : List ℕ} {u : Unit {0}} (r : Answer (Unit {0}) Refusal) → Wrote (write_call hs t room) old new r → result_ok r ≡ Some u →
      write_call hs t room ≡ ok (joined hs t)
  unfolding write_call by_form
  wrote_some (Err x) w e = absurd (cc)
  wrote_some (Ok u) w e = go (formed hs t room) w.answered
    where
      go : (b : Bool) → ok (tt {0}) ≡ (by_form b >> ok (tt {0})) → by_form b ≡ ok (joined hs t)
      go true q = refl
      go false q = absurd (cc)

-- ---- the two files

both : Result (List ℕ) → Result (List ℕ) → Result (List ℕ)
both o q = o >>= λ hs. (q >>= λ t. write_call hs t (2 * most_homes))

second_refuses : (o q : Result (List ℕ)) → Refuses q → Refuses (both o q)
unfolding both
second_refuses (ok hs) (ok t) r = absurd r
second_refuses (ok hs) (refused m p) r = tt
second_refuses (refused m p) q r = tt

first_refuses : (o q : Result (List ℕ)) → Refuses o → Refuses (both o q)
unfolding both
first_refuses (ok hs) q r = absurd r
first_refuses (refused m p) q r = tt

pub not_formed : (hs t : List ℕ) → (formed hs t (2 * most_homes) ≡ true → ⊥) → Refuses (write_call hs t (2 * most_homes))
unfolding write_call
not_formed hs t n = go (formed hs t (2 * most_homes)) n
  where
    go : (b : Bool) → (b ≡ true → ⊥) → Refuses (require b out_of_form 0 >> ok (joined hs t))
    go true n = absurd (n refl)
    go false n = tt

-- both files give a list and a table out of form, or one is refused
both_refuse : (o q : Result (List ℕ)) → ((hs t : List ℕ) → o ≡ ok hs → q ≡ ok t → formed hs t (2 * most_homes) ≡ true → ⊥) → Refuses (both o q)
unfolding both
both_refuse (ok hs) (ok t) n = not_formed hs t (n hs t refl refl)
both_refuse (ok hs) (refused m p) n = tt
both_refuse (refused m p) q n = tt

pub no_list : (f g : Option (List ℕ)) → f ≡ None → Refuses (written_homes f g)
unfolding written_homes
no_list f g e = rw e tt

pub no_table : (f g : Option (List ℕ)) → g ≡ None → Refuses (written_homes f g)
unfolding written_homes both
no_table f g e = rw e (second_refuses (found out_of_form 0 f >>= file home_line feed) (refused out_of_form 0) tt)

module _ {f g : Option (List ℕ)} (bs cs : List ℕ) (a : f ≡ Some bs) (b : g ≡ Some cs) where
  there : written_homes f g ≡ both (file home_line feed bs) (file home_code_line comma cs)
  unfolding written_homes both
  there = rw (a, b) refl

  pub both_refused : ((hs t : List ℕ) → file home_line feed bs ≡ ok hs → file home_code_line comma cs ≡ ok t → formed hs t (2 * most_homes) ≡ true → ⊥) →
      Refuses (written_homes f g)
  both_refused n = rw there (both_refuse (file home_line feed bs) (file home_code_line comma cs) n)

  pub long_list : most_list < length bs → Refuses (written_homes f g)
  long_list h = both_refused (λ hs t x y e. omega (arith, file_length home_line feed bs hs x, (formed_facts hs t (2 * most_homes) e).homes))

  pub long_table : most_table < length cs → Refuses (written_homes f g)
  long_table h = both_refused (λ hs t x y e. omega (arith, file_length home_code_line comma cs t y, (formed_facts hs t (2 * most_homes) e).rows_most))

  pub broken_list : {old new : List ℕ} {r : Option ℕ} → ReadAs (file home_line feed bs) old new r → r ≡ None → Refuses (written_homes f g)
  broken_list x e = rw there (first_refuses (file home_line feed bs) (file home_code_line comma cs) (read_broken (file home_line feed bs) x e))

  pub broken_table : {old new : List ℕ} {r : Option ℕ} → ReadAs (file home_code_line comma cs) old new r → r ≡ None → Refuses (written_homes f g)
  broken_table x e = rw there (second_refuses (file home_line feed bs) (file home_code_line comma cs) (read_broken (file home_code_line comma cs) x e))

  module _ (hs t : List ℕ) (x : file home_line feed bs ≡ ok hs) (y : file home_code_line comma cs ≡ ok t) where
    pub written_is : written_homes f g ≡ write_call hs t (2 * most_homes)
    unfolding both
    written_is = there ∙ rw (x, y) refl

    module _ {old new : List ℕ} {r : Answer (Unit {0}) Refusal} (size : 2 * most_homes ≡ length old) (w : Wrote (write_call hs t (length old)) old new r) where
      pub step_refused : result_ok r ≡ None → Refuses (written_homes f g)
      step_refused e = rw (written_is, size) (wrote_none (write_call hs t (length old)) r w e)

      pub step_done : {u : Unit {0}} {n : ℕ} → result_ok r ≡ Some u → n ≡ length hs → Stepped (written_homes f g) old new (Some (2 * n))
      step_done e q =
          let i = wrote_some hs t (length old) r w e in
          rw (written_is, size, i) (record {
            count = ap Some (ap (λ k. 2 * k) q ∙ sym (joined_length hs t));
            words = λ ws p. w.output ∙ ap (λ o. after_write o old) (i ∙ p);
          })

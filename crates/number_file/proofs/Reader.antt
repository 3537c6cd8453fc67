-- What the reader does at a byte.
use Prim.Native.Nat.{ℕ, ◌+◌, ◌≤◌, ◌<◌}
use native.Mathlib.Omega.{arith}
use mathlib.Core.Path.{◌≡◌, refl, sym, ap, ◌∙◌}
use mathlib.Core.Bool.{true, false, ◌&&◌}
use mathlib.Core.List.{List, [], ◌∷◌, ◌++◌, append-nil}
use lib.Dec.{eqb}
use lib.ListN.{length, take, drop, get_or, set, length-append, drop_of_length-le}
use lib.Seq.{append_snoc}
use borrow.Author.Tests.{eq-eqb, ne_eqb}
use lib.Pointwise.{pointwise}
use Rattle.std.specs.Option.{is_some}
use Rattle.std.specs.Prelude.{Option, Some, None}
use Rattle.logic.specs.Refusals.{out_of_form}
use Rattle.logic.specs.Answer.{found}
use Rattle.logic.specs.Result.{Result, ok, refused, ◌>>=◌}
use Rattle.logic.proofs.Results.{ok_inj, not_ok}
use Rattle.words.specs.Place.{written_at}
use Rattle.words.proofs.Lists.{drop_one, written_snoc}
use Rattle.decimal.specs.Decimal.{feed}
use Rattle.number_file.specs.NumberFile.{digit, bytes_ended, numbers, starts_with, file, ReadAs}

-- ---- numbers in front of others

-- the numbers xs, and those of the rest
abbrev pub behind : List ℕ → Result (List ℕ) → Result (List ℕ)
behind xs o = o >>= λ ns. ok (xs ++ ns)

behind_one : (xs : List ℕ) (n : ℕ) (o : Result (List ℕ)) → behind xs (o >>= λ ns. ok (n ∷ ns)) ≡ behind (xs ++ (n ∷ [])) o
behind_one xs n (ok ns) = ap ok (sym (append_snoc xs n ns))
behind_one xs n (refused m p) = refl

-- ---- the answer

pub broken_file : (o : Result (List ℕ)) (old out : List ℕ) → o ≡ refused out_of_form 0 → ReadAs o old out None
broken_file o old out e = record { answer = sym (ap (λ x. x >>= λ ns. ok (length ns)) e); words = λ ns f. absurd (not_ok (sym e ∙ f)) }

pub is_none : {f : Option ℕ} → is_some f ≡ false → f ≡ None
is_none {f = None} e = refl
is_none {f = Some n} e = absurd (cc)

-- ---- the loop: the numbers so far, and the bytes from i on left

pub record Reading (bs old out : List ℕ) (first this other : ℕ) (f : Option ℕ) (count i : ℕ) : Type 0 where
  pub numbers_so_far : List ℕ
  pub many : length numbers_so_far ≡ count
  pub same : numbers first feed None bs ≡ behind numbers_so_far (numbers this other f (drop i bs))
  pub done : out ≡ written_at old 0 numbers_so_far

module _ {bs old out : List ℕ} {first this other : ℕ} {f : Option ℕ} {count i : ℕ} (r : Reading bs old out first this other f count i) where
  abbrev left : Result (List ℕ)
  left = numbers this other f (drop i bs)

  refuses : left ≡ refused out_of_form 0 → ReadAs (numbers first feed None bs) old out None
  refuses e = broken_file _ old out (r.same ∙ ap (behind r.numbers_so_far) e)

  module _ (h : i < length bs) where
    ends : get_or bs i 0 ≡ this → left ≡ (found out_of_form 0 f >>= λ n. (numbers other this None (drop (i + 1) bs) >>= λ ns. ok (n ∷ ns)))
    unfolding numbers
    ends e = rw (drop_one bs i h, eq-eqb (get_or bs i 0) this e) refl

    goes_on : (get_or bs i 0 ≡ this → ⊥) → left ≡ (digit f (get_or bs i 0) >>= λ n. numbers this other (Some n) (drop (i + 1) bs))
    unfolding numbers
    goes_on e = rw (drop_one bs i h, ne_eqb (get_or bs i 0) this e) refl

    pub no_number : get_or bs i 0 ≡ this → f ≡ None → ReadAs (numbers first feed None bs) old out None
    no_number e q = refuses (ends e ∙ rw q refl)

    pub number_ends : (n : ℕ) → get_or bs i 0 ≡ this → f ≡ Some n → count < length old →
        Reading bs old (set out count n) first other this None (count + 1) (i + 1)
    number_ends n e q l =
        let xs : List ℕ = r.numbers_so_far in
        record {
          numbers_so_far = xs ++ (n ∷ []);
          many = length-append xs (n ∷ []) ∙ ap (λ (k : ℕ). k + 1) r.many;
          same = r.same ∙ ap (behind xs) (ends e ∙ rw q refl) ∙ behind_one xs n (numbers other this None (drop (i + 1) bs));
          done = written_snoc old out 0 xs count n r.done (omega (arith, r.many)) l;
        }

    module _ (other_byte : get_or bs i 0 ≡ this → ⊥) where
      pub wrong_byte : digit f (get_or bs i 0) ≡ refused out_of_form 0 → ReadAs (numbers first feed None bs) old out None
      wrong_byte q = refuses (goes_on other_byte ∙ rw q refl)

      pub digit_read : (n : ℕ) → digit f (get_or bs i 0) ≡ ok n → Reading bs old out first this other (Some n) count (i + 1)
      digit_read n q = record {
        numbers_so_far = r.numbers_so_far;
        many = r.many;
        same = r.same ∙ ap (behind r.numbers_so_far) (goes_on other_byte ∙ rw q refl);
        done = r.done;
      }

  module _ (h : length bs ≤ i) where
    at_last : left ≡ bytes_ended other f
    unfolding numbers
    at_last = ap (numbers this other f) (drop_of_length-le bs {i = i} h)

    still_open : (g : Option ℕ) → is_some g ≡ true → bytes_ended other g ≡ refused out_of_form 0
    still_open None e = absurd (cc)
    still_open (Some n) e = refl

    pub number_open : is_some f ≡ true → ReadAs (numbers first feed None bs) old out None
    number_open q = refuses (at_last ∙ still_open f q)

    pub line_open : (other ≡ feed → ⊥) → f ≡ None → ReadAs (numbers first feed None bs) old out None
    line_open n q = refuses (at_last ∙ rw (q, ne_eqb other feed n) refl)

    ends_whole : other ≡ feed → f ≡ None → bytes_ended other f ≡ ok []
    ends_whole e q = rw (q, eq-eqb other feed e) refl

    pub read_to_end : other ≡ feed → f ≡ None → ReadAs (numbers first feed None bs) old out (Some count)
    read_to_end e q =
        let a : numbers first feed None bs ≡ ok r.numbers_so_far =
        r.same ∙ ap (behind r.numbers_so_far) (at_last ∙ ends_whole e q) ∙ ap ok (append-nil r.numbers_so_far) in
        record {
          answer = ap ok (sym r.many) ∙ sym (ap (λ x. x >>= λ xs. ok (length xs)) a);
          words = λ xs p. r.done ∙ ap (written_at old 0) (ok_inj (sym a ∙ p));
        }

-- ---- the first line

starts_is : (hs bs : List ℕ) → starts_with hs bs ≡ pointwise eqb (take (length hs) bs) hs
unfolding starts_with
starts_is [] bs = refl
starts_is (h ∷ hs) [] = refl
starts_is (h ∷ hs) (b ∷ bs) = ap (λ x. eqb b h && x) (starts_is hs bs)

module _ (heading bs old out : List ℕ) (first : ℕ) where
  pub not_headed : pointwise eqb (take (length heading) bs) heading ≡ false → ReadAs (file heading first bs) old out None
  unfolding file
  not_headed e = broken_file (file heading first bs) old out (rw (starts_is heading bs, e) refl)

  pub headed : (rest : List ℕ) (r : Option ℕ) → pointwise eqb (take (length heading) bs) heading ≡ true → rest ≡ drop (length heading) bs →
      ReadAs (numbers first feed None rest) old out r → ReadAs (file heading first bs) old out r
  unfolding file
  headed rest r e f x = rw (starts_is heading bs, e, ← f) x

-- The reader reads exactly the files that are written as `fields` writes them.
use Prim.Native.Nat.{ℕ, zero, suc, ◌+◌, ◌*◌, ◌-◌, ◌/◌, ◌%◌, ◌≤◌, ◌<◌}
use native.Mathlib.Omega.{arith}
use mathlib.Core.Path.{◌≡◌, refl, sym, ap, ap₂, subst, ◌∙◌}
use mathlib.Core.Logic.{◌↔◌}
use mathlib.Core.Bool.{Bool, true, false, ◌&&◌, cond}
use Rattle.std.specs.Prelude.{Option, Some, None}
use mathlib.Core.List.{List, [], ◌∷◌, ◌++◌, append_assoc}
use lib.Dec.{leb, ltb, eqb}
use lib.ListN.{length, drop, length-append}
use lib.Seq.{drop_at}
use borrow.Author.Tests.{le-leb, leb-true, ltb-true, ltb-false, eq-eqb, ne_eqb, eqb-true}
use Rattle.logic.specs.Answer.{found}
use Rattle.logic.specs.Result.{Result, ok, refused, require, ◌>>=◌, ◌>>◌}
use Rattle.logic.proofs.Basics.{clash}
use Rattle.logic.proofs.Results.{both_true, not_ok}
use Rattle.decimal.specs.Decimal.{zero_digit, digits, number, number_bytes, feed}
use Rattle.decimal.proofs.Digits.{power, digits_one, digits_more, digits_place_more, number_length}
use Rattle.logic.specs.Refusals.{out_of_form}
use Rattle.number_file.specs.NumberFile.{largest, is_digit, digit, bytes_ended, numbers, starts_with, file, fields, Small, last_end, IsFile}

-- ---- digits

-- a first digit, and one more behind a number
one_digit : (b : ℕ) → zero_digit ≤ b → b ≤ zero_digit + 9 → digits 10 (b - zero_digit) ≡ b ∷ []
one_digit b l h = let e : zero_digit + (b - zero_digit) ≡ b = omega arith in
    sym (digits_one 10 (b - zero_digit) (λ z. omega arith) (omega arith)) ∙ ap (λ (x : ℕ). x ∷ []) e

digit_behind : (n b : ℕ) → zero_digit ≤ b → b ≤ zero_digit + 9 → 1 ≤ n → 10 * n + (b - zero_digit) ≤ largest →
    digits 10 (10 * n + (b - zero_digit)) ≡ digits 10 n ++ (b ∷ [])
digit_behind n b l h o m =
    let x : ℕ = 10 * n + (b - zero_digit) in
    let q : (10 * n + (b - zero_digit)) / 10 ≡ n = omega arith in
    let r : zero_digit + (10 * n + (b - zero_digit)) % 10 ≡ b = omega arith in
    sym (digits_more 10 x (λ z. omega arith) (omega arith))
    ∙ ap₂ (λ (k d : ℕ). digits 9 k ++ (d ∷ [])) q r
    ∙ ap (λ (d : List ℕ). d ++ (b ∷ [])) (digits_place_more 8 n (omega arith))

-- ---- what is read is written so

-- the digits so far, of a number that is small enough
abbrev digits_of : Option ℕ → List ℕ
digits_of None = []
digits_of (Some n) = digits 10 n

abbrev Fits : Option ℕ → Type 0
Fits None = Unit {0}
Fits (Some n) = n ≤ largest

record Sound (this other : ℕ) (f : Option ℕ) (bs ns : List ℕ) : Type 0 where
  pub text : digits_of f ++ bs ≡ fields this other ns
  pub small : Small ns
  pub whole : last_end this other ns ≡ feed

ok_same : {x y : List ℕ} → ok x ≡ ok y → x ≡ y
ok_same p = cc

sound_end : (this other : ℕ) (f : Option ℕ) (ns : List ℕ) → bytes_ended other f ≡ ok ns → Sound this other f [] ns
unfolding fields Small last_end
sound_end this other None ns e = go (eqb other feed) refl e
  where
    go : (b : Bool) → eqb other feed ≡ b → (require b out_of_form 0 >> ok []) ≡ ok ns → Sound this other None [] ns
    go true q e = subst (Sound this other None []) (ok_same e) (record { text = refl; small = tt; whole = eqb-true other feed q })
    go false q e = absurd (not_ok e)
sound_end this other (Some n) ns e = absurd (not_ok e)

record Cons (o : Result (List ℕ)) (n : ℕ) (ns : List ℕ) : Type 0 where
  pub rest : List ℕ
  pub is : o ≡ ok rest
  pub all : n ∷ rest ≡ ns

cons_ok : (o : Result (List ℕ)) (n : ℕ) (ns : List ℕ) → (o >>= λ xs. ok (n ∷ xs)) ≡ ok ns → Cons o n ns
cons_ok (ok xs) n ns e = record { rest = xs; is = refl; all = cc }
cons_ok (refused m p) n ns e = absurd (not_ok e)

-- a number ends
sound_last : (this other b : ℕ) (f : Option ℕ) (bs ns : List ℕ) → Fits f → b ≡ this →
    ((xs : List ℕ) → numbers other this None bs ≡ ok xs → Sound other this None bs xs) →
    (found out_of_form 0 f >>= λ n. (numbers other this None bs >>= λ xs. ok (n ∷ xs))) ≡ ok ns → Sound this other f (b ∷ bs) ns
unfolding fields number Small last_end
sound_last this other b None bs ns h q ih e = absurd (not_ok e)
sound_last this other b (Some n) bs ns h q ih e =
    let c = cons_ok (numbers other this None bs) n ns e in
    let s = ih c.rest c.is in
    subst (Sound this other (Some n) (b ∷ bs)) c.all
    (record {
      text = ap₂ (λ (x : ℕ) (l : List ℕ). digits 10 n ++ (x ∷ l)) q s.text ∙ sym (append_assoc (digits 10 n) (this ∷ []) (fields other this c.rest));
      small = (h, s.small);
      whole = s.whole;
    })

-- a digit more
record DigitRead (f : Option ℕ) (b : ℕ) (k : ℕ → Result (List ℕ)) (ns : List ℕ) : Type 0 where
  pub value : ℕ
  pub goes_on : k value ≡ ok ns
  pub fits : value ≤ largest
  pub text : digits 10 value ≡ digits_of f ++ (b ∷ [])

digit_read : (f : Option ℕ) (b : ℕ) (k : ℕ → Result (List ℕ)) (ns : List ℕ) → (digit f b >>= k) ≡ ok ns → DigitRead f b k ns
unfolding digit
digit_read None b k ns e = go (is_digit b) refl e
  where
    go : (x : Bool) → is_digit b ≡ x → ((require x out_of_form 0 >> ok (b - zero_digit)) >>= k) ≡ ok ns → DigitRead None b k ns
    go true q e =
        let (low, high) = both_true (leb zero_digit b) (leb b (zero_digit + 9)) q in
        let l = leb-true zero_digit b low in
        let h = leb-true b (zero_digit + 9) high in
        record { value = b - zero_digit; goes_on = e; fits = omega arith; text = one_digit b l h }
    go false q e = absurd (not_ok e)
digit_read (Some n) b k ns e = go (is_digit b && leb 1 n && leb (10 * n + (b - zero_digit)) largest) refl e
  where
    go : (x : Bool) → (is_digit b && leb 1 n && leb (10 * n + (b - zero_digit)) largest) ≡ x →
        ((require x out_of_form 0 >> ok (10 * n + (b - zero_digit))) >>= k) ≡ ok ns → DigitRead (Some n) b k ns
    go true q e =
        let (begun, most) = both_true (is_digit b && leb 1 n) (leb (10 * n + (b - zero_digit)) largest) q in
        let (digit, one) = both_true (is_digit b) (leb 1 n) begun in
        let (low, high) = both_true (leb zero_digit b) (leb b (zero_digit + 9)) digit in
        let l = leb-true zero_digit b low in
        let h = leb-true b (zero_digit + 9) high in
        let o = leb-true 1 n one in
        let m = leb-true (10 * n + (b - zero_digit)) largest most in
        record { value = 10 * n + (b - zero_digit); goes_on = e; fits = m; text = digit_behind n b l h o m }
    go false q e = absurd (not_ok e)

sound_more : (this other b : ℕ) (f : Option ℕ) (bs ns : List ℕ) →
    ((n : ℕ) → n ≤ largest → numbers this other (Some n) bs ≡ ok ns → Sound this other (Some n) bs ns) →
    (digit f b >>= λ n. numbers this other (Some n) bs) ≡ ok ns → Sound this other f (b ∷ bs) ns
sound_more this other b f bs ns ih e =
    let d = digit_read f b (λ n. numbers this other (Some n) bs) ns e in
    let s = ih d.value d.fits d.goes_on in
    record {
      text = sym (append_assoc (digits_of f) (b ∷ []) bs) ∙ ap (λ (l : List ℕ). l ++ bs) (sym d.text) ∙ s.text;
      small = s.small;
      whole = s.whole;
    }

sound_byte : (this other b : ℕ) (f : Option ℕ) (bs ns : List ℕ) (x : Bool) → eqb b this ≡ x → Fits f →
    ((xs : List ℕ) → numbers other this None bs ≡ ok xs → Sound other this None bs xs) →
    ((n : ℕ) → n ≤ largest → numbers this other (Some n) bs ≡ ok ns → Sound this other (Some n) bs ns) →
    cond x (found out_of_form 0 f >>= λ n. (numbers other this None bs >>= λ xs. ok (n ∷ xs)))
    (digit f b >>= λ n. numbers this other (Some n) bs) ≡ ok ns → Sound this other f (b ∷ bs) ns
sound_byte this other b f bs ns true q h i j e = sound_last this other b f bs ns h (eqb-true b this q) i e
sound_byte this other b f bs ns false q h i j e = sound_more this other b f bs ns j e

sound : (this other : ℕ) (f : Option ℕ) (bs ns : List ℕ) → Fits f → numbers this other f bs ≡ ok ns → Sound this other f bs ns
unfolding numbers
sound this other f [] ns h e = sound_end this other f ns e
sound this other f (b ∷ bs) ns h e = sound_byte this other b f bs ns (eqb b this) refl h (λ xs. sound other this None bs xs tt)
    (λ n l. sound this other (Some n) bs ns l) e

-- ---- what is written so is read

-- a byte that is no digit
abbrev pub Apart : ℕ → Type 0
Apart end = (x : ℕ) → x < 10 → zero_digit + x ≡ end → ⊥

module _ (this other : ℕ) (apart : Apart this) where
  -- one digit
  push_first : (n : ℕ) (rest : List ℕ) → n < 10 → numbers this other None ((zero_digit + n) ∷ rest) ≡ numbers this other (Some n) rest
  unfolding numbers digit
  push_first n rest h =
      let e : zero_digit + n - zero_digit ≡ n = omega arith in
      rw (
        ne_eqb (zero_digit + n) this (apart n h),
        le-leb zero_digit (zero_digit + n) (omega arith),
        le-leb (zero_digit + n)
            (zero_digit + 9) (omega arith),
      ) (ap (λ (x : ℕ). numbers this other (Some x) rest) e)

  push_next : (n d : ℕ) (rest : List ℕ) → d < 10 → 1 ≤ n → 10 * n + d ≤ largest → numbers this other (Some n) ((zero_digit + d) ∷ rest) ≡
      numbers this other (Some (10 * n + d)) rest
  unfolding numbers digit
  push_next n d rest h o m =
      let e : zero_digit + d - zero_digit ≡ d = omega arith in
      rw (
        ne_eqb (zero_digit + d) this (apart d h),
        le-leb zero_digit (zero_digit + d) (omega arith),
        le-leb (zero_digit + d)
            (zero_digit + 9) (omega arith),
        le-leb 1 n o,
        le-leb (10 * n + (zero_digit + d - zero_digit)) largest (omega arith),
      )
      (ap (λ (x : ℕ). numbers this other (Some (10 * n + x)) rest) e)

  push_some : (k n : ℕ) (rest : List ℕ) (b : Bool) → ltb n 10 ≡ b → n ≤ largest →
      ((r : List ℕ) → 10 ≤ n → numbers this other None (digits k (n / 10) ++ r) ≡ numbers this other (Some (n / 10)) r) →
      numbers this other None (digits (suc k) n ++ rest) ≡ numbers this other (Some n) rest
  push_some k n rest true e m f = let s = ltb-true n 10 e in
      ap (λ (d : List ℕ). numbers this other None (d ++ rest)) (sym (digits_one (suc k) n (λ z. omega arith) s)) ∙ push_first n rest s
  push_some k n rest false e m f =
      let s = ltb-false n 10 e in
      let a : suc k - 1 ≡ k = omega arith in
      let v : 10 * (n / 10) + n % 10 ≡ n = omega arith in
      ap (λ (d : List ℕ). numbers this other None (d ++ rest))
      (sym (digits_more (suc k) n (λ z. omega arith) s) ∙ ap (λ (j : ℕ). digits j (n / 10) ++ ((zero_digit + n % 10) ∷ [])) a)
      ∙ ap (numbers this other None) (append_assoc (digits k (n / 10)) ((zero_digit + n % 10) ∷ []) rest)
      ∙ f ((zero_digit + n % 10) ∷ rest) s
      ∙ push_next (n / 10) (n % 10) rest (omega arith) (omega arith) (omega arith)
      ∙ ap (λ (x : ℕ). numbers this other (Some x) rest) v

  push_all : (k n : ℕ) (rest : List ℕ) → n < 10 * power k → n ≤ largest → numbers this other None (digits (suc k) n ++ rest) ≡ numbers this other (Some n) rest
  push_all zero n rest h m = push_some zero n rest (ltb n 10) refl m (λ r s. absurd (omega arith))
  push_all (suc k) n rest h m = push_some (suc k) n rest (ltb n 10) refl m (λ r s. push_all k (n / 10) r (omega arith) (omega arith))

  push_number : (n : ℕ) (rest : List ℕ) → n ≤ largest → numbers this other None (number n this ++ rest) ≡ (numbers other this None rest >>= λ ns. ok (n ∷ ns))
  unfolding number numbers
  push_number n rest m =
      ap (numbers this other None) (append_assoc (digits 10 n) (this ∷ []) rest)
      ∙ push_all 9 n (this ∷ rest) (omega arith) m
      ∙ ap (λ (b : Bool). cond b (numbers other this None rest >>= λ ns. ok (n ∷ ns))
      (digit (Some n) this >>= λ x. numbers this other (Some x) rest)) (eq-eqb this this refl)

complete : (this other : ℕ) (ns : List ℕ) → Apart this → Apart other → Small ns → last_end this other ns ≡ feed →
    numbers this other None (fields this other ns) ≡ ok ns
unfolding numbers fields Small last_end
complete this other [] a b s e = ap (λ (x : Bool). require x out_of_form 0 >> ok []) (eq-eqb other feed e)
complete this other (n ∷ ns) a b s e = push_number this other a n (fields other this ns) s.0 ∙ ap
    (λ (o : Result (List ℕ)). o >>= λ xs. ok (n ∷ xs)) (complete other this ns b a s.1 e)

-- ---- the whole file

starts_split : (hs bs : List ℕ) → starts_with hs bs ≡ true → bs ≡ hs ++ drop (length hs) bs
unfolding starts_with
starts_split [] bs e = refl
starts_split (h ∷ hs) [] e = absurd (clash (cc))
starts_split (h ∷ hs) (b ∷ bs) e =
    let (same, rest) = both_true (eqb b h) (starts_with hs bs) e in
    ap₂ (λ (x : ℕ) (l : List ℕ). x ∷ l) (eqb-true b h same) (starts_split hs bs rest)

starts_self : (hs rest : List ℕ) → starts_with hs (hs ++ rest) ≡ true
unfolding starts_with
starts_self [] rest = refl
starts_self (h ∷ hs) rest = ap (λ (b : Bool). b && starts_with hs (hs ++ rest)) (eq-eqb h h refl) ∙ starts_self hs rest

module _ (heading : List ℕ) (this : ℕ) where
  is_file : (bs ns : List ℕ) → file heading this bs ≡ ok ns → IsFile heading this bs ns
  unfolding file
  is_file bs ns e = go (starts_with heading bs) refl e
    where
      go : (b : Bool) → starts_with heading bs ≡ b → (require b out_of_form 0 >> numbers this feed None (drop (length heading) bs)) ≡
          ok ns → IsFile heading this bs ns
      go true q e =
          let s = sound this feed None (drop (length heading) bs) ns tt e in
          record { bytes = starts_split heading bs q ∙ ap (λ (l : List ℕ). heading ++ l) s.text; small = s.small; whole = s.whole }
      go false q e = absurd (not_ok e)

  file_read : (bs ns : List ℕ) → Apart this → IsFile heading this bs ns → file heading this bs ≡ ok ns
  unfolding file
  file_read bs ns a f =
      let rest : List ℕ = fields this feed ns in
      ap (λ (l : List ℕ). require (starts_with heading l) out_of_form 0 >> numbers this feed None (drop (length heading) l)) f.bytes
      ∙ ap (λ (b : Bool). require b out_of_form 0 >> numbers this feed None (drop (length heading) (heading ++ rest))) (starts_self heading rest)
      ∙ ap (numbers this feed None) (drop_at heading rest (length heading) refl)
      ∙ complete this feed ns a (λ x h e. omega arith) f.small f.whole

-- the numbers that are read are those that are written there
pub file_right : (heading : List ℕ) (this : ℕ) (bs ns : List ℕ) → Apart this → (file heading this bs ≡ ok ns) ↔ IsFile heading this bs ns
file_right heading this bs ns a = (is_file heading this bs ns, file_read heading this bs ns a)

-- ---- the bytes of a file

pub fields_length : (this other : ℕ) (ns : List ℕ) → length (fields this other ns) ≤ number_bytes * length ns
unfolding fields
fields_length this other [] = omega arith
fields_length this other (n ∷ ns) = omega (arith, fields_length other this ns, number_length n this, length-append (number n this) (fields other this ns))

pub file_length : (heading : List ℕ) (this : ℕ) (bs ns : List ℕ) → file heading this bs ≡ ok ns → length bs ≤ length heading + number_bytes * length ns
file_length heading this bs ns e = omega (
  arith,
  ap length (is_file heading this bs ns e).bytes,
  length-append heading
      (fields this feed ns),
  fields_length this feed ns,
)

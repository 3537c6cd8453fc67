-- What each step of a rule's result answers and writes.
use Prim.Native.Nat.{ℕ, suc, ◌+◌, ◌-◌, ◌≤◌, ◌<◌}
use native.Mathlib.Omega.{arith}
use mathlib.Core.Path.{◌≡◌, refl, sym, ap, ap₂, subst, ◌∙◌}
use mathlib.Core.Logic.{inl, inr}
use mathlib.Core.Bool.{Bool, true, false}
use mathlib.Core.List.{List, ◌∷◌}
use lib.ListN.{length, take, drop, set, get_or, length-set}
use Rattle.logic.specs.Limits.{payloads, most_words, most_type_words}
use Rattle.logic.specs.Refusals.{condition_fails, type_too_long, argument_mismatch}
use Rattle.logic.specs.Result.{Result, refused}
use Rattle.logic.specs.Tags.{tag_name, tag_sign}
use Rattle.logic.specs.Term.{Op, saysO, Term, node, P, KindP, KindT, Name, Says, word}
use Rattle.logic.specs.Term.{payload_of, op_word, encode, size}
use Rattle.logic.specs.Move.{fill_at, fill}
use Rattle.logic.specs.Reading.{Plain, PlainType}
use Rattle.logic.specs.Infer.{same_term, same, conclusion, proposition, measured}
use Rattle.logic.proofs.Basics.{clash}
use Rattle.logic.proofs.Results.{pass}
use Rattle.logic.proofs.Stopped.{fail}
use Rattle.logic.proofs.Proposition.{same_yes, same_no}
use Rattle.logic.proofs.Words.{plain_in_range, encode_size, size_pos}
use Rattle.words.specs.Place.{At, Is, written_at}
use Rattle.moves.specs.Fill.{Fillable, FilledTo}
use Rattle.moves.specs.declared.fill.Filled.{Filled}
use Rattle.words.proofs.Lists.{written_cons, written_node, written_front}
use Rattle.words.proofs.Places.{at_head, at_part, part_is, at_sign, at_left, at_right, at_end, size_is}
use Rattle.words.proofs.Types.{in_range}
use Rattle.moves.proofs.Fills.{done_is, over_is}
use Rattle.rules.specs.Rule.{sign_type, pair_type, app_type}
use Rattle.rules.specs.Form.{front_words, TypeFormed}
use Rattle.bind_result.proofs.Results.{begins}
use Rattle.results.specs.Results.{Applies, Appliable, Pairs, Pairable, Signs, Signable}
use Rattle.std.specs.Prelude.{Ok, Option, Some, None}
use Rattle.std.specs.Prelude.{Result as Answer}
use Rattle.logic.specs.Answer.{answer as told}
use Rattle.logic.specs.declared.refusal.Refusal.{Refusal}
use Rattle.rules.specs.declared.typed.Typed.{Typed}
use Rattle.rules.proofs.Fronts.{type_part, written_kept, written_there, measured_fits, measured_long, formed_refused, writes}

-- ---- an App

module _ {proof ws : List ℕ} {next n m end : ℕ} {d C e E : Term} (at : ℕ) (j : Applies proof ws next n m end d C e E) where
  function_size : n ≡ 1 + size d + size C
  unfolding size
  function_size = let q : suc (size d + size C) ≡ 1 + size d + size C = omega arith in j.function_words ∙ q

  -- the argument's type is not the domain
  unlike : {r : Answer Typed Refusal} → (E ≡ d → ⊥) → told r ≡ refused argument_mismatch at → TypeFormed (app_type at d C e E) end ws ws r
  unlike q t = formed_refused _ argument_mismatch at end ws (fail _ at _ (same_no q)) t

  pub apply_short : {r : Answer Typed Refusal} → n ≤ 1 + m → told r ≡ refused argument_mismatch at → TypeFormed (app_type at d C e E) end ws ws r
  apply_short l = unlike λ q.
      let s : size E ≡ size d = ap size q in
      let f = function_size in
      let k = j.argument_words in
      let p = size_pos C in
      omega arith

  -- the words compared
  domain_part : size E ≡ size d → take (1 + m - 1) (drop 1 ws) ≡ encode d
  domain_part s =
      let k = j.argument_words in
      let i : 1 + m - 1 ≡ size d = omega arith in
      ap (λ (i : ℕ). take i (drop 1 ws)) i ∙ at_part (at_left j.function)

  type_words : take (n + m - n) (drop n ws) ≡ encode E
  type_words =
      let k = j.argument_words in
      let i : n + m - n ≡ size E = omega arith in
      ap (λ (i : ℕ). take i (drop n ws)) i ∙ type_part j.argument

  pub apply_differs : {r : Answer Typed Refusal} {b : Bool} → b ≡ false → (take (1 + m - 1) (drop 1 ws) ≡ take (n + m - n) (drop n ws) → b ≡ true)
      → told r ≡ refused argument_mismatch at → TypeFormed (app_type at d C e E) end ws ws r
  apply_differs z f = unlike (λ q. clash (cc (f (domain_part (ap size q) ∙ ap encode (sym q) ∙ sym type_words))))

  module _ (agree : take (1 + m - 1) (drop 1 ws) ≡ take (n + m - n) (drop n ws)) where
    domain_is : E ≡ d
    domain_is =
        let l = at_left j.function in
        begins (drop 1 ws) l.rest (1 + m - 1) E d (in_range E j.argument.plain) (plain_in_range d l.plain) (agree ∙ type_words) l.words

    pub body_at : At ws (1 + m) C
    body_at = subst (λ (i : ℕ). At ws i C) (ap (λ (i : ℕ). 1 + i) (sym (j.argument_words ∙ ap size domain_is))) (at_right j.function)

    pub argument_is : Is (take (end - next) (drop next proof)) e
    argument_is = record { plain = j.here.plain; words = part_is end j.here j.end_is }

    filled_type : (o : Result Term) → measured at (fill C e) ≡ o → app_type at d C e E ≡ o
    filled_type o q = pass argument_mismatch at (same_yes domain_is) q

    module _ {zeros filled : List ℕ} {r : Option Filled} (f : FilledTo C (fill_at 0 e C) (1 + m) zeros 0 filled r) where
      pub filled_fits : (g : Filled) → r ≡ Some g → g.end ≤ length zeros
      filled_fits g o = (done_is C (fill_at 0 e C) (1 + m) 0 (length zeros) f.answer g o).fits

      pub apply_over : {a : Answer Typed Refusal} → length zeros ≡ most_type_words → r ≡ None → told a ≡ refused type_too_long at
          → TypeFormed (app_type at d C e E) end ws ws a
      apply_over l o t =
          let g = over_is C (fill_at 0 e C) (1 + m) 0 (length zeros) f.answer o in
          formed_refused _ type_too_long at end ws (filled_type _ (measured_long at (fill C e) (omega arith))) t

      pub apply_done : length zeros ≤ most_type_words → {new : List ℕ} (g : Filled) → r ≡ Some g → new ≡ written_at ws 0 (take g.end (drop 0 filled))
          → TypeFormed (app_type at d C e E) end ws new (Ok (record { words = g.end; end = end }))
      apply_done l {new} g o c =
          let was = done_is C (fill_at 0 e C) (1 + m) 0 (length zeros) f.answer g o in
          let s : g.end ≡ size (fill_at 0 e C) = let x : g.end ≡ 0 + size (fill_at 0 e C) = was.end_is in omega arith in
          let fits = was.fits in
          let small : size (fill C e) ≤ most_type_words = omega arith in
          let b : filled ≡ written_at zeros 0 (encode (fill_at 0 e C)) = f.words (omega arith) in
          writes _ (fill C e) g.end end ws ws new (filled_type _ (measured_fits at (fill C e) small)) s small (j.plain domain_is small) refl
          (c ∙ ap (written_at ws 0) (written_front zeros filled (encode (fill_at 0 e C)) g.end b (s ∙ sym (encode_size (fill_at 0 e C)))))

-- the numbers of the types
pub record AppSizes (len plen n next end C e : ℕ) : Type 0 where
  pub body : C ≤ n
  pub small : n ≤ most_type_words
  pub room : n + front_words ≤ len
  pub argument : next + e ≤ plen
  pub end_is : end ≡ next + e
  pub short : plen ≤ most_words

pub app_sizes : {proof ws : List ℕ} {next n m end : ℕ} (p : Appliable proof ws next n m end)
    → AppSizes (length ws) (length proof) n next end (size p.C) (size p.e)
app_sizes p =
    let k = function_size 0 p.applies in
    record { body = omega arith; small = p.small; room = p.room; argument = at_end p.applies.here; end_is = p.applies.end_is; short = p.short }

-- what is asked for the body to be filled
pub body_fillable : {proof ws : List ℕ} {next n m end : ℕ} (p : Appliable proof ws next n m end)
    → take (1 + m - 1) (drop 1 ws) ≡ take (n + m - n) (drop n ws) → Fillable ws (1 + m) 0 (take (end - next) (drop next proof))
body_fillable p agree =
    let s = app_sizes p in
    let i = argument_is 0 p.applies agree in
    record {
      term = p.C;
      here = body_at 0 p.applies agree;
      deep = omega (arith, s);
      filler = p.e;
      lends = i;
      short = omega (arith, size_is _ p.e i, s);
    }

-- ---- a Sign

module _ {proof ws : List ℕ} {at n end a : ℕ} {q s : Term} (j : Signs proof ws at n end a q s) {b : Bool} (f : b ≡ same s P) where
  pub sign_unlike : {r : Answer Typed Refusal} → b ≡ false → told r ≡ refused condition_fails at → TypeFormed (sign_type at a q s) end ws ws r
  sign_unlike t = formed_refused _ condition_fails at end ws (fail _ at _ (sym f ∙ t))

  module _ (t : b ≡ true) where
    signed_type : (o : Result Term) → measured at (Says (Name a) q) ≡ o → sign_type at a q s ≡ o
    signed_type o e = pass condition_fails at (sym f ∙ t) e

    signed_size : end - at + 1 ≡ size (Says (Name a) q)
    unfolding size
    signed_size = let e : end ≡ at + suc (size q) = j.end_is in omega arith

    pub sign_long : {r : Answer Typed Refusal} → most_type_words < end - at + 1 → told r ≡ refused type_too_long at
        → TypeFormed (sign_type at a q s) end ws ws r
    sign_long l = let z = signed_size in formed_refused _ type_too_long at end ws (signed_type _ (measured_long at _ (omega arith)))

    pub sign_done : {new : List ℕ} {n : ℕ} → n ≡ payload_of (get_or proof at 0) → end - at + 1 ≤ most_type_words → 2 ≤ length ws
        → new ≡ written_at (set (set ws 0 (op_word saysO)) 1 (word tag_name n)) 2 (take (end - at + 1 - 2) (drop (at + 1) proof))
        → TypeFormed (sign_type at a q s) end ws new (Ok (record { words = end - at + 1; end = end }))
    unfolding size encode Plain
    sign_done {new} {n} r l m c =
        let z : end - at + 1 ≡ suc (1 + size q) = signed_size in
        let small : size (Says (Name a) q) ≤ most_type_words = omega arith in
        let k : end - at + 1 - 2 ≡ size q = omega arith in
        let g : a < payloads = j.here.plain.0 in
        let h : get_or proof at 0 ≡ word tag_sign a = at_head j.here in
        let p : n ≡ a = omega arith in
        let i : length (set ws 0 (op_word saysO)) ≡ length ws = length-set ws 0 (op_word saysO) in
        writes _ (Says (Name a) q) _ end ws ws new (signed_type _ (measured_fits at _ small)) z small (inl (g, j.here.plain.1)) refl
        (written_cons ws new 0 (op_word saysO) (word tag_name a ∷ encode q) (omega arith)
        (written_cons (set ws 0 (op_word saysO)) new 1 (word tag_name a) (encode q) (omega arith)
        (c ∙ ap₂ (λ (p : ℕ) (k : ℕ). written_at (set (set ws 0 (op_word saysO)) 1 (word tag_name p)) 2 (take k (drop (at + 1) proof))) p k
        ∙ ap (written_at (set (set ws 0 (op_word saysO)) 1 (word tag_name a)) 2) (at_part (at_sign j.here)))))

-- the numbers of a Sign
pub record SignSizes (len plen at end : ℕ) : Type 0 where
  pub some : at + 2 ≤ end
  pub inside : end ≤ plen
  pub short : plen ≤ most_words
  pub room : front_words ≤ len

pub sign_sizes : {proof ws : List ℕ} {at n end : ℕ} → Signable proof ws at n end → SignSizes (length ws) (length proof) at end
unfolding size
sign_sizes {at} {end} p =
    let e : end ≡ at + suc (size p.q) = p.signs.end_is in
    let h = at_end p.signs.here in
    let k = size_pos p.q in
    record { some = omega arith; inside = omega arith; short = p.short; room = p.room }

-- ---- a Lam or a Ret

-- a type that is a proposition is no sort
proposition_plain : (A : Term) → PlainType A → proposition A ≡ true → Plain A
unfolding conclusion same_term
proposition_plain A (inl p) e = p
proposition_plain A (inr (inl q)) e = let k : proposition KindP ≡ true = ap proposition (sym q) ∙ e in absurd (clash (cc))
proposition_plain A (inr (inr q)) e = let k : proposition KindT ≡ true = ap proposition (sym q) ∙ e in absurd (clash (cc))

module _ {proof ws : List ℕ} {at next m : ℕ} (end : ℕ) (o : Op) {a B : Term} (j : Pairs proof ws at next m a B) {b : Bool} (f : b ≡ proposition B) where
  pub pair_unlike : {r : Answer Typed Refusal} → b ≡ false → told r ≡ refused condition_fails at → TypeFormed (pair_type at o a B) end ws ws r
  pair_unlike t = formed_refused _ condition_fails at end ws (fail _ at _ (sym f ∙ t))

  module _ (t : b ≡ true) where
    pair_measured : (p : Result Term) → measured at (node o a B) ≡ p → pair_type at o a B ≡ p
    pair_measured p e = pass condition_fails at (sym f ∙ t) e

    pair_size : next - at + m ≡ size (node o a B)
    unfolding size
    pair_size = let e = j.next_is in let k = j.type_words in omega arith

    pub pair_long : {r : Answer Typed Refusal} → most_type_words < next - at + m → told r ≡ refused type_too_long at
        → TypeFormed (pair_type at o a B) end ws ws r
    pair_long l = let z = pair_size in formed_refused _ type_too_long at end ws (pair_measured _ (measured_long at _ (omega arith)))

    -- the type is copied out of the way, the head word and the first child are written, and the type behind them
    pub pair_done : {head : ℕ} {aside mid new : List ℕ} → head ≡ op_word o → next - at + m ≤ most_type_words → front_words ≤ length ws
        → length aside ≡ length ws
        → aside ≡ written_at ws most_type_words (take m (drop 0 ws))
        → mid ≡ written_at (set aside 0 head) 1 (take (next - at - 1) (drop (at + 1) proof))
        → new ≡ written_at mid (next - at) (take m (drop most_type_words mid))
        → TypeFormed (pair_type at o a B) end ws new (Ok (record { words = next - at + m; end = end }))
    unfolding size encode Plain
    pair_done {head} {aside} {mid} {new} h l w z ea em en =
        let e = j.next_is in
        let k = j.type_words in
        let s : next - at + m ≡ suc (size a + size B) = pair_size in
        let small : size (node o a B) ≤ most_type_words = omega arith in
        let la : length (encode a) ≡ size a = encode_size a in
        let lb : length (encode B) ≡ size B = encode_size B in
        let first_words : take (next - at - 1) (drop (at + 1) proof) ≡ encode a = let i : next - at - 1 ≡ size a = omega arith in
        ap (λ (i : ℕ). take i (drop (at + 1) proof)) i ∙ at_part j.here in
        let type_words : take m (drop 0 ws) ≡ encode B = ap (λ (i : ℕ). take i (drop 0 ws)) k ∙ type_part j.type in
        let ea' : aside ≡ written_at ws most_type_words (encode B) = ea ∙ ap (written_at ws most_type_words) type_words in
        let em' : mid ≡ written_at (set aside 0 (op_word o)) 1 (encode a) = em ∙ ap₂ (λ (v : ℕ) (l : List ℕ). written_at (set aside 0 v) 1 l) h
        first_words in
        let ef : mid ≡ written_at aside 0 (op_word o ∷ encode a) = written_cons aside mid 0 (op_word o) (encode a) (omega arith) em' in
        let back : take m (drop most_type_words mid) ≡ encode B = ap (take m)
        (written_kept aside mid (op_word o ∷ encode a) 0 most_type_words (omega arith) ef (omega arith))
        ∙ written_there ws aside (encode B) most_type_words m (omega arith) ea' (k ∙ sym lb) in
        let i : next - at ≡ 1 + size a = omega arith in
        writes _ (node o a B) (next - at + m) end ws aside new (pair_measured _ (measured_fits at _ small)) s small
        (inl (j.here.plain, proposition_plain B j.type.plain (sym f ∙ t)))
        (written_kept ws aside (encode B) most_type_words front_words (omega arith) ea' (omega arith))
        (written_node aside mid new 0 (op_word o) (size a) (encode a) (encode B) (omega arith) (sym la) em' (en ∙ ap₂ (written_at mid) i back))

-- the numbers of the first child and of the second's type
pub record PairSizes (len plen at next m : ℕ) : Type 0 where
  pub some : at + 2 ≤ next
  pub inside : next ≤ plen
  pub short : plen ≤ most_words
  pub type : 1 ≤ m
  pub small : m ≤ most_type_words
  pub room : front_words ≤ len

pub pair_sizes : {proof ws : List ℕ} {at next m : ℕ} → Pairable proof ws at next m → PairSizes (length ws) (length proof) at next m
pair_sizes p =
    let e = p.pairs.next_is in
    let h = at_end p.pairs.here in
    let k = size_pos p.a in
    let b = size_pos p.B in
    let w = p.pairs.type_words in
    record { some = omega arith; inside = omega arith; type = omega arith; short = p.short; small = p.small; room = p.room }

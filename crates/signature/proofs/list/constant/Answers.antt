-- `constant` tests one constant of the list: its length word, its words, and its type, which is a common one or is
-- derived.
use Prim.Native.Nat.{ℕ, ◌+◌, ◌-◌}
use native.Mathlib.Omega.{arith}
use mathlib.Core.Path.{◌≡◌, refl, sym, ap, ◌∙◌}
use mathlib.Core.List.{List}
use lib.ListN.{take, drop, get_or}
use Rattle.logic.specs.Term.{kindPA}
use Rattle.logic.specs.SignatureList.{constant as constant-type}
use Rattle.signature.specs.Listing.{succeeded}
use Rattle.signature.proofs.Listings.{no_length_word, too_many_words, known_type, cut_off, constant_not_typed, typed_kind}
use Rattle.signature.proofs.list.constant.Goals as goal
use Rattle.signature.proofs.list.constant.Goals.{then-n-lt1-via-then-n-lt1, then-n-lt1-via-else-n-lt1+then-n-gt-MOST_CONSTANT_WORDS}
use Rattle.signature.proofs.list.constant.Goals.{then-n-lt1-via-else-n-lt1+else-n-gt-MOST_CONSTANT_WORDS+then-sig-start}

-- what is lent of the list is the constant's words
lent : (sig : List ℕ) (at : ℕ) → take (at + 1 + get_or sig at 0 - (at + 1)) (drop (at + 1) sig) ≡ take (get_or sig at 0) (drop (at + 1) sig)
lent sig at =
    let e : at + 1 + get_or sig at 0 - (at + 1) ≡ get_or sig at 0 = omega arith in
    ap (λ (i : ℕ). take i (drop (at + 1) sig)) e

pub returns-then-n-lt1 : goal.returns-then-n-lt1
returns-then-n-lt1 c =
    let a = c.args in
    let sig = a.constants.sig.now in
    λ Σ C. elim c.then-n-lt1.branch [
      | then-n-lt1-via-then-n-lt1 w ↦ no_length_word Σ sig a.at c.requires.inside w.if-n-lt1.true
      | then-n-lt1-via-else-n-lt1+then-n-gt-MOST_CONSTANT_WORDS w ↦ too_many_words Σ sig a.at c.requires.inside w.if-n-gt-MOST_CONSTANT_WORDS.true
      | then-n-lt1-via-else-n-lt1+else-n-gt-MOST_CONSTANT_WORDS+then-sig-start w ↦ cut_off Σ sig a.at c.requires.inside w.if-sig-start.true
    ]

pub returns-then-common : goal.returns-then-common
returns-then-common c =
    let a = c.args in
    let sig = a.constants.sig.now in
    λ Σ C. known_type Σ sig a.at c.requires.inside c.if-n-lt1.false c.if-n-gt-MOST_CONSTANT_WORDS.false c.if-sig-start.false
    (ap (λ (l : List ℕ). succeeded (constant-type Σ l)) (sym (lent sig a.at)) ∙ c.common.ensures Σ c.if-common.true)

pub returns-then-is_ok : goal.returns-then-is_ok
returns-then-is_ok c =
    let a = c.args in
    let sig = a.constants.sig.now in
    λ Σ C. typed_kind Σ sig a.at c.requires.inside c.if-n-lt1.false c.if-n-gt-MOST_CONSTANT_WORDS.false c.if-sig-start.false (lent sig a.at)
    c.check_term.result (c.check_term.ensures Σ C) (sym c.is_ok.ensures.value ∙ c.if-is_ok.true) (λ A h. c.front_is.ensures A kindPA h refl tt)

pub returns-else-is_ok : goal.returns-else-is_ok
returns-else-is_ok c =
    let a = c.args in
    let sig = a.constants.sig.now in
    λ Σ C. c.if-is_ok.false
    ∙ constant_not_typed Σ sig a.at c.requires.inside c.if-n-lt1.false c.if-n-gt-MOST_CONSTANT_WORDS.false c.if-sig-start.false (lent sig a.at)
    c.check_term.result (c.check_term.ensures Σ C) (sym c.is_ok.ensures.value ∙ c.if-is_ok.false)

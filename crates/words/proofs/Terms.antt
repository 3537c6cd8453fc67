-- Tests 6 to 8 on a term's words, one after the other.
use Prim.Native.Nat.{ℕ, ◌≤◌, ◌<◌}
use mathlib.Core.Path.{◌≡◌, ap, ◌∙◌}
use mathlib.Core.Bool.{Bool, true, ◌&&◌, and-false}
use mathlib.Core.List.{List}
use lib.Dec.{leb}
use lib.ListN.{length}
use borrow.Author.Tests.{le-leb, lt-leb}
use Rattle.logic.specs.Refusals.{term_length, nesting}
use Rattle.logic.specs.Result.{ok, refused, ◌>>=◌, ◌>>◌, nowhere}
use Rattle.logic.specs.Term.{Term}
use Rattle.logic.specs.Reading.{read_whole, too_deep}
use Rattle.logic.specs.Check.{term_of}
use Rattle.logic.proofs.Results.{pass, true_both}
use Rattle.logic.proofs.Stopped.{fail}
use Rattle.words.specs.Place.{Is}
use Rattle.words.specs.Parsing.{whole_end}
use Rattle.words.specs.Nesting.{nested_to}
use Rattle.words.proofs.Parses.{whole_term}
use Rattle.words.proofs.Nestings.{within_is, past_whole}

module _ (most deep : ℕ) (ws : List ℕ) where
  pub long_term : most < length ws → term_of most deep ws ≡ refused term_length 0
  long_term h = fail term_length 0 _ (ap (λ (x : Bool). leb 1 (length ws) && x) (lt-leb (length ws) most h) ∙ and-false (leb 1 (length ws)))

  module _ (some_word : 1 ≤ length ws) (not_more : length ws ≤ most) where
    in_range : (leb 1 (length ws) && leb (length ws) most) ≡ true
    in_range = true_both (le-leb 1 (length ws) some_word) (le-leb (length ws) most not_more)

    module _ (t : Term) (is : read_whole ws ≡ ok t) where
      read_term : term_of most deep ws ≡ (nowhere nesting (too_deep deep 0 t) >> ok t)
      read_term = pass term_length 0 in_range (ap (λ x. x >>= λ t. nowhere nesting (too_deep deep 0 t) >> ok t) is)

      pub deep_term : (m p : ℕ) → nested_to deep 0 t ≡ refused m p → term_of most deep ws ≡ refused m p
      deep_term m p e = read_term ∙ past_whole deep 0 m p t e

      pub good_term : (end : ℕ) → nested_to deep 0 t ≡ ok end → term_of most deep ws ≡ ok t
      good_term end e = read_term ∙ ap (λ x. nowhere nesting x >> ok t) (within_is deep 0 end t e).0

-- the term that was read
pub record TermIn (ws : List ℕ) : Type 0 where
  pub term : Term
  pub read : read_whole ws ≡ ok term
  pub is : Is ws term

pub term_in : (ws : List ℕ) (end : ℕ) → whole_end (read_whole ws) ≡ ok end → TermIn ws
term_in ws end e = let (t, f, i, n) = whole_term ws end e in record { term = t; read = f; is = i }

-- The call: "Check's tests come first", then the steps, then the output's length.
use Rattle.std.specs.Prelude.{ℕ, List, leb}
use Rattle.logic.specs.Limits.{most_words, most_nesting}
use Rattle.logic.specs.Refusals.{output_short}
use Rattle.logic.specs.Result.{Result, ok, ◌>>=◌, ◌>>◌, require}
use Rattle.logic.specs.Term.{Term, size, encode}
use Rattle.logic.specs.Check.{term_of}
use Rattle.register.specs.Calls.{Lent, check_call}
use Rattle.words.specs.Place.{after_write}
use Rattle.reduction.specs.Simplify.{Simplified, simplify}

-- "after that an output shorter than the result is 25"; room is the output's length
abbrev pub fitting_result : (room : ℕ) → Simplified → Result Simplified
fitting_result room r = do
  require (leb (size r.result) room) output_short 0
  ok r

-- a term's steps, then the output's length
abbrev pub simplify_into : (budget room : ℕ) → Term → Result Simplified
simplify_into budget room t = do
  r ← simplify budget t
  fitting_result room r

-- behind check's tests: the term that the words are
abbrev pub simplify_own : (budget room : ℕ) → List ℕ → Result Simplified
simplify_own budget room ws = do
  t ← term_of most_words most_nesting ws
  simplify_into budget room t

-- on a day, the term with the words ws
abbrev pub simplify_call : Lent → List ℕ → (day : ℕ) → List ℕ → (budget room : ℕ) → Result Simplified
simplify_call l reg day ws budget room = do
  check_call l reg day ws
  simplify_own budget room ws

-- the words that are written
abbrev pub result_words : Result Simplified → Result (List ℕ)
result_words o = o >>= λ r. ok (encode r.result)

-- the output that the call leaves
abbrev pub after_simplify : Result Simplified → List ℕ → List ℕ
after_simplify o out = after_write (result_words o) out

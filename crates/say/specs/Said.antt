-- What a say answers and leaves, by the definitions of `register`.
use Rattle.std.specs.Prelude.{ℕ, ◌≤◌, ◌≡◌, Bool, true, false, List, length}
use Rattle.logic.specs.Limits.{most_words}
use Rattle.std.specs.Prelude.{Result as Answer}
use Rattle.logic.specs.Answer.{answer as told}
use Rattle.logic.specs.Result.{Result, ok, ◌>>=◌}
use Rattle.logic.specs.declared.refusal.Refusal.{Refusal}
use Rattle.logic.specs.Term.{Term}
use Rattle.words.specs.Place.{Is}
use Rattle.register.specs.Records.{Content, Statement, register_content}
use Rattle.register.specs.Calls.{Lent, say_call, after_say}
use Rattle.say.specs.declared.Said.{Said}
use Rattle.say.specs.declared.Said.TheVariants.{Added, Held}

-- whether it added a record: "Success answers 0 at place 0, and say also whether it added a record"
abbrev pub adds : Said → Bool
adds Added = true
adds Held = false

abbrev pub said_answer : Answer Said Refusal → Result Bool
said_answer r = told r >>= λ s. ok (adds s)

-- the answer, and the register afterwards
pub record SaysAs (l : Lent) (old : List ℕ) (day : ℕ) (st : Statement) (new : List ℕ) (r : Answer Said Refusal) : Type 0 where
  pub answer : said_answer r ≡ say_call l old day st
  pub register : new ≡ after_say (say_call l old day st) old day st

-- a plain term of few words, and a register that is not broken
pub record Enterable (reg ws : List ℕ) : Type 0 where
  pub content : Content
  pub reads : register_content reg ≡ ok content
  pub term : Term
  pub is : Is ws term
  pub short : length ws ≤ most_words

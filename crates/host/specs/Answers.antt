-- What a host program in C gets: the answer as one 64-bit number, and what stands in the buffers that it lent.
use Rattle.std.specs.Prelude.{ℕ, ◌+◌, ◌*◌, ◌≤◌, ◌<◌, ◌≡◌, Bool, true, false, List, length, take, drop}
use Rattle.logic.specs.Refusals.{last_refusal}
use Rattle.logic.specs.Result.{Result, ok, refused, ◌>>=◌, ◌>>◌, without_value}
use Rattle.logic.specs.Term.{Term}
use Rattle.register.specs.Records.{Statement, Ask, record_head, used_by, register_content}
use Rattle.register.specs.Calls.{Lent, open_call, after_open, say_call, after_say, request_call, after_request, type_of, read_call, body_of, kind_of}
use Rattle.register.specs.Marks.{mark_call, after_mark, return_call, after_return, marks_after_return, marks_after_open}
use Rattle.register.specs.Batch.{Batched, all_granted, refused_at, batch_call, batch_leaves}
use Rattle.words.specs.Place.{after_write}
use Rattle.extract.specs.Extract.{extract_call}
use Rattle.reduction.specs.Simplify.{Simplified}
use Rattle.reduction.specs.Call.{result_words, after_simplify}

-- "the refusal number times 4294967296 plus the place"
abbrev pub number_unit : ℕ
number_unit = 4294967296

-- places are below this: a signature and a term that are lent have fewer words
abbrev pub place_limit : ℕ
place_limit = 4611686018427387904

abbrev pub code_of : {X : Type 0} → Result X → ℕ
code_of (ok x) = 0
code_of (refused m p) = m * number_unit + p

-- a number and a place that make up an answer, and an answer whose refusal does
abbrev pub Fits : (number place : ℕ) → Type 0
Fits m p = (m ≤ last_refusal) × (p < place_limit)

abbrev pub Tellable : {X : Type 0} → Result X → Type 0
Tellable o = (m p : ℕ) → o ≡ refused m p → Fits m p

-- an open
pub record OpenedTo (l : Lent) (old list : List ℕ) (mode : ℕ) (rules new new-list : List ℕ) (code : ℕ) : Type 0 where
  pub answer : code ≡ code_of (open_call l old mode rules)
  pub register : new ≡ after_open (open_call l old mode rules) old mode
  pub marks : new-list ≡ marks_after_open (open_call l old mode rules) list

-- a mark that is set, and a return to one
pub record MarkedTo (reg list : List ℕ) (n : ℕ) (new-list : List ℕ) (code : ℕ) : Type 0 where
  pub answer : code ≡ code_of (mark_call reg list n)
  pub marks : new-list ≡ after_mark (mark_call reg list n) list

pub record ReturnedTo (old list : List ℕ) (n : ℕ) (new new-list : List ℕ) (code : ℕ) : Type 0 where
  pub answer : code ≡ code_of (return_call old list n)
  pub register : new ≡ after_return (return_call old list n) old
  pub marks : new-list ≡ marks_after_return (return_call old list n) list

-- a say: 1 where it added a record, else 0
abbrev pub added_of : Result Bool → ℕ
added_of (ok true) = 1
added_of (ok false) = 0
added_of (refused m p) = 0

pub record SaidTo (l : Lent) (old : List ℕ) (day : ℕ) (st : Statement) (new : List ℕ) (added code : ℕ) : Type 0 where
  pub answer : code ≡ code_of (say_call l old day st)
  pub register : new ≡ after_say (say_call l old day st) old day st
  pub added_is : added ≡ added_of (say_call l old day st)

-- a request
pub record RequestedTo (l : Lent) (old : List ℕ) (k : Ask) (new : List ℕ) (code : ℕ) : Type 0 where
  pub answer : code ≡ code_of (request_call l old k)
  pub register : new ≡ after_request (request_call l old k) old k

-- a batch: also the index of the item refused, 0 where all are granted
abbrev pub batch_code_of : Batched → ℕ
batch_code_of all_granted = 0
batch_code_of (refused_at i m p) = m * number_unit + p

abbrev pub index_of : Batched → ℕ
index_of all_granted = 0
index_of (refused_at i m p) = i

pub record BatchedTo (l : Lent) (old : List ℕ) (day : ℕ) (items new : List ℕ) (index code : ℕ) : Type 0 where
  pub answer : code ≡ batch_code_of (batch_call l old day items)
  pub register : new ≡ batch_leaves l old day items
  pub index_is : index ≡ index_of (batch_call l old day items)

-- an extract: also the output
pub record ExtractedTo (l : Lent) (reg : List ℕ) (k : Ask) (homes surveys new old out : List ℕ) (code : ℕ) : Type 0 where
  pub answer : code ≡ code_of (extract_call l reg k homes surveys (length old))
  pub register : new ≡ after_request (without_value (extract_call l reg k homes surveys (length old))) reg k
  pub output : out ≡ after_write (extract_call l reg k homes surveys (length old)) old

-- a conversion: also how many words were written, 0 where refused
abbrev pub written_of : Result (List ℕ) → ℕ
written_of (ok xs) = length xs
written_of (refused m p) = 0

pub record ConvertedTo (o : Result (List ℕ)) (old out : List ℕ) (written code : ℕ) : Type 0 where
  pub answer : code ≡ code_of o
  pub output : out ≡ after_write o old
  pub written_is : written ≡ written_of o

-- a count of free variables, 0 where refused
abbrev pub count_of : Result ℕ → ℕ
count_of (ok n) = n
count_of (refused m p) = 0

pub record CountedTo (o : Result ℕ) (count code : ℕ) : Type 0 where
  pub answer : code ≡ code_of o
  pub count_is : count ≡ count_of o

-- a simplified term: also the output, and how many steps were taken and how many words written, both 0 where refused
abbrev pub steps_of : Result Simplified → ℕ
steps_of (ok s) = s.steps
steps_of (refused m p) = 0

pub record SimplifiedTo (o : Result Simplified) (old out : List ℕ) (steps written code : ℕ) : Type 0 where
  pub answer : code ≡ code_of o
  pub output : out ≡ after_simplify o old
  pub steps_are : steps ≡ steps_of o
  pub written_is : written ≡ written_of (result_words o)

-- a check that tells where the type stands: the first words of the workspace, none where refused
pub record TypedTo (o : Result Term) (workspace : List ℕ) (words code : ℕ) : Type 0 where
  pub answer : code ≡ code_of o
  pub words_are : words ≡ length (type_of o)
  pub type : take words workspace ≡ type_of o

-- where the body of record k starts in the register
abbrev pub body_start : List ℕ → ℕ → Result ℕ
body_start reg k = do
  read_call reg k
  c ← register_content reg
  ok (used_by (take k c.records) + record_head)

abbrev pub start_of : Result ℕ → ℕ
start_of (ok n) = n
start_of (refused m p) = 0

-- a read that tells where the body stands in the register; kind, start and words are 0 where refused
pub record ReadTo (reg : List ℕ) (k kind start words code : ℕ) : Type 0 where
  pub answer : code ≡ code_of (read_call reg k)
  pub kind_is : kind ≡ kind_of (read_call reg k)
  pub start_is : start ≡ start_of (body_start reg k)
  pub words_are : words ≡ length (body_of (read_call reg k))
  pub body : take words (drop start reg) ≡ body_of (read_call reg k)

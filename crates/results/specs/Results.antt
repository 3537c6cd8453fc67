-- What the code of the results is asked.
use Rattle.std.specs.Prelude.{ℕ, ◌+◌, ◌≤◌, ◌≡◌, List, ◌++◌, length}
use Rattle.logic.specs.Limits.{most_words, most_type_words}
use Rattle.logic.specs.Term.{Op, saysO, piO, lamO, appO, retO, bindO, Term, sign, node, Says, Pi, size}
use Rattle.logic.specs.Move.{raise, fill}
use Rattle.logic.specs.Reading.{Plain, PlainType}
use Rattle.words.specs.Place.{At}
use Rattle.words.specs.Typed.{TypeAt}
use Rattle.rules.specs.Rule.{first_child, second_child}
use Rattle.rules.specs.Scope.{tail, binder_entry}
use Rattle.rules.specs.Form.{front_words}
use Rattle.rules.specs.Enter.{keep_of}

-- the type of a function and of its argument e stand at the front of the workspace, and e in the proof
pub record Applies (proof ws : List ℕ) (next n m end : ℕ) (d C e E : Term) : Type 0 where
  pub function : At ws 0 (Pi d C)
  pub function_words : n ≡ size (Pi d C)
  pub argument : TypeAt ws n E
  pub argument_words : m ≡ size E
  pub here : At proof next e
  pub end_is : end ≡ next + size e
  pub plain : E ≡ d → size (fill C e) ≤ most_type_words → PlainType (fill C e)

pub record Appliable (proof ws : List ℕ) (next n m end : ℕ) : Type 0 where
  pub d : Term
  pub C : Term
  pub e : Term
  pub E : Term
  pub applies : Applies proof ws next n m end d C e E
  pub small : n ≤ most_type_words
  pub small_argument : m ≤ most_type_words
  pub short : length proof ≤ most_words
  pub room : n + front_words ≤ length ws

-- the type B of the second child stands at the front of the workspace, and the first child a in the proof
pub record Pairs (proof ws : List ℕ) (at next m : ℕ) (a B : Term) : Type 0 where
  pub here : At proof (at + 1) a
  pub next_is : next ≡ at + 1 + size a
  pub type : TypeAt ws 0 B
  pub type_words : m ≡ size B

pub record Pairable (proof ws : List ℕ) (at next m : ℕ) : Type 0 where
  pub a : Term
  pub B : Term
  pub pairs : Pairs proof ws at next m a B
  pub small : m ≤ most_type_words
  pub short : length proof ≤ most_words
  pub room : front_words ≤ length ws

-- a Sign stands in the proof, and its proposition's type s at the front of the workspace
pub record Signs (proof ws : List ℕ) (at n end a : ℕ) (q s : Term) : Type 0 where
  pub here : At proof at (sign a q)
  pub end_is : end ≡ at + size (sign a q)
  pub type : TypeAt ws 0 s
  pub type_words : n ≡ size s

pub record Signable (proof ws : List ℕ) (at n end : ℕ) : Type 0 where
  pub a : ℕ
  pub q : Term
  pub s : Term
  pub signs : Signs proof ws at n end a q s
  pub short : length proof ≤ most_words
  pub room : front_words ≤ length ws

-- what the result needs of the first child's type A: of an App a Pi type at the
-- front of the workspace, of a Bind a Says type
abbrev pub First : Op → List ℕ → (b A B : Term) → Type 0
First saysO ws b A B = Unit {0}
First piO ws b A B = Unit {0}
First lamO ws b A B = Unit {0}
First appO ws b A B =
    (A ≡ Pi (first_child A) (second_child A)) × TypeAt ws 0 A ×
    (B ≡ first_child A → size (fill (second_child A) b) ≤ most_type_words → PlainType (fill (second_child A) b))
First retO ws b A B = Unit {0}
First bindO ws b A B = (A ≡ Says (first_child A) (second_child A)) × Plain (raise 1 (first_child A))

-- a node stands in the proof, the type B of its second child behind what is kept at the front of the workspace, and
-- the entry of its binder, if any, at the end
pub record Forms (proof ws : List ℕ) (used at next n m end : ℕ) (o : Op) (a b A B : Term) : Type 0 where
  pub here : At proof at (node o a b)
  pub next_is : next ≡ at + 1 + size a
  pub end_is : end ≡ at + size (node o a b)
  pub first_words : n ≡ size A
  pub first_type : First o ws b A B
  pub second_words : m ≡ size B
  pub second_type : TypeAt ws (keep_of o n) B
  pub rest : List ℕ
  pub kept : tail used ws ≡ binder_entry o at a A ++ rest

pub record Formable (proof ws : List ℕ) (used at next n m end : ℕ) : Type 0 where
  pub o : Op
  pub a : Term
  pub b : Term
  pub A : Term
  pub B : Term
  pub forms : Forms proof ws used at next n m end o a b A B
  pub small_first : n ≤ most_type_words
  pub small_second : m ≤ most_type_words
  pub short : length proof ≤ most_words
  pub room : used + keep_of o n + front_words ≤ length ws

-- Names become counts, and counts names.
use Rattle.std.specs.Prelude.{ℕ, zero, suc, ◌+◌, ◌<◌, ◌≡◌, Bool, true, false, cond, List, [], ◌∷◌, eqb, leb, length}
use Rattle.std.proofs.Math.Option.{Option, some, none}
use Rattle.std.proofs.Math.ListN.{get_elem?}
use Rattle.logic.specs.Limits.{most_words, most_nesting}
use Rattle.logic.specs.Refusals.{unbound, output_short}
use Rattle.logic.specs.Result.{Result, ok, ◌>>=◌, ◌>>◌, known, require}
use Rattle.logic.specs.Term.{Term, atom, var, sign, node, binds, under, encode}
use Rattle.logic.specs.Check.{term_of}
use Rattle.editions.specs.Named.{Label, Named, atom', var', sign', node', size', encode', counted, erased}
use Rattle.editions.specs.Edition.{edition_term}
use Rattle.editions.specs.declared.Edition.{Edition}
use Rattle.editions.specs.declared.Edition.TheVariants.{Counts, Names}

-- ---- the names of the binders in whose body a word stands, within its Sign, nearest first

abbrev pub one_more : Option ℕ → Option ℕ
one_more none = none
one_more (some n) = some (suc n)

-- "a name means the nearest binder that carries it": how many binders are nearer
unfoldable pub nearest : ℕ → List ℕ → Option ℕ
nearest x [] = none
nearest x (y ∷ ns) = cond (eqb x y) (some 0) (one_more (nearest x ns))

-- what a variable becomes: a name the count of binders nearer than its own, a count the name of the binder that it
-- counts to
abbrev pub meaning : Edition → ℕ → List ℕ → Option ℕ
meaning Names x ns = nearest x ns
meaning Counts n ns = get_elem? ns n

-- the names in scope in a node's second child. A binder has its own name; of document 01's edition, "a binder's name is
-- the count of binders in whose body it stands, within its Sign if any"
abbrev pub enter : Edition → (b : Bool) → Label b → List ℕ → List ℕ
enter e false l ns = ns
enter Names true x ns = x ∷ ns
enter Counts true x ns = length ns ∷ ns

-- the name of a binder in what a term is converted into: that count, and none in document 01's edition
abbrev pub relabel : Edition → (b : Bool) → List ℕ → Label b
relabel e false ns = tt
relabel Names true ns = 0
relabel Counts true ns = length ns

-- ---- the conversion of a term that begins at a place

-- from the edition e into the other. "A Sign's proposition starts with no names"; a domain, and the proof of a Bind,
-- are not in the body. "The first unbound name or variable is 24 at its word"
unfoldable pub convert : Edition → List ℕ → ℕ → Named → Result Named
convert e ns at (atom' a) = ok (atom' a)
convert e ns at (var' x) = do
  y ← known unbound at (meaning e x ns)
  ok (var' y)
convert e ns at (sign' p q) = do
  r ← convert e [] (at + 1) q
  ok (sign' p r)
convert e ns at (node' o l a b) = do
  s ← convert e ns (at + 1) a
  t ← convert e (enter e (binds o) l ns) (at + 1 + size' a) b
  ok (node' o (relabel e (binds o) ns) s t)

-- a named term with counts for names
abbrev pub unname : Named → Result Term
unname s = do
  t ← convert Names [] 0 s
  ok (erased t)

-- a term of document 01 with names for counts
abbrev pub name : Term → Result Named
name t = convert Counts [] 0 (counted t)

-- "closed even within each Sign": every variable has its binder within its Sign, or else it has one of the d binders
-- outside
unfoldable pub Closed : ℕ → Term → Type 0
Closed d (atom a) = Unit {0}
Closed d (var n) = n < d
Closed d (sign p q) = Closed 0 q
Closed d (node o a b) = Closed d a × Closed (under (binds o) suc d) b

-- ---- the two calls on words: 6 to 8, then 24, then 25

-- the words that are written into an output of so many words: "an output shorter than the term is 25 after it"
abbrev pub fitting : ℕ → List ℕ → Result (List ℕ)
fitting room ws = do
  require (leb (length ws) room) output_short 0
  ok ws

abbrev pub from_named : List ℕ → ℕ → Result (List ℕ)
from_named ws room = do
  s ← edition_term Names ws
  t ← unname s
  fitting room (encode t)

abbrev pub to_named : List ℕ → ℕ → Result (List ℕ)
to_named ws room = do
  t ← term_of most_words most_nesting ws
  s ← name t
  fitting room (encode' s)

-- the call that converts from the edition e
abbrev pub converted : Edition → List ℕ → ℕ → Result (List ℕ)
converted Names ws room = from_named ws room
converted Counts ws room = to_named ws room

-- ---- what the names in scope are, for the laws and the code

-- the names that d binders of document 01's edition get, nearest first
unfoldable pub upto : ℕ → List ℕ
upto zero = []
upto (suc d) = d ∷ upto d

-- the names in scope are as a conversion from the edition has them
abbrev pub ScopeOf : Edition → List ℕ → Type 0
ScopeOf Names ns = Unit {0}
ScopeOf Counts ns = ns ≡ upto (length ns)

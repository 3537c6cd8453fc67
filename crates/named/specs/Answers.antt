-- What the code is asked and what it ensures.
use Rattle.std.specs.Prelude.{ℕ, ◌+◌, ◌≤◌, ◌≡◌, Bool, true, false, cond, List, ◌++◌, Some, None, length, drop}
use Rattle.std.specs.Prelude.{Option as Maybe}
use Rattle.std.proofs.Math.Option.{Option, some, none}
use Rattle.logic.specs.Limits.{most_nesting}
use Rattle.logic.specs.Result.{Result, ok, ◌>>=◌}
use Rattle.logic.specs.Term.{payload_of}
use Rattle.logic.specs.Reading.{depth}
use Rattle.logic.specs.declared.word.Class.{Class}
use Rattle.logic.specs.declared.word.Class.TheVariants.{Atom, Variable, Sign, Node, Binder, NoTerm}
use Rattle.words.specs.Place.{written_at, after_write}
use Rattle.editions.specs.Named.{Named, label, labelled, encode', erased}
use Rattle.editions.specs.Edition.{Plain', tag_word}
use Rattle.editions.specs.Convert.{enter, relabel, ScopeOf}
use Rattle.editions.specs.declared.Edition.{Edition}
use Rattle.named.specs.declared.scope.Scope.{Scope}

-- ---- the names in scope

-- nearest first
abbrev pub in_scope : Scope → List ℕ
in_scope s = drop s.start s.names

abbrev pub is_binder : Class → Bool
is_binder Atom = false
is_binder Variable = false
is_binder Sign = false
is_binder Node = false
is_binder Binder = true
is_binder NoTerm = false

-- the names in scope in the second child of a node, and its word in the other edition, by its class
abbrev pub enter_by : Edition → Class → (word : ℕ) → List ℕ → List ℕ
enter_by e k w ns = enter e (is_binder k) (label (is_binder k) (payload_of w)) ns

abbrev pub relabel_by : Edition → Class → (word : ℕ) → List ℕ → ℕ
relabel_by e k w ns = labelled (is_binder k) (relabel e (is_binder k) ns) (cond (is_binder k) (tag_word w) w)

-- what each case says
abbrev pub meant : Maybe ℕ → Option ℕ
meant (Some y) = some y
meant None = none

-- ---- a term that is converted in its place

-- the words of the term s of an edition stand in ws from the place at on
pub record EditionAt (e : Edition) (ws : List ℕ) (at : ℕ) (s : Named) : Type 0 where
  pub plain : Plain' e s
  pub rest : List ℕ
  pub words : drop at ws ≡ encode' s ++ rest

-- a term stands at a place, with these names in scope, there is room for it, and the names of its binders fit
pub record Convertible (e : Edition) (ws : List ℕ) (at : ℕ) (names : List ℕ) (out : List ℕ) : Type 0 where
  pub scoped : ScopeOf e names
  pub s : Named
  pub here : EditionAt e ws at s
  pub room : length ws ≤ length out
  pub deep : length names + depth (erased s) ≤ most_nesting

-- of the term that ends there o was made, and its words are written at the same place
pub record WroteTerm (o : Result Named) (at end : ℕ) (old new : List ℕ) (r : Result ℕ) : Type 0 where
  pub answer : r ≡ (o >>= λ t. ok end)
  pub words : (t : Named) → o ≡ ok t → new ≡ written_at old at (encode' t)

-- ---- the calls

-- the answer is how many words were written; and the whole output
pub record ConvertedAs (o : Result (List ℕ)) (old new : List ℕ) (r : Result ℕ) : Type 0 where
  pub answer : r ≡ (o >>= λ xs. ok (length xs))
  pub output : new ≡ after_write o old

-- The two editions: which terms their words give, and how they are read. One reader serves both: document 01's, on the
-- words without the names of their binders. In document 01's edition these are the words themselves.
use Rattle.std.specs.Prelude.{ℕ, suc, ◌+◌, ◌≤◌, ◌<◌, ◌≡◌, Bool, true, false, cond, List, map, ◌++◌, length, take, get_or}
use Rattle.logic.specs.Limits.{payloads, most_words, most_nesting}
use Rattle.logic.specs.Result.{Result, ok, ◌>>=◌}
use Rattle.logic.specs.Term.{Term, atom, var, sign, node, binds, word, tag_of, payload_of, size}
use Rattle.logic.specs.Reading.{word_shape, PlainAtom, depth}
use Rattle.logic.specs.Kind.{shape_binds}
use Rattle.logic.specs.Check.{term_of}
use Rattle.editions.specs.Named.{Label, Named, atom', var', sign', node', label, encode', erased}
use Rattle.editions.specs.declared.Edition.{Edition}
use Rattle.editions.specs.declared.Edition.TheVariants.{Counts, Names}

-- the edition that a term is converted into
abbrev pub other : Edition → Edition
other Counts = Names
other Names = Counts

-- ---- the terms of an edition

-- a binder has any payload as its name; in document 01's edition its payload is 0
abbrev pub PlainLabel : Edition → (b : Bool) → Label b → Type 0
PlainLabel e false l = Unit {0}
PlainLabel Counts true x = x ≡ 0
PlainLabel Names true x = x < payloads

-- a term that words of the edition can give
unfoldable pub Plain' : Edition → Named → Type 0
Plain' e (atom' a) = PlainAtom a
Plain' e (var' x) = x < payloads
Plain' e (sign' p q) = (p < payloads) × Plain' e q
Plain' e (node' o l a b) = PlainLabel e (binds o) l × Plain' e a × Plain' e b

-- the words are those of a whole term
abbrev pub WholeTerm' : Edition → List ℕ → Type 0
WholeTerm' e ws = (s : Named) × Plain' e s × (ws ≡ encode' s)

-- the words begin a term, or are one
abbrev pub Begins' : Edition → List ℕ → Type 0
Begins' e ws = (s : Named) × Plain' e s × (rest : List ℕ) × (encode' s ≡ ws ++ rest)

-- the place of malformed words, as in document 01: the first bad word, or their length where words are missing
pub record Malformed' (e : Edition) (ws : List ℕ) (p : ℕ) : Type 0 where
  pub within : p ≤ length ws
  pub good : Begins' e (take p ws)
  pub bad : p < length ws → Begins' e (take (suc p) ws) → ⊥
  pub missing : p ≡ length ws → WholeTerm' e ws → ⊥

-- what tests 6 to 8 stand for, without the tests: ws are the words of s, a term of the edition within the limits
pub record WordsOf' (e : Edition) (ws : List ℕ) (s : Named) : Type 0 where
  pub plain : Plain' e s
  pub words : ws ≡ encode' s
  pub some_word : 1 ≤ length ws
  pub not_more : length ws ≤ most_words
  pub nested : depth (erased s) ≤ most_nesting

-- ---- reading

-- the word of a tag
abbrev pub tag_word : ℕ → ℕ
tag_word w = word (tag_of w) 0

-- a word without the name that it carries as a binder
abbrev pub unnamed : Edition → ℕ → ℕ
unnamed Counts w = w
unnamed Names w = cond (shape_binds (word_shape (tag_word w))) (tag_word w) w

-- the term t, whose words without names stand in ws from the place at on, with the names that ws have
unfoldable pub labels : List ℕ → ℕ → Term → Named
labels ws at (atom a) = atom' a
labels ws at (var n) = var' n
labels ws at (sign p q) = sign' p (labels ws (at + 1) q)
labels ws at (node o a b) = node' o (label (binds o) (payload_of (get_or ws at 0))) (labels ws (at + 1) a) (labels ws (at + 1 + size a) b)

-- "Either kind passes 6 to 8 first"; in the named edition 7 admits any payload on Pi, Lam and Bind
abbrev pub edition_term : Edition → List ℕ → Result Named
edition_term e ws = do
  t ← term_of most_words most_nesting (map (unnamed e) ws)
  ok (labels ws 0 t)

-- Which binder a variable has, which name a binder, and the first variable that has no binder; what a conversion
-- preserves. All of it is said without the conversion.
use Rattle.std.specs.Prelude.{ℕ, suc, ◌+◌, ◌<◌, ◌≡◌, Bool, true, false, cond, ◌↔◌, ◌≢◌, map, eqb}
use Rattle.logic.specs.Tags.{tag_variable}
use Rattle.logic.specs.Term.{Op, binds, under, tag_of}
use Rattle.editions.specs.Named.{Label, Named, var', sign', node', encode', size'}
use Rattle.editions.specs.Edition.{other, tag_word, unnamed}
use Rattle.editions.specs.declared.Edition.{Edition}
use Rattle.editions.specs.declared.Edition.TheVariants.{Counts, Names}

-- a node binds the variable r of its body: it is a binder that carries the name, or the count is 0
abbrev pub IsBinder : Edition → (b : Bool) → Label b → ℕ → Type 0
IsBinder e false l r = ⊥
IsBinder Names true y x = x ≡ y
IsBinder Counts true y n = n ≡ 0

-- a node leaves the variable r of its second child free, which outside is r': a name that the node does not carry, or a
-- count of one less
abbrev pub Frees : Edition → (b : Bool) → Label b → (r r' : ℕ) → Type 0
Frees e false l r r' = r ≡ r'
Frees Names true y x x' = (x ≢ y) × (x ≡ x')
Frees Counts true y n n' = n ≡ suc n'

-- at the word i a variable r stands
pub data VariableAt (r : ℕ) : ℕ → Named → Type 0 where
  variable : VariableAt r 0 (var' r)
  variable_signed : {p i : ℕ} {q : Named} → VariableAt r i q → VariableAt r (suc i) (sign' p q)
  variable_first : {o : Op} {l : Label (binds o)} {i : ℕ} {a b : Named} → VariableAt r i a → VariableAt r (suc i) (node' o l a b)
  variable_second : {o : Op} {l : Label (binds o)} {i : ℕ} {a b : Named} → VariableAt r i b → VariableAt r (suc (size' a + i)) (node' o l a b)

module _ (e : Edition) where
  -- at the word i a variable stands in no Sign, and has no binder in the term; seen from outside it is r
  pub data FreeAt : (r i : ℕ) → Named → Type 0 where
    free : {r : ℕ} → FreeAt r 0 (var' r)
    free_first : {o : Op} {l : Label (binds o)} {r i : ℕ} {a b : Named} → FreeAt r i a → FreeAt r (suc i) (node' o l a b)
    free_second : {o : Op} {l : Label (binds o)} {r r' i : ℕ} {a b : Named} → Frees e (binds o) l r r' → FreeAt r i b →
        FreeAt r' (suc (size' a + i)) (node' o l a b)

  -- the binder of the variable at the word i is at the word j
  pub data BinderAt : (i j : ℕ) → Named → Type 0 where
    binder : {o : Op} {l : Label (binds o)} {r i : ℕ} {a b : Named} → IsBinder e (binds o) l r → FreeAt r i b →
        BinderAt (suc (size' a + i)) 0 (node' o l a b)
    binder_signed : {p i j : ℕ} {q : Named} → BinderAt i j q → BinderAt (suc i) (suc j) (sign' p q)
    binder_first : {o : Op} {l : Label (binds o)} {i j : ℕ} {a b : Named} → BinderAt i j a → BinderAt (suc i) (suc j) (node' o l a b)
    binder_second : {o : Op} {l : Label (binds o)} {i j : ℕ} {a b : Named} → BinderAt i j b →
        BinderAt (suc (size' a + i)) (suc (size' a + j)) (node' o l a b)

  -- 24: the variable at the word p has no binder, and each variable before it has one
  pub record FirstUnbound (s : Named) (p : ℕ) : Type 0 where
    pub which : ℕ
    pub stands : VariableAt which p s
    pub alone : (j : ℕ) → BinderAt p j s → ⊥
    pub before : (r i : ℕ) → VariableAt r i s → i < p → (j : ℕ) × BinderAt i j s

-- in a term that stands in the body of k binders, at the word j, a binder that carries the name x stands in the body of
-- d, within its Sign if any
pub data NamedAt (x d : ℕ) : (k j : ℕ) → Named → Type 0 where
  named : {o : Op} {l : Label (binds o)} {a b : Named} → IsBinder Names (binds o) l x → NamedAt x d d 0 (node' o l a b)
  named_signed : {k p j : ℕ} {q : Named} → NamedAt x d 0 j q → NamedAt x d k (suc j) (sign' p q)
  named_first : {o : Op} {l : Label (binds o)} {k j : ℕ} {a b : Named} → NamedAt x d k j a → NamedAt x d k (suc j) (node' o l a b)
  named_second : {o : Op} {l : Label (binds o)} {k j : ℕ} {a b : Named} → NamedAt x d (under (binds o) suc k) j b →
      NamedAt x d k (suc (size' a + j)) (node' o l a b)

-- "a binder's name is the count of binders in whose body it stands, within its Sign if any"
abbrev pub NamedByCount : Named → Type 0
NamedByCount s = (x d j : ℕ) → NamedAt x d 0 j s → x ≡ d

-- a word without the payload of a binder or a variable
abbrev pub blank : ℕ → ℕ
blank w = cond (eqb (tag_of w) tag_variable) (tag_word w) (unnamed Names w)

-- s, of the edition e, and t, of the edition f, have the same words but for the payloads of binders and variables, and
-- each variable's binder stands at the same word
pub record SameBinders (e f : Edition) (s t : Named) : Type 0 where
  pub words : map blank (encode' s) ≡ map blank (encode' t)
  pub binders : (i j : ℕ) → BinderAt e i j s ↔ BinderAt f i j t

-- "they differ only in names and each variable's binder stands at the same word"
abbrev pub OnlyNames : Named → Named → Type 0
OnlyNames = SameBinders Names Names

-- what a conversion from the edition e preserves
abbrev pub Preserved : Edition → Named → Named → Type 0
Preserved e = SameBinders e (other e)

-- the names that it gives the binders: counts, and none where it converts into document 01's edition
abbrev pub NamesGiven : Edition → Named → Type 0
NamesGiven Names t = Unit {0}
NamesGiven Counts t = NamedByCount t

-- Terms of the edition with named variables: "each Pi, Lam and Bind carries a name number as payload, and a variable
-- carries a name". Sentences in quotation marks here and in the modules after this one are document 02's, slip 6.
use Rattle.std.specs.Prelude.{ℕ, suc, ◌+◌, Bool, true, false, List, [], ◌∷◌, ◌++◌}
use Rattle.logic.specs.Tags.{tag_variable, tag_sign}
use Rattle.logic.specs.Term.{Atom, Op, Term, atom, var, sign, node, binds, atom_word, op_word, word}

-- what a node carries beside its children: a binder a name, any other node nothing
abbrev pub Label : Bool → Type 0
Label true = ℕ
Label false = Unit {0}

pub data Named : Type 0 where
  atom' : Atom → Named
  var' : ℕ → Named
  sign' : ℕ → Named → Named
  node' : (o : Op) → Label (binds o) → Named → Named → Named

-- a node's word, with the name as payload
abbrev pub labelled : (b : Bool) → Label b → ℕ → ℕ
labelled true x w = w + x
labelled false l w = w

unfoldable pub encode' : Named → List ℕ
encode' (atom' a) = atom_word a ∷ []
encode' (var' x) = word tag_variable x ∷ []
encode' (sign' p q) = word tag_sign p ∷ encode' q
encode' (node' o l a b) = labelled (binds o) l (op_word o) ∷ (encode' a ++ encode' b)

unfoldable pub size' : Named → ℕ
size' (atom' a) = 1
size' (var' x) = 1
size' (sign' p q) = suc (size' q)
size' (node' o l a b) = suc (size' a + size' b)

-- ---- a term of document 01 is one whose binders carry the name 0, and whose variables carry counts

-- a binder takes the name x
abbrev pub label : (b : Bool) → ℕ → Label b
label true x = x
label false x = tt

unfoldable pub counted : Term → Named
counted (atom a) = atom' a
counted (var n) = var' n
counted (sign p q) = sign' p (counted q)
counted (node o a b) = node' o (label (binds o) 0) (counted a) (counted b)

-- a term without its binders' names
unfoldable pub erased : Named → Term
erased (atom' a) = atom a
erased (var' x) = var x
erased (sign' p q) = sign p (erased q)
erased (node' o l a b) = node o (erased a) (erased b)

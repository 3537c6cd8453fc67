-- What a word begins, as the code tells it, and how many children it has.
use Rattle.std.specs.Prelude.{ℕ, Bool, false, cond, Some, None}
use Rattle.std.specs.Prelude.{Option as Maybe}
use Rattle.logic.specs.Term.{Op, Term, atom, var, sign, node, binds}
use Rattle.logic.specs.Reading.{WordShape, leaf, sign_word, branch, no_term}
use Rattle.logic.specs.declared.word.Class.{Class}
use Rattle.logic.specs.declared.word.Class.TheVariants.{Atom, Variable, Sign, Node, Binder, NoTerm}

abbrev pub leaf_class : Term → Class
leaf_class (atom a) = Atom
leaf_class (var n) = Variable
leaf_class (sign n q) = Atom
leaf_class (node o a b) = Atom

-- two children, the second under one binder or under none
abbrev pub op_class : Op → Class
op_class o = cond (binds o) Binder Node

abbrev pub shape_class : WordShape → Class
shape_class (leaf t) = leaf_class t
shape_class (sign_word n) = Sign
shape_class (branch o) = op_class o
shape_class no_term = NoTerm

-- the number of children
abbrev pub shape_children : WordShape → Maybe ℕ
shape_children (leaf t) = Some 0
shape_children (sign_word n) = Some 1
shape_children (branch o) = Some 2
shape_children no_term = None

-- whether the second child stands under a binder
abbrev pub shape_binds : WordShape → Bool
shape_binds (leaf t) = false
shape_binds (sign_word n) = false
shape_binds (branch o) = binds o
shape_binds no_term = false

-- The rules of nodes with two children as one rule: the first child, a test on its type, the second child under the
-- rule's binder if any, and the result. proofs/Uniform of crate `typing` shows that `infer` is this.
use Rattle.std.specs.Prelude.{ℕ, suc, List, ◌∷◌, eqb}
use Rattle.std.proofs.Math.ListN.{get_elem?}
use Rattle.logic.specs.Refusals.{unbound_variable, condition_fails, not_a_function, argument_mismatch, variable_escapes}
use Rattle.logic.specs.Result.{Result, ok, ◌>>=◌, ◌>>◌, require, known}
use Rattle.logic.specs.Term.{Atom, Op, saysO, piO, lamO, appO, retO, bindO, Term, atom, var, sign, node, P, N, Name, Says}
use Rattle.logic.specs.Move.{raise, lower, fill, occurs}
use Rattle.logic.specs.Infer.{same, condition, measured, domain, body, proposition, parts, infer_atom}

-- an atom's type
abbrev pub atom_type : List Term → ℕ → Atom → Result Term
atom_type Σ at a = infer_atom Σ at a >>= measured at

-- a variable's type
abbrev pub variable_type : List Term → ℕ → ℕ → Result Term
variable_type Γ at n = known unbound_variable at (get_elem? Γ n) >>= λ A. measured at (raise (suc n) A)

-- a Sign's type, where its proposition q has the type s
abbrev pub sign_type : ℕ → ℕ → Term → Term → Result Term
sign_type at n q s = condition at (same s P) >> measured at (Says (Name n) q)

-- the second child of a term
abbrev pub second_child : Term → Term
second_child (atom a) = atom a
second_child (var n) = var n
second_child (sign n q) = q
second_child (node o a b) = b

abbrev pub first_child : Term → Term
first_child (atom a) = atom a
first_child (var n) = var n
first_child (sign n q) = q
first_child (node o a b) = a

-- the test on the first child's type A
unfoldable pub ready : Op → ℕ → Term → Result (Unit {0})
ready saysO at A = condition at (same A N)
ready piO at A = condition at (domain A)
ready lamO at A = condition at (domain A)
ready appO at A = known not_a_function at (parts piO A) >> ok tt
ready retO at A = condition at (same A N)
ready bindO at A = known condition_fails at (parts saysO A) >> ok tt

-- the binders in scope of the second child
abbrev pub within : Op → Term → Term → List Term → List Term
within saysO a A Γ = Γ
within piO a A Γ = a ∷ Γ
within lamO a A Γ = a ∷ Γ
within appO a A Γ = Γ
within retO a A Γ = Γ
within bindO a A Γ = second_child A ∷ Γ

-- the result of Lam and Ret: a node of the first child and the second's type, which is a proposition
abbrev pub pair_type : ℕ → Op → Term → Term → Result Term
pair_type at o a B = condition at (proposition B) >> measured at (node o a B)

-- the result of an App, whose function has the type Pi d C and whose argument b the type B
abbrev pub app_type : ℕ → Term → Term → Term → Term → Result Term
app_type at d C b B = require (same B d) argument_mismatch at >> measured at (fill C b)

-- the result of a Bind, whose proof is said by a and whose body has the type B
abbrev pub bind_type : ℕ → Term → Term → Result Term
bind_type at a B =
    known condition_fails at (parts saysO B) >>= λ r. condition at (same r.left (raise 1 a)) >>
    (require (eqb (occurs 0 r.right) 0) variable_escapes at >> measured at (Says a (lower r.right)))

-- the node's type, from its children and their types
unfoldable pub node_type : Op → ℕ → (a b A B : Term) → Result Term
node_type saysO at a b A B = condition at (same B P) >> measured at P
node_type piO at a b A B = condition at (body B) >> measured at B
node_type lamO at a b A B = pair_type at piO a B
node_type appO at a b A B = app_type at (first_child A) (second_child A) b B
node_type retO at a b A B = pair_type at saysO a B
node_type bindO at a b A B = bind_type at (first_child A) B

-- What `?` hands on: the refusal that a callee answered.
use Rattle.std.proofs.Common.{rules, ◌≡◌, ap}
use Rattle.std.specs.Prelude.{Ok, Err, IsErr}
use Rattle.std.specs.Prelude.{Result as Answer}
use Rattle.std.specs.Result.{IsErrAnd}
use Rattle.logic.specs.Answer.{reason_number, answer}
use Rattle.logic.specs.Result.{refused}
use Rattle.logic.specs.declared.refusal.Refusal.{Refusal}

-- the refusal e, by number and place
abbrev pub refusal : {X : Type 0} → Refusal → Rattle.logic.specs.Result.Result X
refusal e = refused (reason_number e.reason) e.place

pub handed_on : {X : Type 0} (r : Answer X Refusal) (e : Refusal) → IsErr r × IsErrAnd r (λ y. y ≡ e) → answer r ≡ refusal e
handed_on (Ok x) e h = absurd (search rules)
handed_on (Err y) e h = ap (λ (d : Refusal). refusal d) (search rules)

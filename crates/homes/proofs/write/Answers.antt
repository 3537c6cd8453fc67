-- Where the form is broken nothing was written; else the join wrote what the definition says.
use mathlib.Core.Path.{refl, sym, ap, ◌∙◌}
use Rattle.logic.proofs.Answers.{refusal}
use Rattle.homes.specs.Homes.{write_call}
use Rattle.homes.proofs.write.Goals as goal

pub returns-then-not-well_formed : goal.returns-then-not-well_formed
unfolding write_call
returns-then-not-well_formed c =
    rw (sym c.well_formed-2.ensures ∙ c.if-not-well_formed.true) (record { answered = ap refusal c.at.ensures; output = refl })

pub join-requires : goal.join-requires
join-requires c = sym c.well_formed-2.ensures ∙ c.if-not-well_formed.false

pub returns : goal.returns
unfolding write_call
returns c = rw (sym c.well_formed-2.ensures ∙ c.if-not-well_formed.false) (record { answered = refl; output = c.join.ensures })

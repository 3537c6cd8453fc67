-- The words of the receipt are built and compared.
use Rattle.std.proofs.lemmas.Slice.Eq.{slice_eq-Decides}
use Rattle.std.proofs.lemmas.Bool.Decides.{Decides-eqb}
use Rattle.logic.specs.Term.{encode}
use Rattle.sought.proofs.ItemTells.{words_compared}
use Rattle.signs.proofs.receipt_says.Goals as goal

pub returns : goal.returns
unfolding encode
returns c = λ day proof. words_compared _ _ _ (slice_eq-Decides Decides-eqb _ _ _ c.eq.ensures)

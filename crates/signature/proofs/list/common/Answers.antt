-- `common` tells whether words are those of a permit's or a receipt's type: both are types that pass behind any
-- constants.
use Prim.Native.Nat.{ℕ}
use mathlib.Core.Path.{ap, ◌∙◌}
use mathlib.Core.List.{List}
use Rattle.logic.specs.Term.{encode}
use Rattle.logic.specs.SignatureList.{constant as constant-type}
use Rattle.signature.specs.Listing.{succeeded}
use Rattle.signature.proofs.Listings.{permit_passes, receipt_passes}
use Rattle.signature.proofs.list.common.Goals as goal

pub returns-then-same : goal.returns-then-same
unfolding encode
returns-then-same c = λ Σ e. ap (λ (l : List ℕ). succeeded (constant-type Σ l)) (c.same.ensures.0 c.if-same.true) ∙ permit_passes Σ

pub returns-else-same : goal.returns-else-same
unfolding encode
returns-else-same c = λ Σ e. ap (λ (l : List ℕ). succeeded (constant-type Σ l)) (c.same-else-same.ensures.0 e) ∙ receipt_passes Σ

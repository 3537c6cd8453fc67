-- The words of the permission are built and compared with those of the type.
use mathlib.Core.Path.{refl}
use Rattle.logic.specs.Term.{encode}
use Rattle.records.specs.Entries.{asked}
use Rattle.request.proofs.Grants.{permission_found}
use Rattle.request.proofs.tests.permits.Goals as goal

pub returns : goal.returns
unfolding encode
returns c = λ A T e. permission_found c.args.ws.now _ c.args.n (asked c.args.ask) c.same.result c.requires.1 c.requires.2 refl c.same.ensures A T e

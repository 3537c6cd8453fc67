-- The first line is there, and behind it stand the numbers; or the file is broken.
use Rattle.number_file.proofs.Reader.{not_headed, headed}
use Rattle.number_file.proofs.read.Goals as goal

pub returns-in_err-rest : goal.returns-in_err-rest
returns-in_err-rest c = rw c.from_residual.ensures (not_headed _ _ _ _ _ c.in_err-rest.ensures.cases)

pub returns : goal.returns
returns c = let e = c.in_ok-rest.ensures.cases in headed _ _ _ _ _ _ _ e.0 e.1 c.read_numbers.ensures

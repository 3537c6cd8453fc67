-- `write_request` copies the front of a request's words, and behind it the proof.
use Rattle.load.proofs.Writes.{request_written}
use Rattle.logic.specs.Term.{encode}
use Rattle.load.proofs.write_request.Goals as goal

pub returns : goal.returns
unfolding encode
returns c =
    let a = c.args in
    request_written a.extract a.principal a.delivery a.output.now _ _ _ a.place c.requires.room c.proof_words-proof.ensures
    c.copy.ensures c.copy-2.ensures

-- Behind the test the words are one term, whose nesting is asked for.
use Rattle.words.proofs.Places.{is_at}
use Rattle.words_run.proofs.Tested.{one_term}
use Rattle.words_run.proofs.nested_whole.Goals as goal

pub nested-requires : goal.nested-requires
nested-requires c =
    let h = one_term c.args.words.now _ c.read_whole.ensures c.in_ok-read_whole.was in
    record { term = h.term; here = is_at h.is }

-- `nested_whole` tests the nesting of a whole term: one that has no more words than levels is within, and `nested`
-- tells the rest.
use Rattle.words.proofs.Nestings.{whole_few}
use Rattle.words.proofs.Places.{is_at}
use Rattle.words.proofs.nesting.nested_whole.Goals as goal

pub returns-then-words-left : goal.returns-then-words-left
returns-then-words-left c = whole_few c.args.words.now c.args.left c.if-words-left.true

pub returns : goal.returns
returns c = λ t i. c.nested.ensures t (is_at i)

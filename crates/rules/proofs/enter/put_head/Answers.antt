-- `put_head` writes the first three words of an entry, one behind the other.
use Rattle.words.proofs.Lists.{written_three}
use Rattle.rules.proofs.enter.put_head.Goals as goal

pub returns : goal.returns
returns c = written_three c.args.ws.now c.args.head c.args.total c.args.start c.args.size c.requires.0

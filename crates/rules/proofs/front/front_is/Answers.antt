-- `front_is` compares the type at the front with an atom, by the first word alone.
use Rattle.rules.proofs.Fronts.{front_word}
use Rattle.rules.proofs.front.front_is.Goals as goal

pub returns : goal.returns
returns c = let s = c.args in λ A a h w r. front_word s.ws.now s.word A a h w r

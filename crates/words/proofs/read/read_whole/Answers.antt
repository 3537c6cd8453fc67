-- `read_whole` reads a list that is one term: it reads a term, which must end with the list.
use mathlib.Core.Path.{ap, ◌∙◌}
use Rattle.logic.proofs.Answers.{refusal}
use Rattle.words.specs.Parsing.{read_answer}
use Rattle.words.proofs.Parses.{only, whole_bad, whole_more, whole_all}
use Rattle.words.proofs.read.read_whole.Goals as goal

pub returns-in-Err : goal.returns-in-Err
returns-in-Err c = ap refusal c.at.ensures ∙ whole_bad _ _ _ _ (only _ 0 _ c.read_children.ensures) (ap read_answer c.in-Err.is)

pub returns-then-end-words : goal.returns-then-end-words
returns-then-end-words c =
    ap refusal c.at-then-end-words.ensures ∙ whole_more _ _ _ (only _ 0 _ c.read_children.ensures) (ap read_answer c.in-Ok.is) c.if-end-words.true

pub returns : goal.returns
returns c = whole_all _ _ _ (only _ 0 _ c.read_children.ensures) (ap read_answer c.in-Ok.is) c.if-end-words.false

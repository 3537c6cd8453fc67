-- `homes_rise` asks the library whether the list is sorted by `<`, which is that the homes rise.
use Rattle.std.proofs.Common.{rules}
use borrow.Author.Tests.{tests}
use lib.Dec.{ltb}
use Rattle.std.proofs.lemmas.List.Sorted.{answers_always}
use Rattle.homes.proofs.Forms.{homes_decided}
use Rattle.homes.proofs.homes_rise.Goals as goal

pub returns : goal.returns
returns c = homes_decided _ _ (c.is_sorted_by.ensures.cases ltb (answers_always _ _ _ (λ f a r g k. search (rules, tests))))

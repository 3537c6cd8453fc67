-- No words are those of no request, and an empty bucket has no place.
use mathlib.Core.Path.{◌∙◌}
use mathlib.Core.List.{[]}
use native.Mathlib.Omega.{arith}
use Rattle.register.specs.Records.{statements}
use Rattle.sought.specs.Sought.{sought}
use Rattle.buckets.proofs.Buckets.{empty_buckets}
use Rattle.signs.proofs.Receipts.{none_asked, signs_behind_none}
use Rattle.signs.proofs.first_miss.Goals as goal

pub first_miss_behind-requires : goal.first_miss_behind-requires
first_miss_behind-requires c =
    (c.requires.0, empty_buckets c.args.source.span c.args.source.list.now 1 (omega arith), record { asked = []; before = none_asked }, c.requires.1)

pub returns : goal.returns
returns c = λ rs t f is. c.first_miss_behind.ensures rs [] t f none_asked is ∙ signs_behind_none (sought c.args.when (statements rs)) t

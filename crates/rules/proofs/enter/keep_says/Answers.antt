-- `keep_says` keeps the entry of a Bind: the type's words are copied to the end, its principal is raised there, and the
-- three first words are written.
use Rattle.rules.proofs.Enters.{says_size, principal_at, says_kept}
use Rattle.logic.specs.Term.{size}
use mathlib.Core.Path.{◌≡◌}
use native.Mathlib.Omega.{arith}
use Rattle.rules.proofs.enter.keep_says.Goals as goal

pub shift_within-principal-requires : goal.shift_within-principal-requires
shift_within-principal-requires c =
    let l = c.copy_within.auto.words in
    let k = says_size c.requires.p c.requires.q in
    record {
      term = c.requires.p;
      here = (principal_at c.args.used c.requires.type c.requires.type_words (omega (arith, c.requires.room, c.requires.small)) c.copy_within.ensures);
      fits = omega (arith, c.requires.room, c.requires.small, c.requires.type_words);
      deep = omega (arith, c.requires.small, c.requires.type_words);
      near = omega arith;
    }

pub overflow_sub-n : goal.overflow_sub-n
overflow_sub-n c =
    let k = says_size c.requires.p c.requires.q in omega (arith, c.requires.type_words)

pub overflow_sub-n-2 : goal.overflow_sub-n-2
overflow_sub-n-2 c =
    let principal : c.shift_within-principal.result.words ≡ size c.requires.p =
    (c.shift_within-principal.ensures c.requires.p (principal_at c.args.used c.requires.type c.requires.type_words
    (omega (arith, c.requires.room, c.requires.small)) c.copy_within.ensures)).words_are in
    let k = says_size c.requires.p c.requires.q in omega (arith, c.requires.type_words)

pub returns : goal.returns
returns c =
    λ at a p q h e. says_kept c.args.used h e (omega (arith, c.requires.room, c.requires.small)) c.copy_within.ensures at a
    (c.shift_within-principal.ensures p (principal_at c.args.used h e (omega (arith, c.requires.room, c.requires.small)) c.copy_within.ensures))
    c.put_head.ensures

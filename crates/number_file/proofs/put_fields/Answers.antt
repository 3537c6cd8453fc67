-- What is put of the rest of the fields completes the fields.
use native.Mathlib.Omega.{arith}
use lib.ListN.{length-drop}
use Prim.Native.Nat.{ℕ}
use Rattle.decimal.proofs.Digits.{number_length}
use Rattle.number_file.proofs.Fields.{field_then, no_field}
use Rattle.number_file.proofs.put_fields.Goals as goal

pub loop-word-preserved : goal.loop-word-preserved
loop-word-preserved c =
    rw (c.swap.ensures.x_after, c.swap.ensures.y_after) (record {
      room = omega (arith, number_length, length-drop {A = ℕ}, c.put_number-end.ensures.end);
      rest = λ new r q. c.loop-word.invariant.rest new r
          (field_then c.args.words.now _ _ c.loop-word.word-index c.put_number-end.ensures q (omega arith) (omega arith));
    })

pub returns : goal.returns
returns c = c.loop-word.invariant.rest _ _ (no_field c.args.words.now _ _ _ _ c.loop-word.word-index (omega arith))

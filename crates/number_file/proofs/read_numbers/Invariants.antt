-- The numbers so far stand at the front of the words, and what is left is read behind the number so far. Each number
-- took two bytes at least, so there is room for it.
use Rattle.std.proofs.Common.{◌≡◌, ◌+◌, ◌*◌, ◌≤◌, length}
use Rattle.std.specs.Option.{IfSome}
use Rattle.number_file.proofs.Reader.{Reading}
use Rattle.number_file.proofs.read_numbers.Given as goal

abbrev pub invariant-loop-byte : goal.invariant-loop-byte
invariant-loop-byte l = record {
  room : 2 * l.count ≤ l.byte-index;
  begun : IfSome l.so_far (λ n. 2 * l.count + 1 ≤ l.byte-index);
  size : length l.words ≡ length l.initial.words;
  reading : Reading l.bytes l.initial.words l.words l.first l.this l.other l.so_far l.count l.byte-index;
}

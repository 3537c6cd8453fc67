-- What was read fits the buffer. The measure: the bytes that are free.
use Rattle.std.proofs.Common.{length, ◌-◌, ◌≤◌, ◌≡◌}
use Rattle.write_homes.proofs.fill.Given as goal

abbrev pub invariant-loop-bytes : goal.invariant-loop-bytes
invariant-loop-bytes l = (length l.buffer ≡ length l.initial.buffer) × (l.bytes ≤ length l.buffer)

abbrev pub decreases-loop-bytes : goal.decreases-loop-bytes
decreases-loop-bytes l = length l.initial.buffer - l.bytes

-- What is put of the rest of the fields completes the fields.
use Rattle.std.proofs.Common.{◌+◌, ◌*◌, ◌≤◌, length, ℕ, List, drop}
use Rattle.decimal.specs.Decimal.{feed, comma, number_bytes, Put}
use Rattle.number_file.specs.NumberFile.{fields}
use Rattle.number_file.proofs.put_fields.Given as goal

abbrev pub invariant-loop-word : goal.invariant-loop-word
invariant-loop-word l = record {
  room : l.end + number_bytes * length (drop l.word-index l.words) ≤ length l.out;
  rest : (new : List ℕ) (r : ℕ) → Put l.out l.end (fields l.this l.other (drop l.word-index l.words)) new r →
      Put l.initial.out l.to (fields comma feed l.words) new r;
}

-- Numbers put one after the other.
use Prim.Native.Nat.{ℕ, ◌+◌, ◌≤◌, ◌<◌}
use mathlib.Core.Path.{sym, ap}
use mathlib.Core.List.{List}
use lib.ListN.{length, drop, get_or, drop_of_length-le}
use Rattle.words.proofs.Lists.{drop_one}
use Rattle.decimal.specs.Decimal.{Put, number}
use Rattle.decimal.proofs.Puts.{put_none, put_then, put_is}
use Rattle.number_file.specs.NumberFile.{fields}

-- the number at i, and then the fields of those behind it
pub field_then : (ws : List ℕ) {old mid new : List ℕ} {to end r : ℕ} (this other i : ℕ) → Put old to (number (get_or ws i 0) this) mid end →
    Put mid end (fields other this (drop (i + 1) ws)) new r → i < length ws → to ≤ length old → Put old to (fields this other (drop i ws)) new r
unfolding fields
field_then ws this other i p q h l =
    put_is _ _ _ _ _ _ (sym (ap (fields this other) (drop_one ws i h))) (put_then _ _ _ _ _ _ _ _ p q l)

pub no_field : (ws out : List ℕ) (to this other i : ℕ) → length ws ≤ i → Put out to (fields this other (drop i ws)) out to
unfolding fields
no_field ws out to this other i h = put_is _ _ _ _ _ _ (sym (ap (fields this other) (drop_of_length-le ws {i = i} h))) (put_none out to)

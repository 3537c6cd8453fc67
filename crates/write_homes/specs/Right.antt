-- What the program should print, without its reader.
use Rattle.std.specs.Prelude.{◌+◌, ◌*◌, ◌≡◌, List, ◌++◌, ℕ, take}
use Rattle.std.specs.Prelude.{Option, Some, None}
use Rattle.decimal.specs.Decimal.{comma, feed}
use Rattle.number_file.specs.NumberFile.{fields, IsFile}
use Rattle.homes.specs.Homes.{most_homes, joined}
use Rattle.homes.specs.Right.{InForm}
use Rattle.write_homes.specs.Printed.{home_line, home_code_line, most_list, most_table, refusal, printed}

-- these bytes are the files of a list hs and a table t in form
pub record Files (bs cs hs t : List ℕ) : Type 0 where
  pub homes : IsFile home_line feed bs hs
  pub surveys : IsFile home_code_line comma cs t
  pub form : InForm hs t (2 * most_homes)

pub record PrintsRight : Type 0 where
  -- such files print each home with its code, and all others the refusal
  pub prints : (bs cs hs t : List ℕ) → Files bs cs hs t → printed (Some bs) (Some cs) ≡ home_code_line ++ fields comma feed (joined hs t)
  pub refuses : (bs cs : List ℕ) → ((hs t : List ℕ) → Files bs cs hs t → ⊥) → printed (Some bs) (Some cs) ≡ refusal
  -- "no file"
  pub no_homes : (g : Option (List ℕ)) → printed None g ≡ refusal
  pub no_surveys : (f : Option (List ℕ)) → printed f None ≡ refusal
  -- files of any length: the program reads one byte more than the longest file in form has, and those bytes decide
  pub cut : (bs cs : List ℕ) → printed (Some (take (most_list + 1) bs)) (Some (take (most_table + 1) cs)) ≡ printed (Some bs) (Some cs)

-- Document 02's slip 3 on the writing step, in quotation marks, by literals and examples that compute.
use Rattle.std.specs.Prelude.{◌≡◌, true, false, [], ◌∷◌}
use Rattle.logic.specs.Result.{ok, refused}
use Rattle.words.specs.Place.{after_write}
use Rattle.homes.specs.Homes.{most_homes, most_rows, no_survey, formed, write_call}
use Rattle.homes.specs.Right.{with_code, without_code}

pub record HomesGuards : Type 0 where
  -- "at most 1,024", "at most 4,096 rows", "4294967295"
  pub homes : most_homes ≡ 1024
  pub table_rows : most_rows ≡ 4096
  pub none : no_survey ≡ 4294967295
  -- "strictly rising"
  pub strictly : formed (3 ∷ 7 ∷ []) [] 4 ≡ true
  pub equal : formed (3 ∷ 3 ∷ []) [] 4 ≡ false
  pub falling : formed (7 ∷ 3 ∷ []) [] 4 ≡ false
  -- "homes also strictly rising"; a row is a home and a code
  pub table : formed [] (3 ∷ 9 ∷ 7 ∷ 9 ∷ []) 0 ≡ true
  pub table_equal : formed [] (3 ∷ 9 ∷ 3 ∷ 8 ∷ []) 0 ≡ false
  pub table_falling : formed [] (7 ∷ 9 ∷ 3 ∷ 9 ∷ []) 0 ≡ false
  pub half_row : formed [] (3 ∷ 9 ∷ 7 ∷ []) 0 ≡ false
  -- "which is never a code"; as a home it is a number like any other
  pub no_code : formed [] (3 ∷ 4294967295 ∷ []) 0 ≡ false
  pub last_code : formed [] (3 ∷ 4294967294 ∷ []) 0 ≡ true
  pub last_home : formed (4294967295 ∷ []) (4294967295 ∷ 0 ∷ []) 2 ≡ true
  -- "an output too short for two words a home"
  pub just_fits : formed (3 ∷ 7 ∷ []) [] 4 ≡ true
  pub one_short : formed (3 ∷ 7 ∷ []) [] 3 ≡ false
  pub nothing : formed [] [] 0 ≡ true
  -- "writes every home in the list's order with its survey code, or 4294967295 where no survey exists"; "output past
  -- the last home is unchanged"
  pub written :
      after_write (write_call (3 ∷ 7 ∷ 10 ∷ []) (1 ∷ 5 ∷ 3 ∷ 0 ∷ 8 ∷ 2 ∷ 10 ∷ 4 ∷ 12 ∷ 1 ∷ []) 8) (11 ∷ 12 ∷ 13 ∷ 14 ∷ 15 ∷ 16 ∷ 17 ∷ 18 ∷ [])
      ≡ 3 ∷ 0 ∷ 7 ∷ 4294967295 ∷ 10 ∷ 4 ∷ 17 ∷ 18 ∷ []
  pub words : write_call (3 ∷ 7 ∷ []) (7 ∷ 2 ∷ []) 4 ≡ ok (3 ∷ 4294967295 ∷ 7 ∷ 2 ∷ [])
  -- "Homes listed = homes with a code + homes without": of three homes one has none
  pub with_a_code : with_code (3 ∷ 0 ∷ 7 ∷ 4294967295 ∷ 10 ∷ 4 ∷ []) ≡ 2
  pub without_one : without_code (3 ∷ 0 ∷ 7 ∷ 4294967295 ∷ 10 ∷ 4 ∷ []) ≡ 1
  -- "is refused with 21", and nothing is written
  pub refusal : write_call (3 ∷ 3 ∷ []) [] 4 ≡ refused 21 0
  pub unchanged : after_write (write_call (3 ∷ 3 ∷ []) [] 4) (11 ∷ 12 ∷ 13 ∷ 14 ∷ []) ≡ 11 ∷ 12 ∷ 13 ∷ 14 ∷ []

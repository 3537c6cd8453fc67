-- Document 02's slip 3 on the program, in quotation marks, by literals and examples that compute.
use Rattle.std.specs.Prelude.{◌≡◌, List, ℕ}
use Rattle.std.specs.Prelude.{Some, None}
use Prim.Native.String.{String}
use Rattle.decimal.specs.Decimal.{ascii}
use Rattle.write_homes.specs.Printed.{most_list, most_table, output_room, printed}

-- what two texts print
abbrev pub print_of : (homes surveys : String) → List ℕ
print_of homes surveys = printed (Some (ascii homes)) (Some (ascii surveys))

-- only the refusal
abbrev pub Refused21 : List ℕ → Type 0
Refused21 bytes = bytes ≡ ascii "refused,21\n"

pub record PrintedGuards : Type 0 where
  -- 11 bytes a number at most
  pub list_bytes : most_list ≡ 11269
  pub table_bytes : most_table ≡ 90122
  pub output_bytes : output_room ≡ 22538
  -- "prints `home,code` and the result"
  pub result : print_of "home\n3\n7\n10\n" "home,code\n1,5\n3,0\n10,4294967294\n" ≡ ascii "home,code\n3,0\n7,4294967295\n10,4294967294\n"
  pub last_home : print_of "home\n4294967295\n" "home,code\n" ≡ ascii "home,code\n4294967295,4294967295\n"
  pub empty : print_of "home\n" "home,code\n0,0\n" ≡ ascii "home,code\n"
  -- "each line ends in a line feed"
  pub no_feed : Refused21 (print_of "home\n3" "home,code\n")
  pub no_feed_surveys : Refused21 (print_of "home\n3\n" "home,code\n3,0")
  pub no_first_line : Refused21 (print_of "3\n" "home,code\n")
  pub cut_first_line : Refused21 (print_of "home" "home,code\n")
  pub other_first_line : Refused21 (print_of "homes\n3\n" "home,code\n")
  pub empty_line : Refused21 (print_of "home\n\n3\n" "home,code\n")
  pub last_empty_line : Refused21 (print_of "home\n3\n\n" "home,code\n")
  pub carriage_return : Refused21 (print_of "home\r\n3\r\n" "home,code\n")
  -- "no number has a needless zero"
  pub needless_zero : Refused21 (print_of "home\n03\n" "home,code\n")
  pub zero : print_of "home\n0\n" "home,code\n" ≡ ascii "home,code\n0,4294967295\n"
  pub two_zeros : Refused21 (print_of "home\n00\n" "home,code\n")
  -- "anything else"
  pub too_large : Refused21 (print_of "home\n4294967296\n" "home,code\n")
  pub eleven_digits : Refused21 (print_of "home\n10000000000\n" "home,code\n")
  pub blank : Refused21 (print_of "home\n 3\n" "home,code\n")
  pub blank_behind : Refused21 (print_of "home\n3 \n" "home,code\n")
  pub sign : Refused21 (print_of "home\n+3\n" "home,code\n")
  pub letter : Refused21 (print_of "home\n3a\n" "home,code\n")
  pub two_homes_a_line : Refused21 (print_of "home\n3,7\n" "home,code\n")
  pub no_code : Refused21 (print_of "home\n3\n" "home,code\n3\n")
  pub empty_code : Refused21 (print_of "home\n3\n" "home,code\n3,\n")
  pub three_numbers : Refused21 (print_of "home\n3\n" "home,code\n3,0,1\n")
  pub blank_behind_comma : Refused21 (print_of "home\n3\n" "home,code\n3, 0\n")
  -- a list or a table out of form
  pub equal_homes : Refused21 (print_of "home\n3\n3\n" "home,code\n")
  pub falling_homes : Refused21 (print_of "home\n7\n3\n" "home,code\n")
  pub equal_rows : Refused21 (print_of "home\n3\n" "home,code\n3,0\n3,1\n")
  pub never_a_code : Refused21 (print_of "home\n3\n" "home,code\n3,4294967295\n")
  -- "or no file"
  pub no_homes : Refused21 (printed None (Some (ascii "home,code\n")))
  pub no_surveys : Refused21 (printed (Some (ascii "home\n")) None)
  pub empty_file : Refused21 (print_of "" "home,code\n")
  pub empty_surveys : Refused21 (print_of "home\n" "")

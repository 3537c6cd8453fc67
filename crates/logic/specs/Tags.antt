-- Document 01's tags, by name. No other definition has a tag's number.
use Rattle.std.specs.Prelude.{ℕ}

abbrev pub tag_prop : ℕ
tag_prop = 1

abbrev pub tag_type : ℕ
tag_type = 2

abbrev pub tag_string : ℕ
tag_string = 3

abbrev pub tag_prin : ℕ
tag_prin = 4

abbrev pub tag_variable : ℕ
tag_variable = 5

abbrev pub tag_constant : ℕ
tag_constant = 6

abbrev pub tag_says : ℕ
tag_says = 7

abbrev pub tag_pi : ℕ
tag_pi = 8

abbrev pub tag_lam : ℕ
tag_lam = 9

abbrev pub tag_app : ℕ
tag_app = 10

-- a string, sn
abbrev pub tag_text : ℕ
tag_text = 11

-- a principal, an
abbrev pub tag_name : ℕ
tag_name = 12

abbrev pub tag_sign : ℕ
tag_sign = 13

abbrev pub tag_ret : ℕ
tag_ret = 14

abbrev pub tag_bind : ℕ
tag_bind = 15

-- the sorts that occur only as types
abbrev pub tag_kindP : ℕ
tag_kindP = 16

abbrev pub tag_kindT : ℕ
tag_kindT = 17

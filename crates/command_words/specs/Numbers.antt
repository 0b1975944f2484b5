-- Numbers in words.
use Rattle.std.specs.Prelude.{ℕ, Bool, ◌&&◌, cond, List, length, nat_le, Option, Some, None}
use Rattle.std.specs.Char.{is_ascii_digit}
use Rattle.std.specs.List.{list_all}
use Rattle.std.specs.Str.Parse.{digits_value}

-- from one to 13 decimal digits
abbrev pub is_numeral : List ℕ → Bool
is_numeral word = nat_le 1 (length word) && (nat_le (length word) 13 && list_all is_ascii_digit word)

-- the number from 1 to `most` that a word writes
abbrev pub number_of : ℕ → List ℕ → Option ℕ
number_of most word = cond (is_numeral word && within (digits_value 10 word)) (Some (digits_value 10 word)) None
  where
    within : ℕ → Bool
    within n = nat_le 1 n && nat_le n most

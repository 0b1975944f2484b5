-- ToNumber and ToString of primitive values (ECMA-262, 6th edition, 7.1.3 and 7.1.12).
use Rattle.std.specs.Prelude.{ℕ, ℤ, pos, neg_ℤ, ◌+◌, ◌-◌, ◌*◌, Bool, true, false, ◌&&◌, ◌||◌, if◌then◌else◌, nat_le, nat_lt, ◌==◌, List, [], ◌∷◌, reverse, fold, Result, Ok, Err, codes}
use Rattle.std.specs.List.{list_any, list_all}
use Rattle.std.specs.Fmt.{signed_decimal}
use Rattle.unicode.specs.GeneralCategory.{general_category}
use Rattle.ucd_category.specs.declared.GeneralCategory.{GeneralCategory}
use Rattle.ucd_category.specs.declared.GeneralCategory.TheVariants.{SpaceSeparator}
use Rattle.es_value.specs.declared.arithmetic.Exit.{Exit}
use Rattle.es_value.specs.declared.arithmetic.Exit.TheVariants.{X1, X2}
use Rattle.es_value.specs.declared.value.Value.{Value}
use Rattle.es_value.specs.declared.value.Value.TheVariants.{Undefined, Null, Bool as Truth, Number, Text, Object}
use Rattle.es_value.specs.Arithmetic.{whole}

abbrev pub is_space_separator : GeneralCategory → Bool
is_space_separator SpaceSeparator = true
is_space_separator _ = false

-- whether the unit is white space or a line terminator (11.2 and 11.3); a surrogate is neither
abbrev pub is_white : ℕ → Bool
is_white u = list_any (λ w. u == w) (9 ∷ 10 ∷ 11 ∷ 12 ∷ 13 ∷ 0x2028 ∷ 0x2029 ∷ 0xFEFF ∷ [])
    || ((nat_lt u 0xD800 || nat_lt 0xDFFF u) && is_space_separator (general_category u))

abbrev pub skip_white : List ℕ → List ℕ
skip_white [] = []
skip_white (u ∷ us) = if is_white u then skip_white us else u ∷ us

-- the units without the white ones at their end
abbrev pub skip_white_back : List ℕ → List ℕ
skip_white_back us = reverse (skip_white (reverse us))

abbrev pub trim : List ℕ → List ℕ
trim us = skip_white_back (skip_white us)

abbrev pub is_digit : ℕ → Bool
is_digit u = nat_le 48 u && nat_le u 57

-- the number that decimal digits spell
abbrev pub digits_value : List ℕ → ℕ
digits_value us = fold (λ n u. n * 10 + (u - 48)) 0 us

-- the number of one or more decimal digits under a sign
abbrev pub signed_digits : (ℕ → ℤ) → List ℕ → Result ℤ Exit
signed_digits sign [] = Err X2
signed_digits sign (u ∷ us) = if list_all is_digit (u ∷ us) then whole (sign (digits_value (u ∷ us))) else Err X2

-- ToNumber of a text that has no white space round it (7.1.3.1): the empty one is 0; forms other than decimal digits are exits
abbrev pub number_of_trimmed : List ℕ → Result ℤ Exit
number_of_trimmed [] = Ok (pos 0)
number_of_trimmed (u ∷ us) =
    if u == 43 then signed_digits pos us else if u == 45 then signed_digits (λ n. neg_ℤ (pos n)) us else signed_digits pos (u ∷ us)

-- ToNumber (7.1.3) of a primitive; an object, which its caller converts first, counts as none
abbrev pub number_of : Value → Result ℤ Exit
number_of Undefined = Err X1
number_of Null = Ok (pos 0)
number_of (Truth true) = Ok (pos 1)
number_of (Truth false) = Ok (pos 0)
number_of (Number n) = Ok n
number_of (Text us) = number_of_trimmed (trim us)
number_of (Object id) = Err X1

-- ToString (7.1.12) of a primitive; an object, which its caller converts first, counts as the empty text
abbrev pub text_of : Value → List ℕ
text_of Undefined = codes "undefined"
text_of Null = codes "null"
text_of (Truth true) = codes "true"
text_of (Truth false) = codes "false"
text_of (Number n) = signed_decimal n
text_of (Text us) = us
text_of (Object id) = []

-- Numeric literals (11.8.3): how one is read.
use Rattle.std.specs.Prelude.{◌≡◌, ℕ, pos, ◌+◌, ◌*◌, Bool, not, ◌&&◌, ◌||◌, ◌==◌, nat_lt, nat_le, List, [], ◌∷◌, take, drop, slice_index, if◌then◌else◌}
use Rattle.es6_lexer.specs.declared.token.NumberToken.{NumberToken}
use Rattle.es6_lexer.specs.declared.token.NumberToken.TheVariants.{Whole, TooLarge, Marked}
use Rattle.es6_lexer.specs.declared.token.LexicalKind.TheVariants.{LegacyOctal, BadNumber}
use Rattle.es6_lexer.specs.declared.shape.Element.{Element}
use Rattle.es6_lexer.specs.declared.shape.Element.TheVariants.{Finished, Skip, Take, Stop}
use Rattle.es6_lexer.specs.declared.shape.Shape.TheVariants.{OfNumber}
use Rattle.es6_lexer.specs.Classes.{digit_value, is_digit_of, is_decimal_digit, is_identifier_part, run_of, goes_on}

-- the value of digits behind others, of which this is the value
abbrev pub digits_from : ℕ → ℕ → List ℕ → ℕ
digits_from radix value [] = value
digits_from radix value (c ∷ cs) = digits_from radix (value * radix + digit_value c) cs

-- the value of digits (the MV of 11.8.3.1)
abbrev pub digits_value : ℕ → List ℕ → ℕ
digits_value radix cs = digits_from radix 0 cs

abbrev pub whole : ℕ → NumberToken
whole v = if nat_le v 9007199254740991 then Whole (pos v) else TooLarge

abbrev pub ended : NumberToken → ℕ → List ℕ → Element
ended v n cs = if goes_on is_identifier_part (drop n cs) then Stop BadNumber 0 else Take (OfNumber v) n

abbrev pub radix_of : List ℕ → ℕ
radix_of cs =
    let c = slice_index cs 1 in
    if not (slice_index cs 0 == 48) then 10
    else (if c == 120 || c == 88 then 16
    else (if c == 111 || c == 79 then 8
    else (if c == 98 || c == 66 then 2
    else 10)))

unfoldable pub prefixed : ℕ → List ℕ → Element
prefixed radix cs =
    let n = run_of (is_digit_of radix) (drop 2 cs) in
    if n == 0 then Stop BadNumber 0 else ended (whole (digits_value radix (take n (drop 2 cs)))) (2 + n) cs

abbrev pub fraction_length : List ℕ → ℕ
fraction_length cs = if slice_index cs 0 == 46 then 1 + run_of (is_digit_of 10) (drop 1 cs) else 0

abbrev pub sign_end : List ℕ → ℕ
sign_end cs = if slice_index cs 1 == 43 || slice_index cs 1 == 45 then 2 else 1

unfoldable pub exponent_length : List ℕ → ℕ
exponent_length cs =
    if not (slice_index cs 0 == 101) && not (slice_index cs 0 == 69) then 0
    else (if is_decimal_digit (slice_index cs (sign_end cs)) then sign_end cs + run_of (is_digit_of 10) (drop (sign_end cs) cs) else 0)

unfoldable pub decimal : List ℕ → Element
decimal cs =
    let n = run_of (is_digit_of 10) cs in
    let m = n + fraction_length (drop n cs) in
    let e = m + exponent_length (drop m cs) in
    if slice_index cs 0 == 48 && nat_lt 1 n then Stop LegacyOctal 0
    else (if e == n then ended (whole (digits_value 10 (take n cs))) n cs else ended Marked e cs)

abbrev pub number_element : List ℕ → Element
number_element cs = if radix_of cs == 10 then decimal cs else prefixed (radix_of cs) cs

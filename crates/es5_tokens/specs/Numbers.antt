-- Numeric literals (ECMA-262, 5.1 edition, 7.8.3): how one is read.
use Rattle.std.specs.Prelude.{ℕ, ◌+◌, ◌*◌, Bool, not, ◌&&◌, ◌||◌, ◌==◌, nat_lt, nat_le, List, take, drop, slice_index, fold, if◌then◌else◌}
use Rattle.std.specs.List.{prefix_len}
use Rattle.std.specs.Char.{digit_value, is_ascii_digit, is_ascii_hexdigit}
use Rattle.es5_ast.specs.Lexical.{is_identifier_part, next_is}
use Rattle.es5_tokens.specs.declared.token.TokenKind.TheVariants.{Integer}
use Rattle.es5_tokens.specs.declared.token.TokenFault.TheVariants.{Lexical, Number}
use Rattle.es5_tokens.specs.declared.shape.Element.{Element}
use Rattle.es5_tokens.specs.declared.shape.Element.TheVariants.{Take, Stop}

-- the value of digits (the MV of 7.8.3)
abbrev pub digits_value : ℕ → List ℕ → ℕ
digits_value radix digits = fold (λ n d. radix * n + digit_value d) 0 digits

-- a number of n characters and this value, which no part of an identifier may follow
abbrev pub ended : List ℕ → ℕ → ℕ → Element
ended cs n value =
    if next_is is_identifier_part (drop n cs) then Stop Lexical 0
    else (if nat_le value 9007199254740991 then Take (Integer value) n else Stop Number 0)

-- `0x` or `0X`
abbrev pub has_prefix : List ℕ → Bool
has_prefix cs = slice_index cs 0 == 48 && (slice_index cs 1 == 120 || slice_index cs 1 == 88)

unfoldable pub hexadecimal : List ℕ → Element
hexadecimal cs =
    let n = prefix_len is_ascii_hexdigit (drop 2 cs) in
    if n == 0 then Stop Lexical 0 else ended cs (2 + n) (digits_value 16 (take n (drop 2 cs)))

abbrev pub fraction_length : List ℕ → ℕ
fraction_length cs = if slice_index cs 0 == 46 then 1 + prefix_len is_ascii_digit (drop 1 cs) else 0

abbrev pub sign_end : List ℕ → ℕ
sign_end cs = if slice_index cs 1 == 43 || slice_index cs 1 == 45 then 2 else 1

unfoldable pub exponent_length : List ℕ → ℕ
exponent_length cs =
    if not (slice_index cs 0 == 101) && not (slice_index cs 0 == 69) then 0
    else (if is_ascii_digit (slice_index cs (sign_end cs)) then sign_end cs + prefix_len is_ascii_digit (drop (sign_end cs) cs) else 0)

-- digits, of which a first 0 is the only one; a point or an exponent takes the number out of the profile
unfoldable pub decimal : List ℕ → Element
decimal cs =
    let n = prefix_len is_ascii_digit cs in
    let m = n + fraction_length (drop n cs) in
    let e = m + exponent_length (drop m cs) in
    if slice_index cs 0 == 48 && nat_lt 1 n then Stop Lexical 0
    else (if e == n then ended cs n (digits_value 10 (take n cs))
    else (if next_is is_identifier_part (drop e cs) then Stop Lexical 0 else Stop Number 0))

abbrev pub number_element : List ℕ → Element
number_element cs = if has_prefix cs then hexadecimal cs else decimal cs

-- Numeric literals (11.8.3), each by its pieces and with what follows it.
use Rattle.std.specs.Prelude.{◌≡◌, ℕ, ◌+◌, ◌≤◌, ◌⊎◌, true, false, ◌&&◌, ◌==◌, nat_lt, List, [], ◌∷◌, ◌++◌, length, slice_index, if◌then◌else◌}
use Rattle.std.specs.List.{list_all}
use Rattle.es6_lexer.specs.declared.token.NumberToken.{NumberToken}
use Rattle.es6_lexer.specs.declared.token.NumberToken.TheVariants.{Marked}
use Rattle.es6_lexer.specs.declared.token.LexicalKind.TheVariants.{LegacyOctal, BadNumber}
use Rattle.es6_lexer.specs.declared.shape.Element.{Element}
use Rattle.es6_lexer.specs.declared.shape.Element.TheVariants.{Take, Stop}
use Rattle.es6_lexer.specs.declared.shape.Shape.TheVariants.{OfNumber}
use Rattle.es6_lexer.specs.Classes.{is_decimal_digit, is_digit_of, is_identifier_part, goes_on}
use Rattle.es6_lexer.specs.Numbers.{digits_value, whole, radix_of, exponent_length}

-- digits, and all that there are
abbrev pub AreAllDigits : ℕ → List ℕ → List ℕ → Type 0
AreAllDigits radix ds after = (list_all (is_digit_of radix) ds ≡ true) × (goes_on (is_digit_of radix) after ≡ false)

-- a point and digits, or nothing where no point stands
abbrev pub IsFraction : List ℕ → List ℕ → Type 0
IsFraction fs after = ((fs ≡ []) × (slice_index after 0 ≡ 46 → ⊥)) ⊎ ((ds : List ℕ) × (fs ≡ 46 ∷ ds) × AreAllDigits 10 ds after)

abbrev pub IsSign : List ℕ → Type 0
IsSign sign = (sign ≡ []) ⊎ ((sign ≡ 43 ∷ []) ⊎ (sign ≡ 45 ∷ []))

-- `e` or `E`, a sign or none, and digits; or nothing where no such thing stands
abbrev pub IsExponent : List ℕ → List ℕ → Type 0
IsExponent es after = ((es ≡ []) × (exponent_length after ≡ 0))
    ⊎ ((mark : ℕ) × (sign : List ℕ) × (ds : List ℕ) × (es ≡ mark ∷ (sign ++ ds)) × ((mark ≡ 101) ⊎ (mark ≡ 69)) × IsSign sign × (1 ≤ length ds) × AreAllDigits 10 ds after)

-- the letter of a prefix, in either case
abbrev pub IsPrefix : ℕ → ℕ → Type 0
IsPrefix radix letter = ((radix ≡ 16) × ((letter ≡ 120) ⊎ (letter ≡ 88))) ⊎ (((radix ≡ 8) × ((letter ≡ 111) ⊎ (letter ≡ 79))) ⊎ ((radix ≡ 2) × ((letter ≡ 98) ⊎ (letter ≡ 66))))

-- what a number begins with: a digit, or a point and a digit
abbrev pub BeginsNumber : List ℕ → Type 0
BeginsNumber cs = (is_decimal_digit (slice_index cs 0) ≡ true) ⊎ ((slice_index cs 0 ≡ 46) × (is_decimal_digit (slice_index cs 1) ≡ true))

-- a number of n characters ends, unless a part of an identifier follows
abbrev pub ended_by : NumberToken → ℕ → List ℕ → Element
ended_by v n after = if goes_on is_identifier_part after then Stop BadNumber 0 else Take (OfNumber v) n

abbrev pub decimal_value : List ℕ → List ℕ → List ℕ → NumberToken
decimal_value ds fs es = if length fs + length es == 0 then whole (digits_value 10 ds) else Marked

-- a decimal literal, its digits behind a leading 0 being a fault
abbrev pub IsDecimal : List ℕ → Element → Type 0
IsDecimal rest e = (ds : List ℕ) × (fs : List ℕ) × (es : List ℕ) × (after : List ℕ) × (rest ≡ ds ++ (fs ++ (es ++ after))) × AreAllDigits 10 ds (fs ++ (es ++ after)) × IsFraction fs (es ++ after) × IsExponent es after
    × (e ≡ (if slice_index rest 0 == 48 && nat_lt 1 (length ds) then Stop LegacyOctal 0 else ended_by (decimal_value ds fs es) (length ds + length fs + length es) after))

-- a literal with a prefix, which wants digits
abbrev pub IsPrefixed : List ℕ → Element → Type 0
IsPrefixed rest e = (letter : ℕ) × (ds : List ℕ) × (after : List ℕ) × (rest ≡ 48 ∷ letter ∷ (ds ++ after)) × IsPrefix (radix_of rest) letter × AreAllDigits (radix_of rest) ds after
    × (e ≡ (if length ds == 0 then Stop BadNumber 0 else ended_by (whole (digits_value (radix_of rest) ds)) (2 + length ds) after))

-- the literal at the front, or its fault
abbrev pub IsNumber : List ℕ → Element → Type 0
IsNumber rest e = ((radix_of rest ≡ 10) × IsDecimal rest e) ⊎ ((radix_of rest ≡ 10 → ⊥) × IsPrefixed rest e)

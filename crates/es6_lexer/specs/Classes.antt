-- Classes of characters, and runs of one class.
use Rattle.std.specs.Prelude.{◌≡◌, ℕ, suc, ◌+◌, ◌-◌, Bool, true, false, not, ◌&&◌, ◌||◌, ◌==◌, nat_lt, nat_le, List, [], ◌∷◌, if◌then◌else◌}
use Rattle.unicode.specs.Binary.{is_xid_start, is_xid_continue}
use Rattle.unicode.specs.GeneralCategory.{general_category}
use Rattle.ucd_category.specs.declared.GeneralCategory.{GeneralCategory}
use Rattle.ucd_category.specs.declared.GeneralCategory.TheVariants.{SpaceSeparator}

-- the category Zs
abbrev pub is_space_separator : GeneralCategory → Bool
is_space_separator SpaceSeparator = true
is_space_separator _ = false

-- white space (11.2)
abbrev pub is_white_space : ℕ → Bool
is_white_space c = c == 0x9 || c == 0xB || c == 0xC || c == 0x20 || c == 0xA0 || c == 0xFEFF || is_space_separator (general_category c)

-- line terminators (11.3)
abbrev pub is_line_terminator : ℕ → Bool
is_line_terminator c = c == 0xA || c == 0xD || c == 0x2028 || c == 0x2029

abbrev pub is_not_line_terminator : ℕ → Bool
is_not_line_terminator c = not (is_line_terminator c)

-- identifiers (11.6), by the profile: XID_Start, `$` or `_`, and then XID_Continue, `$`, U+200C or U+200D
abbrev pub is_identifier_start : ℕ → Bool
is_identifier_start c = c == 36 || c == 95 || is_xid_start c

abbrev pub is_identifier_part : ℕ → Bool
is_identifier_part c = c == 36 || c == 0x200C || c == 0x200D || is_xid_continue c

abbrev pub is_decimal_digit : ℕ → Bool
is_decimal_digit c = nat_le 48 c && nat_le c 57

-- `"` and `'`
abbrev pub is_quote : ℕ → Bool
is_quote c = c == 34 || c == 39

-- the value of a hexadecimal digit, and 16 of another character
abbrev pub digit_value : ℕ → ℕ
digit_value c =
    if nat_le 48 c && nat_le c 57 then c - 48
    else (if nat_le 97 c && nat_le c 102 then c - 97 + 10
    else (if nat_le 65 c && nat_le c 70 then c - 65 + 10
    else 16))

-- the character is a digit of the radix, which is at most 16
abbrev pub is_digit_of : ℕ → ℕ → Bool
is_digit_of radix c = nat_lt (digit_value c) radix

-- how many characters at the front pass the test
abbrev pub run_of : (ℕ → Bool) → List ℕ → ℕ
run_of p [] = 0
run_of p (c ∷ cs) = if p c then suc (run_of p cs) else 0

-- the first character passes the test
abbrev pub goes_on : (ℕ → Bool) → List ℕ → Bool
goes_on p [] = false
goes_on p (c ∷ cs) = p c

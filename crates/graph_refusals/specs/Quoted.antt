-- Texts between quotes, as lines show them.
use Rattle.std.specs.Prelude.{ℕ, ◌+◌, ◌/◌, ◌%◌, ◌==◌, Bool, ◌&&◌, ◌||◌, not, nat_le, nat_lt, List, [], ◌∷◌, ◌++◌, if◌then◌else◌}
use Rattle.std.specs.Str.{chars, is_utf8}
use Rattle.es_text.specs.Units.{units}

-- a hexadecimal digit
abbrev pub hex_digit : ℕ → ℕ
hex_digit d = (if nat_lt d 10 then 48 + d else 87 + d)

-- a unit as `\u` and four hexadecimal digits
abbrev pub escaped : ℕ → List ℕ
escaped u = 92 ∷ 117 ∷ hex_digit (u / 4096 % 16) ∷ hex_digit (u / 256 % 16) ∷ hex_digit (u / 16 % 16) ∷ hex_digit (u % 16) ∷ []

-- the quote and the backslash
abbrev pub is_special : ℕ → Bool
is_special u = u == 34 || u == 92

-- the units that stand for themselves: printable ASCII but those two
abbrev pub is_plain : ℕ → Bool
is_plain u = nat_le 32 u && nat_le u 126 && not (is_special u)

abbrev pub quoted_unit : ℕ → List ℕ
quoted_unit u = if is_plain u then u ∷ [] else if is_special u then 92 ∷ u ∷ [] else escaped u

abbrev pub quoted_units : List ℕ → List ℕ
quoted_units [] = []
quoted_units (u ∷ us) = quoted_unit u ++ quoted_units us

abbrev pub quoted : List ℕ → List ℕ
quoted us = 34 ∷ quoted_units us ++ 34 ∷ []

-- the units of a name, which is in UTF-8; of other bytes, the bytes
abbrev pub name_units : List ℕ → List ℕ
name_units bytes = if is_utf8 bytes then units (chars bytes) else bytes

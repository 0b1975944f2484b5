-- Lines and places of a text (ECMA-262, 6th edition, 11.3), over the list of its characters.
use Rattle.std.specs.Prelude.{◌≡◌, ℕ, zero, suc, ◌+◌, ◌<◌, ◌≤◌, ◌⊎◌, Bool, false, not, ◌&&◌, ◌||◌, ◌==◌, List, [], ◌∷◌, length, take, drop, if◌then◌else◌}
use Rattle.std.specs.Str.{encode_utf8_all}
use Rattle.es_text.specs.declared.Place.{Place}
use Rattle.es_text.specs.Units.{units_of_code_point}

-- a line feed comes first
abbrev pub begins_with_line_feed : List ℕ → Bool
begins_with_line_feed [] = false
begins_with_line_feed (c ∷ cs) = c == 0x0A

-- a line ends with the character c, which rest follows: CR LF ends one line, with its LF
abbrev pub ends_line : ℕ → List ℕ → Bool
ends_line c rest = c == 0x0A || c == 0x2028 || c == 0x2029 || (c == 0x0D && not (begins_with_line_feed rest))

-- what follows character i
abbrev pub rest_after : List ℕ → ℕ → List ℕ
rest_after cs i = drop (i + 1) cs

-- where the next character stands, if c, which rest follows, stands at p
abbrev pub place_after : Place → ℕ → List ℕ → Place
place_after p c rest =
    if ends_line c rest then record { line = p.line + 1; column = 0 }
    else record { line = p.line; column = p.column + length (units_of_code_point c) }

-- where character i stands, or the end, in a text that begins at p
unfoldable pub place_from : Place → List ℕ → ℕ → Place
place_from p [] i = p
place_from p (c ∷ cs) zero = p
place_from p (c ∷ cs) (suc i) = place_from (place_after p c cs) cs i

-- the place of character i, or of the end
abbrev pub place_at : List ℕ → ℕ → Place
place_at cs i = place_from (record { line = 0; column = 0 }) cs i

-- the offset of character i, or of the end: the bytes before it
abbrev pub offset_at : List ℕ → ℕ → ℕ
offset_at cs i = length (encode_utf8_all (take i cs))

-- some character, or the end, has this offset and this place
pub record IsPlace (cs : List ℕ) (offset : ℕ) (place : Place) : Type 0 where
  pub index : ℕ
  pub inside : index ≤ length cs
  pub offset_is : offset ≡ offset_at cs index
  pub place_is : place ≡ place_at cs index

-- a character begins at the offset, or the text ends there
abbrev pub IsBoundary : List ℕ → ℕ → Type 0
IsBoundary cs offset = (i : ℕ) × (i ≤ length cs) × (offset ≡ offset_at cs i)

-- p comes before q
abbrev pub IsBefore : Place → Place → Type 0
IsBefore p q = (p.line < q.line) ⊎ ((p.line ≡ q.line) × (p.column < q.column))

-- Where an offset in bytes of a text stands.
use Rattle.std.specs.Prelude.{ℕ, zero, suc, ◌==◌, List, length, if◌then◌else◌}
use Rattle.es_text.specs.declared.Place.{Place}
use Rattle.es_text.specs.Places.{offset_at, place_at}

-- the first place of a text
abbrev pub first_place : Place
first_place = record { line = 0; column = 0 }

-- the place of the last of the characters up to this one, or of the end, that begins at the offset; else the first one
abbrev pub sought : List ℕ → ℕ → ℕ → Place
sought text offset zero = if offset_at text zero == offset then place_at text zero else first_place
sought text offset (suc i) = if offset_at text (suc i) == offset then place_at text (suc i) else sought text offset i

-- the place of the character that begins at an offset, or of the end there; else the text's first place
abbrev pub place_in : List ℕ → ℕ → Place
place_in text offset = sought text offset (length text)

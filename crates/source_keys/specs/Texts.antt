-- The units of a name, byte by byte.
use Rattle.std.specs.Prelude.{ℕ, zero, suc, List, []}
use Rattle.std.specs.Char.Escape.{encode_utf16}
use Rattle.std.specs.List.{flat_map}
use Rattle.std.specs.Str.{chars_after, continuation_len, lead_bits}
use Rattle.source_keys.specs.declared.texts.Begun.{Begun}

-- the character that a byte begins
abbrev pub led_by : ℕ → Begun
led_by byte = record { left = continuation_len byte; code = lead_bits byte }

-- the units of the character under way and of those behind it
abbrev pub units_after : Begun → List ℕ → List ℕ
units_after b rest = flat_map encode_utf16 (chars_after b.left b.code rest)

abbrev pub end_of : Begun → List ℕ
end_of b = units_after b []

-- no value of a character's bytes is as much, where so many are to come
abbrev pub limit : ℕ → ℕ
limit zero = 4460608
limit (suc zero) = 69696
limit (suc (suc zero)) = 1088
limit (suc (suc (suc zero))) = 16
limit (suc (suc (suc (suc n)))) = 0

-- The units of a text, and what its refusal says.
use Rattle.std.specs.Prelude.{ℕ, List}
use Rattle.std.specs.List.{flat_map}
use Rattle.std.specs.Str.{IsValidUpTo}
use Rattle.std.specs.Char.Escape.{encode_utf16}
use Rattle.es_text.specs.declared.units.TextFault.{TextFault}
use Rattle.es_text.specs.declared.units.TextFault.TheVariants.{NotUtf8, OutOfMemory}

-- the one or two units of a code point (UTF16Encoding, ECMA-262, 6th edition, 10.1.1)
abbrev pub units_of_code_point : ℕ → List ℕ
units_of_code_point = encode_utf16

-- the units of a text, of whose characters these are the codes
abbrev pub units : List ℕ → List ℕ
units cs = flat_map units_of_code_point cs

-- bytes are refused at the longest front that is UTF-8, and no UTF-8 is refused so
abbrev pub IsTextFault : List ℕ → TextFault → Type 0
IsTextFault bytes (NotUtf8 at) = IsValidUpTo bytes at
IsTextFault bytes OutOfMemory = Unit {0}

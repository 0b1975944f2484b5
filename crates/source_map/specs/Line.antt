-- The map in a script: its last line that isn't empty. LF ends a line.
use Rattle.std.specs.Prelude.{ℕ, zero, suc, ◌==◌, if◌then◌else◌, List, ◌++◌, length, take, drop, Bool, slice_index, Result, Ok, Err, nat_eq}
use lib.Pointwise.{pointwise}
use Rattle.base64.specs.Engines.{standard}
use Rattle.base64.specs.GeneralPurpose.{decode_of, encode_of}
use Rattle.base64.specs.declared.decode.DecodeError.{DecodeError}
use Rattle.source_map.specs.declared.fault.MapFault.{MapFault}
use Rattle.source_map.specs.declared.fault.MapFault.TheVariants.{NoMap, BadBase64}
use Rattle.source_map.specs.declared.map.Map.{Map}
use Rattle.source_map.specs.declared.line.TheConstants.{HEAD}
use Rattle.source_map.specs.Outcome.{◌>>=◌}
use Rattle.source_map.specs.Document.{map_of}

-- where the line feeds begin that the first n bytes end with
unfoldable pub text_end : List ℕ → ℕ → ℕ
text_end script zero = zero
text_end script (suc n) = if slice_index script n == 10 then text_end script n else suc n

-- where the line begins that goes on up to byte n
unfoldable pub line_begin : List ℕ → ℕ → ℕ
line_begin script zero = zero
line_begin script (suc n) = if slice_index script n == 10 then suc n else line_begin script n

abbrev pub line_to : List ℕ → ℕ → List ℕ
line_to script end = drop (line_begin script end) (take end script)

-- the last line that isn't empty, or an empty one where there is none
abbrev pub last_line : List ℕ → List ℕ
last_line script = line_to script (text_end script (length script))

-- the line of a map whose text is these bytes, in standard base64 (RFC 4648, section 4)
abbrev pub line_of : List ℕ → List ℕ
line_of text = HEAD.now ++ encode_of standard text

abbrev pub or_bad_base64 : Result (List ℕ) DecodeError → Result (List ℕ) MapFault
or_bad_base64 (Ok bytes) = Ok bytes
or_bad_base64 (Err e) = Err BadBase64

-- the line begins with the head of a map's line
abbrev pub has_head : List ℕ → Bool
has_head line = pointwise nat_eq (take (length HEAD.now) line) HEAD.now

abbrev pub text_of_line : List ℕ → Result (List ℕ) MapFault
text_of_line line = if has_head line then or_bad_base64 (decode_of standard (drop (length HEAD.now) line)) else Err NoMap

-- The text of the map that a script holds.
unfoldable pub map_text_of : List ℕ → Result (List ℕ) MapFault
map_text_of script = text_of_line (last_line script)

-- The map that a script holds.
abbrev pub script_map_of : List ℕ → Result Map MapFault
script_map_of script = map_text_of script >>= map_of

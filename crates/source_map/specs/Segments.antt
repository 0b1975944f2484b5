-- The segments of a map's `mappings`, by cases on its characters.
use Rattle.std.specs.Prelude.{ℕ, zero, suc, ◌+◌, ◌-◌, ◌*◌, ◌/◌, ◌%◌, ◌^◌, ◌&&◌, ◌||◌, ◌==◌, nat_lt, nat_le, if◌then◌else◌, Bool, true, false, List, [], ◌∷◌, ◌++◌, length, Option, Some, None, option_and_then, Result, Ok, Err, ◌≡◌}
use Rattle.source_map.specs.declared.map.Segment.{Segment}
use Rattle.source_map.specs.declared.fault.MapFault.{MapFault}
use Rattle.source_map.specs.declared.fault.MapFault.TheVariants.{BadDigit, BadFields}
use Rattle.source_map.specs.declared.fields.Field.{Field}
use Rattle.source_map.specs.declared.reading.Values.{Values}
use Rattle.source_map.specs.declared.reading.Reading.{Reading}
use Rattle.source_map.specs.Digits.{digit_of}
use Rattle.source_map.specs.Outcome.{◌>>=◌, or_bad_index}

-- ---- the values that fields move

abbrev pub limit : ℕ
limit = 2147483647

-- A field's lowest bit is its sign, and the other bits are how far it moves a value.
abbrev pub moved : ℕ → ℕ → Option ℕ
moved value field =
    if field % 2 == 1
    then (if nat_lt value (field / 2) then None else Some (value - field / 2))
    else (if nat_lt limit (value + field / 2) then None else Some (value + field / 2))

-- a value below a count
abbrev pub within : ℕ → ℕ → Option ℕ
within count value = if nat_lt value count then Some value else None

-- a column after the one before, unless it is the line's first
abbrev pub after_column : Bool → ℕ → ℕ → Option ℕ
after_column first before column = if first || nat_lt before column then Some column else None

-- The fields of a segment move, in this order: the generated column, the source, its line, its column, the name.
unfoldable pub move_by : Reading → ℕ → Field → Values → Result Values MapFault
move_by s zero f v = or_bad_index f.at (option_and_then (after_column s.first v.generated) (moved v.generated f.number)) >>= λ x. Ok (record v { generated = x })
move_by s (suc zero) f v = or_bad_index f.at (option_and_then (within s.sources) (moved v.source f.number)) >>= λ x. Ok (record v { source = x })
move_by s (suc (suc zero)) f v = or_bad_index f.at (moved v.line f.number) >>= λ x. Ok (record v { line = x })
move_by s (suc (suc (suc zero))) f v = or_bad_index f.at (moved v.column f.number) >>= λ x. Ok (record v { column = x })
move_by s (suc (suc (suc (suc zero)))) f v = or_bad_index f.at (option_and_then (within s.names) (moved v.name f.number)) >>= λ x. Ok (record v { name = x })
move_by s (suc (suc (suc (suc (suc k))))) f v = Ok v

-- the fields from number k on, in order
unfoldable pub move_all : Reading → ℕ → List Field → Values → Result Values MapFault
move_all s k [] v = Ok v
move_all s k (f ∷ fs) v = move_by s k f v >>= move_all s (suc k) fs

-- ---- segments

abbrev pub segment_at : ℕ → ℕ → Values → Segment
segment_at line fields v = record {
  generated = record { line = line; column = v.generated };
  target =
      if nat_lt fields 4 then None else Some (record {
        source = v.source;
        place = record { line = v.line; column = v.column };
        name = if nat_lt fields 5 then None else Some v.name;
      });
}

-- A digit's fault stands, unless an index that comes before it is at fault.
unfoldable pub bad_digit : ℕ → Reading → Result Reading MapFault
bad_digit at s = move_all s 0 s.fields s.values >>= λ v. Err (BadDigit at)

-- the end of a segment whose fields are whole
unfoldable pub end_fields : Reading → Result Reading MapFault
end_fields s =
    if (length s.fields == 1) || ((length s.fields == 4) || (length s.fields == 5))
    then (move_all s 0 s.fields s.values >>= λ v.
    Ok (record s { values = v; fields = []; segments = s.segments ++ segment_at s.line (length s.fields) v ∷ [] }))
    else Err (BadFields s.start)

-- The end of a segment. A line may have none.
unfoldable pub end_segment : Reading → Result Reading MapFault
end_segment s =
    if s.weight == 1 then end_fields s else bad_digit s.begun s

unfoldable pub end_line : Reading → Result Reading MapFault
end_line s =
    if s.first && ((length s.fields == 0) && (s.weight == 1)) then Ok s else end_segment s

-- what a segment's end keeps; for private clauses
abbrev pub KeepsDigits : Reading → Reading → Type 0
KeepsDigits old new = (new.number ≡ old.number) × (new.weight ≡ old.weight) × (new.line ≡ old.line)

-- ---- characters

-- The weight of the next digit is 32 for each digit of the field before it. A field has at most seven digits.
abbrev pub begun_at : ℕ → Reading → ℕ
begun_at at s = if s.weight == 1 then at else s.begun

-- A digit below 32 is the last of its field.
unfoldable pub digit_at : ℕ → ℕ → Reading → Result Reading MapFault
digit_at at d s =
    let number = s.number + d % 32 * s.weight in
    if nat_lt (32 ^ 6) s.weight then bad_digit (begun_at at s) s else (
    if nat_le 32 d then Ok (record s { begun = begun_at at s; number = number; weight = s.weight * 32 }) else (
    if nat_lt limit (number / 2) then bad_digit (begun_at at s) s else
    Ok (record s { fields = s.fields ++ (record { at = begun_at at s; number = number }) ∷ []; begun = begun_at at s; number = 0; weight = 1 })))

abbrev pub digit_or_fault : ℕ → Reading → Option ℕ → Result Reading MapFault
digit_or_fault at s None = bad_digit at s
digit_or_fault at s (Some d) = digit_at at d s

unfoldable pub character_at : ℕ → ℕ → Reading → Result Reading MapFault
character_at at c s =
    if c == 59 then (end_line s >>= λ t. Ok (record t { line = t.line + 1; values = record t.values { generated = 0 }; first = true; start = at + 1 })) else (
    if c == 44 then (end_segment s >>= λ t. Ok (record t { first = false; start = at + 1 })) else
    digit_or_fault at s (digit_of c))

-- the characters from the place `at` on
unfoldable pub characters_from : ℕ → List ℕ → Reading → Result Reading MapFault
characters_from at [] s = end_line s
characters_from at (c ∷ cs) s = character_at at c s >>= characters_from (suc at) cs

abbrev pub beginning : ℕ → ℕ → Reading
beginning sources names = record {
  sources = sources;
  names = names;
  line = 0;
  values = record { generated = 0; source = 0; line = 0; column = 0; name = 0 };
  first = true;
  start = 0;
  fields = [];
  begun = 0;
  number = 0;
  weight = 1;
  segments = [];
}

-- The segments of `mappings`, beside so many sources and names, or its first fault.
unfoldable pub segments_of : ℕ → ℕ → List ℕ → Result (List Segment) MapFault
segments_of sources names mappings = characters_from 0 mappings (beginning sources names) >>= λ s. Ok s.segments

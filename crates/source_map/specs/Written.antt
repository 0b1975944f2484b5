-- The text of a map.
use Rattle.std.specs.Prelude.{ℕ, zero, suc, ◌+◌, ◌-◌, ◌*◌, ◌/◌, ◌%◌, ◌≤◌, nat_lt, nat_le, if◌then◌else◌, Bool, true, false, List, [], ◌∷◌, ◌++◌, replicate, codes, Option, Some, None, IfSome}
use Rattle.json.specs.Print.{quoted}
use Rattle.serde_json.specs.Written.{comma_if}
use Rattle.source_map.specs.declared.map.Segment.{Segment}
use Rattle.source_map.specs.declared.map.Target.{Target}
use Rattle.source_map.specs.declared.reading.Values.{Values}
use Rattle.source_map.specs.Digits.{letter}
use Rattle.source_map.specs.Segments.{limit}

-- ---- mappings

-- a number with its sign at the lowest bit, which leads from one value to the next
abbrev pub signed : ℕ → ℕ → ℕ
signed from to = if nat_le from to then 2 * (to - from) else 2 * (from - to) + 1

-- a number's digits, the least first and at most so many more than one
unfoldable pub digits_text : ℕ → ℕ → List ℕ
digits_text zero n = letter n ∷ []
digits_text (suc k) n = if nat_lt n 32 then letter n ∷ [] else letter (32 + n % 32) ∷ digits_text k (n / 32)

abbrev pub field_text : ℕ → ℕ → List ℕ
field_text from to = digits_text 6 (signed from to)

abbrev pub name_text : Values → Option ℕ → List ℕ
name_text v None = []
name_text v (Some n) = field_text v.name n

abbrev pub place_text : Values → Target → List ℕ
place_text v t = field_text v.source t.source ++ (field_text v.line t.place.line ++ field_text v.column t.place.column)

abbrev pub target_text : Values → Option Target → List ℕ
target_text v None = []
target_text v (Some t) = place_text v t ++ name_text v t.name

abbrev pub segment_text : Values → Segment → List ℕ
segment_text v s = field_text v.generated s.generated.column ++ target_text v s.target

-- what stands between a segment and the one before
abbrev pub separator : ℕ → Bool → ℕ → List ℕ
separator line first to = if nat_lt line to then replicate (to - line) 59 else (if first then [] else 44 ∷ [])

-- each line begins at column 0
abbrev pub values_in : ℕ → ℕ → Values → Values
values_in line to v = if nat_lt line to then record v { generated = 0 } else v

abbrev pub named : Values → Option ℕ → Values
named v None = v
named v (Some n) = record v { name = n }

abbrev pub placed : Values → Target → Values
placed v t = record v { source = t.source; line = t.place.line; column = t.place.column }

abbrev pub targeted : Values → Option Target → Values
targeted v None = v
targeted v (Some t) = named (placed v t) t.name

-- the values that a segment leaves
abbrev pub values_to : Values → Segment → Values
values_to v s = targeted (record v { generated = s.generated.column }) s.target

-- before the first segment
abbrev pub no_values : Values
no_values = record { generated = 0; source = 0; line = 0; column = 0; name = 0 }

-- ---- for private clauses

pub record IsSmallTarget (t : Target) : Type 0 where
  pub source : t.source ≤ limit
  pub line : t.place.line ≤ limit
  pub column : t.place.column ≤ limit
  pub name : IfSome t.name (λ n. n ≤ limit)

pub record AreSmall (v : Values) : Type 0 where
  pub generated : v.generated ≤ limit
  pub source : v.source ≤ limit
  pub line : v.line ≤ limit
  pub column : v.column ≤ limit
  pub name : v.name ≤ limit

unfoldable pub mappings_text : ℕ → Bool → Values → List Segment → List ℕ
mappings_text line first v [] = []
mappings_text line first v (s ∷ ss) =
    separator line first s.generated.line ++ (segment_text (values_in line s.generated.line v) s
    ++ mappings_text s.generated.line false (values_to (values_in line s.generated.line v) s) ss)

-- ---- the whole

-- the texts in quotes, with commas between them
abbrev pub texts_text : Bool → List (List ℕ) → List ℕ
texts_text later [] = []
texts_text later (t ∷ ts) = comma_if later ++ (quoted t ++ texts_text true ts)

abbrev pub list_text : List (List ℕ) → List ℕ
list_text ts = texts_text false ts

unfoldable pub document_text : List (List ℕ) → List (List ℕ) → List ℕ → List ℕ
document_text sources names mappings =
    codes "{\"version\":3,\"sources\":[" ++ (list_text sources ++ (codes "],\"names\":[" ++ (list_text names ++ (codes "],\"mappings\":" ++ (quoted mappings ++ codes "}")))))

-- A map's text: a JSON object (RFC 8259) with `version`, `sources`, `names` and `mappings`. Other members say nothing.
use Rattle.std.specs.Prelude.{ℕ, ◌==◌, if◌then◌else◌, List, [], ◌∷◌, length, Option, Some, None, option_map, option_and_then, Result, Ok, Err, codes, Bool, false}
use Rattle.std.specs.Str.{is_utf8}
use Rattle.serde_json.specs.Data.{Data, Items, no_items, item}
use Rattle.serde_json.specs.Read.{read}
use Rattle.serde_json.specs.Find.{get, as_number, as_u64, as_array, as_str}
use Rattle.source_map.specs.declared.map.Map.{Map}
use Rattle.source_map.specs.declared.fault.MapFault.{MapFault}
use Rattle.source_map.specs.declared.fault.MapFault.TheVariants.{BadJson, BadVersion}
use Rattle.source_map.specs.Outcome.{◌>>=◌}
use Rattle.source_map.specs.Segments.{segments_of}

-- the texts of a list that holds nothing else
abbrev pub texts : Items → Option (List (List ℕ))
texts no_items = Some []
texts (item d ds) = option_and_then (λ t. option_map (λ ts. t ∷ ts) (texts ds)) (as_str d)

abbrev pub texts_at : List ℕ → Data → Option (List (List ℕ))
texts_at key d = option_and_then texts (option_and_then as_array (get key d))

abbrev pub or_bad_json : {A : Type 0} → Option A → Result A MapFault
or_bad_json None = Err BadJson
or_bad_json (Some x) = Ok x

-- the whole number, which a text has without a point and without an exponent
unfoldable pub version_of : Data → Option ℕ
version_of d = option_and_then as_u64 (option_and_then as_number (get (codes "version") d))

abbrev pub is_number : ℕ → Option ℕ → Bool
is_number n None = false
is_number n (Some m) = m == n

-- the members that count, and then the segments
unfoldable pub map_of_data : Data → Result Map MapFault
map_of_data d =
    or_bad_json (texts_at (codes "sources") d) >>= λ sources.
    or_bad_json (texts_at (codes "names") d) >>= λ names.
    or_bad_json (option_and_then as_str (get (codes "mappings") d)) >>= λ mappings.
    if is_number 3 (version_of d)
    then (segments_of (length sources) (length names) mappings >>= λ segments. Ok (record { sources = sources; names = names; segments = segments }))
    else Err BadVersion

-- The map that a text is, or its first fault.
unfoldable pub map_of : List ℕ → Result Map MapFault
map_of text = or_bad_json (if is_utf8 text then read text else None) >>= map_of_data

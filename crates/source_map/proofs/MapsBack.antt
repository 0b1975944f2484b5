-- The text that is written for a map is that map.
use Rattle.std.proofs.Common.{◌≡◌, ℕ, List, length, true, Ok, sym, ap, ◌∙◌, subst}
use Rattle.std.specs.Str.{IsUtf8}
use Rattle.std.proofs.lemmas.List.Elements.{recursion_from_All}
use Rattle.source_map.specs.declared.map.Segment.{Segment}
use Rattle.source_map.specs.declared.map.Map.{Map}
use Rattle.source_map.specs.Outcome.{◌>>=◌}
use Rattle.source_map.specs.Segments.{segments_of}
use Rattle.source_map.specs.Document.{map_of}
use Rattle.source_map.specs.Maps.{IsMap, IsSegment}
use Rattle.source_map.specs.Written.{mappings_text, no_values, document_text}
use Rattle.source_map.proofs.ReadBack.{map_of-document_text}
use Rattle.source_map.proofs.MappingsBack.{segments_of-mappings_text}

-- the text is laid out around the characters of the map's segments
pub laid_out : (m : Map) (slice : List Segment) (written mappings text items : List ℕ) → IsMap m → slice ≡ m.segments → written ≡ mappings_text 0 true no_values slice → mappings ≡ written
    → text ≡ document_text m.sources m.names mappings → items ≡ text
    → (x : List ℕ) × (items ≡ document_text m.sources m.names x) × (segments_of (length m.sources) (length m.names) x ≡ Ok m.segments)
laid_out m slice written mappings text items is same characters copied laid given =
    let each = recursion_from_All (IsSegment (length m.sources) (length m.names)) m.segments is.each in (
      mappings,
      given ∙ laid,
      ap (segments_of (length m.sources) (length m.names)) (copied ∙ characters ∙ ap (mappings_text 0 true no_values) same) ∙ segments_of-mappings_text (length m.sources) (length m.names) m.segments is.ordered each,
    )

-- such a text is read as the map
pub reads_back : (m : Map) (text items : List ℕ) → IsUtf8 text → items ≡ text → (x : List ℕ) × (items ≡ document_text m.sources m.names x) × (segments_of (length m.sources) (length m.names) x ≡ Ok m.segments)
    → map_of items ≡ Ok m
reads_back m text items utf8 given laid =
    ap map_of laid.1 ∙ map_of-document_text m.sources m.names laid.0 (subst IsUtf8 (sym given ∙ laid.1) utf8)
    ∙ ap (λ r. r >>= λ segments. Ok (record { sources = m.sources; names = m.names; segments = segments })) laid.2

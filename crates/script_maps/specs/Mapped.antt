-- The source map of a printed script: a segment for each call that carries its place in a module.
use Rattle.std.specs.Prelude.{◌≡◌, ◌≤◌, ℕ, Bool, true, nat_eq, nat_le, nat_lt, ◌&&◌, ◌||◌, if◌then◌else◌, List, [], ◌∷◌, ◌++◌, Option, Some, None, Ok, slice_get}
use Rattle.std.specs.List.{AllZip}
use Rattle.std.specs.Str.{IsUtf8}
use Rattle.es_text.specs.declared.Place.{Place}
use Rattle.es_text.specs.Places.{IsPlace}
use Rattle.es_outside.specs.declared.events.Site.{Site}
use Rattle.es6_ast.specs.declared.graph.LoadedModule.{LoadedModule}
use Rattle.es5_printer.specs.declared.mark.Mark.{Mark}
use Rattle.source_map.specs.declared.map.Map.{Map}
use Rattle.source_map.specs.declared.map.Segment.{Segment}
use Rattle.source_map.specs.declared.map.Target.{Target}
use Rattle.source_map.specs.Document.{map_of}
use Rattle.source_map.specs.Line.{line_of}
use Rattle.source_map.specs.Segments.{limit}

-- ---- marks

-- p stands behind the last place, if there is one
abbrev pub is_behind : Option Place → Place → Bool
is_behind None p = true
is_behind (Some q) p = nat_lt q.line p.line || (nat_eq q.line p.line && nat_lt q.column p.column)

abbrev pub stands_apart : Option Place → Place → Bool
stands_apart last p = is_behind last p && nat_le p.column limit

-- Of marks those that stand behind the last one, and not too far right: no two segments of a map begin at one place.
unfoldable pub apart : Option Place → List Mark → List Mark
apart last [] = []
apart last (m ∷ ms) = if stands_apart last m.generated then m ∷ apart (Some m.generated) ms else apart last ms

-- ---- segments

-- no number of a map is above the limit
pub record IsSmall (source : ℕ) (place : Place) : Type 0 where
  pub source_is : source ≤ limit
  pub line_is : place.line ≤ limit
  pub column_is : place.column ≤ limit

pub record IsTargetAt (text : List ℕ) (number at : ℕ) (t : Target) : Type 0 where
  pub source_is : t.source ≡ number
  pub name_is : t.name ≡ None
  pub place_is : IsPlace text at t.place
  pub small : IsSmall number t.place

-- the place of an offset in the text of the module of a number; none where no character begins there
abbrev pub IsTargetIn : List ℕ → ℕ → ℕ → Option Target → Type 0
IsTargetIn text number at (Some t) = IsTargetAt text number at t
IsTargetIn text number at None = (p : Place) → IsPlace text at p → IsSmall number p → ⊥

-- none where there is no such module
abbrev pub IsTargetOf : Option LoadedModule → Site → Option Target → Type 0
IsTargetOf None site t = t ≡ None
IsTargetOf (Some m) site t = IsTargetIn m.lines site.module site.at t

-- what a call's first token leads to
pub record IsSegmentOf (modules : List LoadedModule) (m : Mark) (s : Segment) : Type 0 where
  pub generated_is : s.generated ≡ m.generated
  pub target_is : IsTargetOf (slice_get modules m.site.module) m.site s.target

abbrev pub AreSegmentsOf : List LoadedModule → List Mark → List Segment → Type 0
AreSegmentsOf modules = AllZip (IsSegmentOf modules)

-- ---- sources

-- the path of a module, where its bytes are a text
pub record IsSource (path source : List ℕ) : Type 0 where
  pub same : IsUtf8 path → source ≡ path
  pub none : (IsUtf8 path → ⊥) → source ≡ []

abbrev pub AreSources : List LoadedModule → List (List ℕ) → Type 0
AreSources = AllZip (λ m source. IsSource m.path source)

-- ---- the map and its line

pub record IsMapOf (modules : List LoadedModule) (marks : List Mark) (m : Map) : Type 0 where
  pub sources_are : AreSources modules m.sources
  pub names_are : m.names ≡ []
  pub segments_are : AreSegmentsOf modules (apart None marks) m.segments

-- the bytes of a script with the line of its map behind them
pub record IsMapped (modules : List LoadedModule) (marks : List Mark) (script bytes : List ℕ) : Type 0 where
  pub map : Map
  pub text : List ℕ
  pub is_map : IsMapOf modules marks map
  pub read : map_of text ≡ Ok map
  pub bytes_are : bytes ≡ script ++ line_of text ++ 10 ∷ []

-- What a map has to be.
use Rattle.std.specs.Prelude.{◌≡◌, ◌<◌, ◌≤◌, ◌⊎◌, ◌==◌, ◌&&◌, ℕ, List, [], ◌∷◌, length, Bool, Option, None, IfSome, All, ⊤, if◌then◌else◌}
use Rattle.std.specs.List.{AllByRecursion}
use Rattle.es_text.specs.declared.Place.{Place}
use Rattle.source_map.specs.declared.map.Segment.{Segment}
use Rattle.source_map.specs.declared.map.Target.{Target}
use Rattle.source_map.specs.declared.map.Map.{Map}
use Rattle.source_map.specs.Segments.{limit}

-- the place a stands before the place b
abbrev pub IsBefore : Place → Place → Type 0
IsBefore a b = (a.line < b.line) ⊎ ((a.line ≡ b.line) × (a.column < b.column))

-- each segment stands before those that follow it
abbrev pub AreOrdered : List Segment → Type 0
AreOrdered [] = ⊤
AreOrdered (s ∷ ss) = AllByRecursion (λ t. IsBefore s.generated t.generated) ss × AreOrdered ss

abbrev pub IsName : ℕ → ℕ → Type 0
IsName names n = (n < names) × (n ≤ limit)

-- a place of a source and a name that there are
pub record IsTarget (sources names : ℕ) (t : Target) : Type 0 where
  pub source : t.source < sources
  pub small : t.source ≤ limit
  pub line : t.place.line ≤ limit
  pub column : t.place.column ≤ limit
  pub name : IfSome t.name (IsName names)

pub record IsSegment (sources names : ℕ) (s : Segment) : Type 0 where
  pub column : s.generated.column ≤ limit
  pub target : IfSome s.target (IsTarget sources names)

pub record IsMap (m : Map) : Type 0 where
  pub ordered : AreOrdered m.segments
  pub each : All (IsSegment (length m.sources) (length m.names)) m.segments

-- ---- what stands at a place

abbrev pub is_place : Place → Place → Bool
is_place a b = (a.line == b.line) && (a.column == b.column)

-- the target of the segment that begins exactly there
unfoldable pub target_at : List Segment → Place → Option Target
target_at [] p = None
target_at (s ∷ ss) p = if is_place s.generated p then s.target else target_at ss p

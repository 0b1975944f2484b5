-- The last lines of runs.
use Rattle.std.specs.Prelude.{ℕ, List, [], ◌∷◌, ◌++◌, codes}
use Rattle.std.specs.Fmt.{decimal}
use Rattle.std.specs.Str.{chars}
use Rattle.es_text.specs.declared.Place.{Place}
use Rattle.es_text.specs.Units.{units}
use Rattle.es_outside.specs.declared.events.Seen.{Seen}
use Rattle.es_outside.specs.declared.events.Seen.TheVariants.{Prim, Error, TypeError, ReferenceError, RangeError, Object}
use Rattle.graph_refusals.specs.Lines.{place_text}
use Rattle.graph_refusals.specs.Quoted.{quoted}
use Rattle.run_lines.specs.Events.{value_text}

-- what is seen of a thrown value
abbrev pub seen_text : Seen → List ℕ
seen_text (Prim value) = value_text value
seen_text Error = codes "Error"
seen_text TypeError = codes "TypeError"
seen_text ReferenceError = codes "ReferenceError"
seen_text RangeError = codes "RangeError"
seen_text Object = codes "Object"

abbrev pub ended_line : List ℕ
ended_line = codes "ended" ++ 10 ∷ []

abbrev pub threw_line : Seen → List ℕ
threw_line seen = codes "threw " ++ (seen_text seen ++ 10 ∷ [])

-- the exit of this number, at a place of the file with this path
abbrev pub left_line : ℕ → List ℕ → Place → List ℕ
left_line exit path place = (codes "left X" ++ decimal exit) ++ (codes " at " ++ (path ++ (place_text place ++ 10 ∷ [])))

abbrev pub still_line : ℕ → List ℕ
still_line steps = (codes "still running after " ++ decimal steps) ++ (codes " steps" ++ 10 ∷ [])

-- the host with this name
abbrev pub host_failed_line : List ℕ → List ℕ
host_failed_line name = codes "host " ++ (quoted (units (chars name)) ++ (codes " failed" ++ 10 ∷ []))

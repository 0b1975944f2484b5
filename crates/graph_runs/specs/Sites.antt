-- Where the sites of a graph stand.
use Rattle.std.specs.Prelude.{None, Option, Some, List, [], ℕ}
use Rattle.es_text.specs.declared.Place.{Place}
use Rattle.es6_ast.specs.declared.graph.Graph.{Graph}
use Rattle.es6_ast.specs.declared.graph.LoadedModule.{LoadedModule}
use Rattle.program_runs.specs.Outcomes.{Sites}
use Rattle.run_parts.specs.Places.{first_place, place_in}
use Rattle.source_meaning.specs.Modules.{module_at}

abbrev pub path_of : Option LoadedModule → List ℕ
path_of None = []
path_of (Some m) = m.path

abbrev pub place_of : Option LoadedModule → ℕ → Place
place_of None at = first_place
place_of (Some m) at = place_in m.lines at

-- a site stands in the text of the module with its number
abbrev pub sites_of : Graph → Sites
sites_of g = record {
  path = λ site. path_of (module_at g site.«module»);
  place = λ site. place_of (module_at g site.«module») site.at;
}

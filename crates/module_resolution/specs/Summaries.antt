-- The summaries of a graph's modules, and what an answer over them says of the graph.
use Rattle.std.specs.Prelude.{◌≡◌, ℕ, List, [], length, map, Option, Some, None, slice_get}
use Rattle.es6_ast.specs.declared.graph.Graph.{Graph}
use Rattle.es6_ast.specs.declared.graph.LoadedModule.{LoadedModule}
use Rattle.es6_ast.specs.declared.graph.Request.{Request}
use Rattle.es6_static_semantics.specs.Early.{early_pairs}
use Rattle.es6_static_semantics.specs.Endings.{Elsewhere, ExportEntry, ImportEntry, Source, OwnBinding, OtherName, Resolves, IsAmbiguous, IsUnresolved, exports, requested, stars, wants}
use Rattle.module_endings.specs.declared.answers.Outcome.{Outcome}
use Rattle.module_endings.specs.declared.answers.Outcome.TheVariants.{Unresolved, Ambiguous, Ends as EndsAt}
use Rattle.module_endings.specs.declared.place.Home.{Home}
use Rattle.module_endings.specs.declared.place.Home.TheVariants.{Nowhere, OfHosts, Module, Binding}
use Rattle.module_endings.specs.declared.place.Place.{Place}
use Rattle.module_endings.specs.declared.summary.Export.{Export}
use Rattle.module_endings.specs.declared.summary.Summary.{Summary}
use Rattle.module_endings.specs.Places.{at_place}

-- where the names of a requested module are looked up
abbrev pub home_of : Option (Option ℕ) → Home
home_of None = Nowhere
home_of (Some None) = OfHosts
home_of (Some (Some i)) = Module i

abbrev pub requested_home : List Request → List ℕ → Home
requested_home requests from = home_of (requested requests from)

abbrev pub elsewhere : List Request → Elsewhere → Place
elsewhere requests other = at_place (requested_home requests other.from) other.name

-- where one goes on from a name that the module with this number exports
abbrev pub source_place : ℕ → List Request → Source → Place
source_place number requests (OwnBinding name) = at_place (Binding number) name
source_place number requests (OtherName other) = elsewhere requests other

abbrev pub export_of : ℕ → List Request → ExportEntry → Export
export_of number requests e = record { name = e.name; source = source_place number requests e.source }

-- a name that is imported, and where it is looked up
abbrev pub import_of : List Request → ImportEntry → Export
import_of requests e = record { name = e.local; source = elsewhere requests e.imported }

-- the summary of the module with this number
abbrev pub summary_of : ℕ → LoadedModule → Summary
summary_of number m = record {
  exports = map (export_of number m.requests) (exports m.tree);
  stars = map (requested_home m.requests) (stars m.tree);
  wants = map (λ w. elsewhere m.requests w.other) (wants m.tree);
}

-- the summaries of modules, by their numbers
pub record AreSummaries (modules : List LoadedModule) (summaries : List Summary) : Type 0 where
  pub size : length summaries ≡ length modules
  pub each : (i : ℕ) (m : LoadedModule) → slice_get modules i ≡ Some m → slice_get summaries i ≡ Some (summary_of i m)

-- no module has an early error
abbrev pub AreLegal : List LoadedModule → Type 0
AreLegal modules = (i : ℕ) (m : LoadedModule) → slice_get modules i ≡ Some m → early_pairs m.tree ≡ []

-- what an outcome says of a name of another module
abbrev pub IsResolution : Graph → List (List ℕ) → LoadedModule → Elsewhere → Outcome → Type 0
IsResolution g hosts m other Unresolved = IsUnresolved g hosts m other
IsResolution g hosts m other Ambiguous = IsAmbiguous g hosts m other
IsResolution g hosts m other (EndsAt end) = Resolves g hosts m other end

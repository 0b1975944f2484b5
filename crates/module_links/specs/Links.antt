-- What linking answers for a graph.
use Rattle.std.specs.Prelude.{◌≡◌, ℕ, ◌≤◌, List, length, map, slice_get, take, Some, Result, Ok, Err}
use Rattle.es_text.specs.declared.Place.{Place}
use Rattle.es_text.specs.Places.{IsPlace}
use Rattle.es6_ast.specs.declared.graph.EndOf.{EndOf}
use Rattle.es6_ast.specs.declared.graph.Graph.{Graph}
use Rattle.es6_ast.specs.declared.graph.LoadedModule.{LoadedModule}
use Rattle.es6_static_semantics.specs.Endings.{AllResolve, Elsewhere, IsAmbiguous, IsUnresolved, Wanted, wants}
use Rattle.module_endings.specs.declared.answers.Outcome.{Outcome}
use Rattle.module_endings.specs.declared.answers.Outcome.TheVariants.{Unresolved, Ambiguous, Ends as EndsAt}
use Rattle.module_endings.specs.declared.place.Place.{Place as Target}
use Rattle.module_links.specs.declared.fault.LinkFault.{LinkFault}
use Rattle.module_links.specs.declared.fault.LinkFault.TheVariants as faults
use Rattle.module_links.specs.declared.summaries.Summaries.{Summaries}
use Rattle.module_resolution.specs.Summaries.{AreLegal, AreSummaries}

-- what linking asks of a graph; a loaded graph has it
pub record IsLinkable (g : Graph) : Type 0 where
  pub few : length g.modules ≤ 1024
  pub legal : AreLegal g.modules

-- a module with these endings in place of its own
abbrev pub linked_with : LoadedModule → List EndOf → LoadedModule
linked_with m ends = record m { endings = ends }

abbrev pub graph_of : List LoadedModule → Graph
graph_of modules = record { modules = modules }

-- the first modules, so many, have these endings
pub record AreLinked (g : Graph) (hosts : List (List ℕ)) (count : ℕ) (all : List (List EndOf)) : Type 0 where
  pub size : length all ≡ count
  pub each : (i : ℕ) (m : LoadedModule) (ends : List EndOf) → slice_get g.modules i ≡ Some m → slice_get all i ≡ Some ends → AllResolve g hosts m (wants m.tree) ends

-- a name that a module wants, told with the module's path, its place, where a character begins there, and itself
pub record IsTold (lines : List ℕ) (own : List ℕ) (offset : ℕ) (wanted : List ℕ) (path : List ℕ) (place : Place) (name : List ℕ) : Type 0 where
  pub path_is : path ≡ own
  pub place_is : (p : Place) → IsPlace lines offset p → place ≡ p
  pub name_is : name ≡ wanted

-- The first name that isn't resolved: the modules before are linked, and in this module the names before it.
pub record IsFirstRefused (g : Graph) (hosts : List (List ℕ)) (fails : LoadedModule → Elsewhere → Type 0) (path : List ℕ) (place : Place) (name : List ℕ) : Type 0 where
  pub number : ℕ
  pub m : LoadedModule
  pub there : slice_get g.modules number ≡ Some m
  pub before : List (List EndOf)
  pub linked : AreLinked g hosts number before
  pub at : ℕ
  pub w : Wanted
  pub wanted : slice_get (wants m.tree) at ≡ Some w
  pub earlier : List EndOf
  pub resolved : AllResolve g hosts m (take at (wants m.tree)) earlier
  pub refused : fails m w.other
  pub told : IsTold m.lines m.path w.at w.other.name path place name

-- Memory that runs out says nothing.
abbrev pub IsRefusal : Graph → List (List ℕ) → LinkFault → Type 0
IsRefusal g hosts (faults.Unresolved path place name) = IsFirstRefused g hosts (IsUnresolved g hosts) path place name
IsRefusal g hosts (faults.Ambiguous path place name) = IsFirstRefused g hosts (IsAmbiguous g hosts) path place name
IsRefusal g hosts faults.OutOfMemory = Unit {0}

abbrev pub LinksTo : Graph → List (List ℕ) → Result (List (List EndOf)) LinkFault → Type 0
LinksTo g hosts (Ok all) = AreLinked g hosts (length g.modules) all
LinksTo g hosts (Err fault) = IsRefusal g hosts fault

-- the modules' summaries, with the offsets of the names that each wants
pub record AreSummed (modules : List LoadedModule) (known : Summaries) : Type 0 where
  pub summaries : AreSummaries modules known.summaries
  pub size : length known.offsets ≡ length modules
  pub offsets : (i : ℕ) (m : LoadedModule) → slice_get modules i ≡ Some m → slice_get known.offsets i ≡ Some (map (λ w. w.at) (wants m.tree))

-- what is told of a name whose outcome is no end, in a module with these lines and this path
abbrev pub Tells : List ℕ → List ℕ → List ℕ → ℕ → Outcome → LinkFault → Type 0
Tells lines own wanted offset Unresolved (faults.Unresolved path place name) = IsTold lines own offset wanted path place name
Tells lines own wanted offset Ambiguous (faults.Ambiguous path place name) = IsTold lines own offset wanted path place name
Tells lines own wanted offset (EndsAt end) fault = Unit {0}
Tells lines own wanted offset outcome fault = ⊥

-- the outcomes before one are ends, and it is none
pub record IsFirstOf (lines : List ℕ) (own : List ℕ) (targets : List Target) (offsets : List ℕ) (outcomes : List Outcome) (refused : Outcome) (path : List ℕ) (place : Place) (name : List ℕ) : Type 0 where
  pub at : ℕ
  pub ends : List EndOf
  pub before : take at outcomes ≡ map EndsAt ends
  pub there : slice_get outcomes at ≡ Some refused
  pub told : (target : Target) (offset : ℕ) → slice_get targets at ≡ Some target → slice_get offsets at ≡ Some offset → IsTold lines own offset target.name path place name

abbrev pub OwnLinks : List ℕ → List ℕ → List Target → List ℕ → List Outcome → Result (List EndOf) LinkFault → Type 0
OwnLinks lines own targets offsets outcomes (Ok ends) = outcomes ≡ map EndsAt ends
OwnLinks lines own targets offsets outcomes (Err (faults.Unresolved path place name)) = IsFirstOf lines own targets offsets outcomes Unresolved path place name
OwnLinks lines own targets offsets outcomes (Err (faults.Ambiguous path place name)) = IsFirstOf lines own targets offsets outcomes Ambiguous path place name
OwnLinks lines own targets offsets outcomes (Err faults.OutOfMemory) = Unit {0}

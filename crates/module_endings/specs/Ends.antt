-- Where the names of modules end, over what each module exports and wants.
use Rattle.std.specs.Prelude.{◌≡◌, ℕ, List, [], ◌∷◌, codes, cond, map, length, slice_get, Option, Some, None}
use Rattle.std.specs.List.{Contains, flat_map}
use Rattle.std.specs.Str.{bytes_eq}
use Rattle.es6_ast.specs.declared.graph.EndOf.{EndOf}
use Rattle.es6_ast.specs.declared.graph.EndOf.TheVariants.{Local, Host}
use Rattle.module_endings.specs.declared.place.Home.{Home}
use Rattle.module_endings.specs.declared.place.Home.TheVariants.{Nowhere, OfHosts, Module, Binding}
use Rattle.module_endings.specs.declared.place.Place.{Place}
use Rattle.module_endings.specs.declared.summary.Export.{Export}
use Rattle.module_endings.specs.declared.summary.Summary.{Summary}
use Rattle.module_endings.specs.declared.answers.Outcome.{Outcome}
use Rattle.module_endings.specs.declared.answers.Outcome.TheVariants.{Unresolved, Ambiguous, Ends as EndsAt}
use Rattle.module_endings.specs.Places.{at_place}

-- where one goes on from an exported name: of exports with one name the first counts
abbrev pub first_source : List Export → List ℕ → Option Place
first_source [] name = None
first_source (e ∷ es) name = cond (bytes_eq e.name name) (Some e.source) (first_source es name)

-- a module's own exports hide those of its stars, and `default` never comes by a star
abbrev pub module_nexts : Summary → List ℕ → Option Place → List Place
module_nexts m name (Some source) = source ∷ []
module_nexts m name None = cond (bytes_eq name (codes "default")) [] (map (λ home. at_place home name) m.stars)

abbrev pub nexts_in : Option Summary → List ℕ → List Place
nexts_in None name = []
nexts_in (Some m) name = module_nexts m name (first_source m.exports name)

-- the places to which one goes on from a name at a home
abbrev pub nexts_from : List Summary → Home → List ℕ → List Place
nexts_from modules Nowhere name = []
nexts_from modules OfHosts name = []
nexts_from modules (Module i) name = nexts_in (slice_get modules i) name
nexts_from modules (Binding i) name = []

abbrev pub nexts : List Summary → Place → List Place
nexts modules p = nexts_from modules p.home p.name

-- a binding of a module and a host are ends
abbrev pub IsEndingFrom : List (List ℕ) → Home → List ℕ → EndOf → Type 0
IsEndingFrom hosts Nowhere name end = ⊥
IsEndingFrom hosts OfHosts name end = (k : ℕ) × (slice_get hosts k ≡ Some name) × (end ≡ Host k)
IsEndingFrom hosts (Module i) name end = ⊥
IsEndingFrom hosts (Binding i) name end = end ≡ Local i name

abbrev pub IsEnding : List (List ℕ) → Place → EndOf → Type 0
IsEnding hosts p end = IsEndingFrom hosts p.home p.name end

-- the ends of all paths from a place; a path that comes back to where it was adds none
pub data Ends (modules : List Summary) (hosts : List (List ℕ)) : Place → EndOf → Type 0 where
  here : {p : Place} {end : EndOf} → IsEnding hosts p end → Ends modules hosts p end
  along : {p : Place} {end : EndOf} (next : Place) → Contains (nexts modules p) next → Ends modules hosts next end → Ends modules hosts p end

-- one end resolves a name, none leaves it unresolved, and more make it ambiguous
abbrev pub IsOutcome : List Summary → List (List ℕ) → Place → Outcome → Type 0
IsOutcome modules hosts p Unresolved = (end : EndOf) → Ends modules hosts p end → ⊥
IsOutcome modules hosts p Ambiguous = (one : EndOf) × (other : EndOf) × (Ends modules hosts p one × Ends modules hosts p other × (one ≡ other → ⊥))
IsOutcome modules hosts p (EndsAt end) = Ends modules hosts p end × ((other : EndOf) → Ends modules hosts p other → other ≡ end)

-- the names that modules want, in the order of the modules
abbrev pub all_wants : List Summary → List Place
all_wants modules = flat_map (λ m. m.wants) modules

pub record AreOutcomes (modules : List Summary) (hosts : List (List ℕ)) (wants : List Place) (outcomes : List Outcome) : Type 0 where
  pub size : length outcomes ≡ length wants
  pub each : (k : ℕ) (p : Place) (o : Outcome) → slice_get wants k ≡ Some p → slice_get outcomes k ≡ Some o → IsOutcome modules hosts p o

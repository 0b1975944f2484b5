-- Webs of places: what is added to one, and what holds of it.
use Rattle.std.specs.Prelude.{◌≡◌, ℕ, ◌<◌, ◌⊎◌, List, [], length, map, slice_get, Some}
use Rattle.std.specs.List.{Contains}
use Rattle.es6_ast.specs.declared.graph.EndOf.{EndOf}
use Rattle.module_flows.specs.declared.found.Found.{Found}
use Rattle.module_flows.specs.declared.found.Found.TheVariants.{Nothing, One, Several}
use Rattle.module_flows.specs.Flows.{found_at, users_of}
use Rattle.module_endings.specs.declared.answers.Outcome.{Outcome}
use Rattle.module_endings.specs.declared.answers.Outcome.TheVariants.{Unresolved, Ambiguous, Ends as EndsAt}
use Rattle.module_endings.specs.declared.cover.Entry.{Entry}
use Rattle.module_endings.specs.declared.wanted.Wanted.{Wanted}
use Rattle.module_endings.specs.Indexes.{Indexes}
use Rattle.module_endings.specs.declared.place.Place.{Place}
use Rattle.module_endings.specs.declared.summary.Summary.{Summary}
use Rattle.module_endings.specs.declared.web.Web.{Web}
use Rattle.module_endings.specs.Ends.{IsEnding, nexts}

abbrev pub uses : Web → ℕ → List ℕ
uses w at = users_of w.users.items at

abbrev pub IsSized : Web → Type 0
IsSized w = length w.users.items ≡ length w.places.keys

pub record IsEmpty (w : Web) : Type 0 where
  pub places : w.places.keys ≡ []
  pub users : w.users.items ≡ []
  pub ends : w.ends ≡ []

-- a place has this number, and nothing else changed but that it is there
pub record Placed (p : Place) (at : ℕ) (old new : Web) : Type 0 where
  pub size : length new.users.items ≡ length new.places.keys
  pub there : slice_get new.places.keys at ≡ Some p
  pub kept : (k : ℕ) (x : Place) → slice_get old.places.keys k ≡ Some x → slice_get new.places.keys k ≡ Some x
  pub users : (k : ℕ) → uses new k ≡ uses old k
  pub ends : new.ends ≡ old.ends

-- one goes on from the place with the first number to a place
abbrev pub GoesTo : Web → ℕ → Place → Type 0
GoesTo w user p = (at : ℕ) × (slice_get w.places.keys at ≡ Some p) × Contains (uses w at) user

-- the place with this number is one of these
abbrev pub IsOneOf : Web → List Place → ℕ → Type 0
IsOneOf w ps at = (p : Place) × Contains ps p × (slice_get w.places.keys at ≡ Some p)

-- one goes on from a place to these, and nothing else changed but that they are there
pub record Linked (user : ℕ) (ps : List Place) (old new : Web) : Type 0 where
  pub size : length new.users.items ≡ length new.places.keys
  pub kept : (k : ℕ) (x : Place) → slice_get old.places.keys k ≡ Some x → slice_get new.places.keys k ≡ Some x
  pub goes : (p : Place) → Contains ps p → GoesTo new user p
  pub stays : (k v : ℕ) → Contains (uses old k) v → Contains (uses new k) v
  pub added : (k v : ℕ) → Contains (uses new k) v → Contains (uses old k) v ⊎ ((v ≡ user) × IsOneOf new ps k)
  pub ends : new.ends ≡ old.ends

-- All that a web says is so: from a place one goes on only to places that are next to it, and only ends are ends.
pub record IsTrue (modules : List Summary) (hosts : List (List ℕ)) (w : Web) : Type 0 where
  pub size : length w.users.items ≡ length w.places.keys
  pub users : (k v : ℕ) → Contains (uses w k) v → (x : Place) × (y : Place) × ((slice_get w.places.keys v ≡ Some x) × (slice_get w.places.keys k ≡ Some y) × Contains (nexts modules x) y)
  pub ends : (k : ℕ) → Contains w.ends k → (x : Place) × (end : EndOf) × ((slice_get w.places.keys k ≡ Some x) × IsEnding hosts x end)

-- all that stands at a place is in the web
pub record IsCovered (modules : List Summary) (hosts : List (List ℕ)) (w : Web) (at : ℕ) (x : Place) : Type 0 where
  pub goes : (y : Place) → Contains (nexts modules x) y → GoesTo w at y
  pub ends : (end : EndOf) → IsEnding hosts x end → Contains w.ends at

-- what is added to a web where a place is covered
pub record CoversAt (modules : List Summary) (hosts : List (List ℕ)) (at : ℕ) (x : Place) (old new : Web) : Type 0 where
  pub size : IsSized new
  pub kept : (k : ℕ) (y : Place) → slice_get old.places.keys k ≡ Some y → slice_get new.places.keys k ≡ Some y
  pub stays : (k v : ℕ) → Contains (uses old k) v → Contains (uses new k) v
  pub added : (k v : ℕ) → Contains (uses new k) v → Contains (uses old k) v ⊎ ((v ≡ at) × IsOneOf new (nexts modules x) k)
  pub ends_stay : (k : ℕ) → Contains old.ends k → Contains new.ends k
  pub ends_added : (k : ℕ) → Contains new.ends k → Contains old.ends k ⊎ ((k ≡ at) × ((end : EndOf) × IsEnding hosts x end))
  pub covered : IsCovered modules hosts new at x

-- the first places are covered, and nothing is lost
pub record CoveredTo (modules : List Summary) (hosts : List (List ℕ)) (count : ℕ) (old new : Web) : Type 0 where
  pub said : IsTrue modules hosts new
  pub kept : (k : ℕ) (y : Place) → slice_get old.places.keys k ≡ Some y → slice_get new.places.keys k ≡ Some y
  pub covered : (k : ℕ) (x : Place) → k < count → slice_get new.places.keys k ≡ Some x → IsCovered modules hosts new k x

abbrev pub Covered : List Summary → List (List ℕ) → Web → Web → Type 0
Covered modules hosts old new = CoveredTo modules hosts (length new.places.keys) old new

-- the modules' summaries, each with its sources
pub record AreEntries (modules : List Summary) (entries : List Entry) : Type 0 where
  pub same : map (λ e. e.summary.now) entries ≡ modules
  pub indexed : (k : ℕ) (e : Entry) → slice_get entries k ≡ Some e → Indexes e.sources e.summary.now.exports

-- these places are wanted, in a web that has no steps yet
pub record AreWanted (ps : List Place) (wanted : Wanted) : Type 0 where
  pub size : IsSized wanted.web
  pub users : (k : ℕ) → uses wanted.web k ≡ []
  pub ends : wanted.web.ends ≡ []
  pub count : length wanted.numbers ≡ length ps
  pub each : (k : ℕ) (p : Place) (n : ℕ) → slice_get ps k ≡ Some p → slice_get wanted.numbers k ≡ Some n → slice_get wanted.web.places.keys n ≡ Some p

abbrev pub FitsEnd : List (List ℕ) → Place → Outcome → Type 0
FitsEnd hosts x Unresolved = (end : EndOf) → IsEnding hosts x end → ⊥
FitsEnd hosts x Ambiguous = ⊥
FitsEnd hosts x (EndsAt end) = IsEnding hosts x end

-- the outcome that goes with what is found
abbrev pub Fits : List (List ℕ) → Web → Found → Outcome → Type 0
Fits hosts w Nothing outcome = outcome ≡ Unresolved
Fits hosts w (One at) outcome = (x : Place) → slice_get w.places.keys at ≡ Some x → FitsEnd hosts x outcome
Fits hosts w Several outcome = outcome ≡ Ambiguous

pub record FitAll (hosts : List (List ℕ)) (w : Web) (found : List Found) (numbers : List ℕ) (outcomes : List Outcome) : Type 0 where
  pub size : length outcomes ≡ length numbers
  pub each : (k n : ℕ) (o : Outcome) → slice_get numbers k ≡ Some n → slice_get outcomes k ≡ Some o → Fits hosts w (found_at found n) o

-- no two of the hosts have one name
abbrev pub AreDistinct : List (List ℕ) → Type 0
AreDistinct hosts = (j k : ℕ) (name : List ℕ) → slice_get hosts j ≡ Some name → slice_get hosts k ≡ Some name → j ≡ k

-- Which entries are made of the outcomes of names.
use Rattle.std.specs.Prelude.{◌≡◌, ℕ, ◌+◌, ◌-◌, ◌⊎◌, List, [], ◌∷◌, ◌++◌, length, map, slice_get, Some, AllPairs, Vec}
use Rattle.std.specs.List.{Contains}
use Rattle.es6_ast.specs.declared.graph.EndOf.TheVariants.{Local, Host}
use Rattle.module_endings.specs.declared.answers.Outcome.{Outcome}
use Rattle.module_endings.specs.declared.answers.Outcome.TheVariants.{Unresolved, Ambiguous, Ends as EndsAt}
use Rattle.module_endings.specs.declared.place.Place.{Place}
use Rattle.module_endings.specs.declared.summary.Summary.{Summary}
use Rattle.module_endings.specs.Ends.{AreOutcomes}
use Rattle.module_lowering.specs.declared.meaning.Entry.{Entry}
use Rattle.module_lowering.specs.declared.meaning.NamespaceEntries.{NamespaceEntries}
use Rattle.module_lowering.specs.Names.{units_of}
use Rattle.module_lowering.specs.Namespaces.{IsBefore}

-- an entry under the units of its name
abbrev pub Row : Type 0 → Type 0
Row Y = Vec ℕ Y × Entry

-- an entry is added, unless one of its name is there
pub record Adds {Y : Type 0} (entry : Entry) (old new : List (Row Y)) : Type 0 where
  pub stays : (r : Row Y) → Contains old r → Contains new r
  pub there : (r : Row Y) × Contains new r × (r.1.name ≡ entry.name)
  pub added : (r : Row Y) → Contains new r → Contains old r ⊎ ((r.0.items ≡ units_of entry.name) × (r.1 ≡ entry))

abbrev pub entry_at : Place → ℕ → List ℕ → Entry
entry_at p home local = record { name = p.name; home = home; local = local }

abbrev pub AddsOutcome : {Y : Type 0} → Place → Outcome → List (Row Y) → List (Row Y) → Type 0
AddsOutcome p Unresolved old new = new ≡ old
AddsOutcome p Ambiguous old new = new ≡ old
AddsOutcome p (EndsAt (Host index)) old new = new ≡ old
AddsOutcome p (EndsAt (Local home local)) old new = Adds (entry_at p home local) old new

-- the name of an entry is one of these, and ends where the entry says
pub record IsFrom (ps : List Place) (outcomes : List Outcome) (e : Entry) : Type 0 where
  pub at : ℕ
  pub place : Place
  pub asked : slice_get ps at ≡ Some place
  pub answered : slice_get outcomes at ≡ Some (EndsAt (Local e.home e.local))
  pub named : place.name ≡ e.name

-- the entries of the names that end at a binding of a module
pub record IsPicked (ps : List Place) (outcomes : List Outcome) (es : List Entry) : Type 0 where
  pub ordered : AllPairs IsBefore es
  pub from : (e : Entry) → Contains es e → IsFrom ps outcomes e
  pub all : (k : ℕ) (p : Place) (home : ℕ) (local : List ℕ) → slice_get ps k ≡ Some p → slice_get outcomes k ≡ Some (EndsAt (Local home local)) → Contains (map (λ e. e.name) es) p.name

-- the entries of the names that a summary wants
pub record IsShared (modules : List Summary) (hosts : List (List ℕ)) (ps : List Place) (es : List Entry) : Type 0 where
  pub outcomes : List Outcome
  pub are : AreOutcomes modules hosts ps outcomes
  pub picked : IsPicked ps outcomes es

-- a namespace is added
pub record AddsNamespace (ps : List Place) (outcomes : List Outcome) (old new : List NamespaceEntries) : Type 0 where
  pub added : NamespaceEntries
  pub grown : new ≡ old ++ added ∷ []
  pub picked : IsPicked ps outcomes added.entries

-- those of the summaries after the first ones, so many
pub record AreSharedOut (modules : List Summary) (hosts : List (List ℕ)) (count : ℕ) (asked : List Summary) (all : List NamespaceEntries) : Type 0 where
  pub size : length all ≡ length asked - count
  pub each : (k : ℕ) (s : Summary) (e : NamespaceEntries) → slice_get asked (count + k) ≡ Some s → slice_get all k ≡ Some e → IsShared modules hosts s.wants e.entries

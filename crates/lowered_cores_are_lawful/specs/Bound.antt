-- What is asked of the scopes of a graph: what its names declare and find, and where its imports end, is there.
use Rattle.std.specs.Prelude.{ℕ, ◌≤◌, Bool, true, is_some, length, nat_lt, Option, None, Some, IsTrue, slice_get}
use Rattle.std.specs.List.{list_all}
use Rattle.es6_ast.specs.declared.graph.Graph.{Graph}
use Rattle.binding_tables.specs.declared.ids.BindingId.{BindingId}
use Rattle.binding_tables.specs.declared.ids.BindingId.TheVariants.{Global, Host, Own}
use Rattle.scope_analysis.specs.Answers.{declared_ids, end_ids, own_binding, referred_ids}
use Rattle.scope_analysis.specs.declared.scopes.Scopes.{Scopes}
use Rattle.module_lowering.specs.Modules.{bindings_of, first_names, space_in}
use Rattle.lowered_cores_are_lawful.specs.Standing.{BindingsAreDrawn}

-- a binding of a module is one of its bindings, and a function of the host is one of so many
abbrev pub is_there : Scopes → ℕ → BindingId → Bool
is_there t hosts (Own home number) = is_some (own_binding t (Own home number))
is_there t hosts (Global number) = true
is_there t hosts (Host number) = nat_lt number hosts

-- the module of an imported namespace is one of so many
abbrev pub space_is_there : ℕ → Option ℕ → Bool
space_is_there count None = true
space_is_there count (Some n) = nat_lt n count

pub record ScopesAreBound (g : Graph) (t : Scopes) (hosts : ℕ) : Type 0 where
  pub some : 1 ≤ length g.modules
  pub declared : (home at : ℕ) → IsTrue (list_all (is_there t hosts) (declared_ids t home at))
  pub referred : (home at : ℕ) → IsTrue (list_all (is_there t hosts) (referred_ids t home at))
  pub ends : (home number : ℕ) → IsTrue (list_all (is_there t hosts) (end_ids t (Own home number)))
  pub spaces : (home at : ℕ) → IsTrue (space_is_there (length g.modules) (space_in at (slice_get g.modules home)))

-- then they are variables that the core begins with
abbrev pub BoundLaw : Type 0
BoundLaw = (g : Graph) (t : Scopes) (hosts : ℕ)
    → ScopesAreBound g t hosts → BindingsAreDrawn (bindings_of g t) hosts (length (first_names g t).hints)

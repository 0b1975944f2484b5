-- What the scopes of a graph answer, by the number of a module.
use Rattle.std.specs.Prelude.{ℕ, Bool, false, List, [], Option, Some, None, slice_get, sum_by}
use Rattle.es6_ast.specs.declared.graph.Graph.{Graph}
use Rattle.scope_rules.specs.declared.scope_tables.binding.Binding.{Binding}
use Rattle.binding_tables.specs.Rows.{any_row, rows_of}
use Rattle.scope_analysis.specs.Ends.{AreAllEnds}
use Rattle.scope_analysis.specs.Scopes.{AreAllScopes}
use Rattle.binding_tables.specs.declared.ids.BindingId.{BindingId}
use Rattle.binding_tables.specs.declared.ids.BindingId.TheVariants.{Own}
use Rattle.binding_tables.specs.declared.ids.Row.{Row}
use Rattle.scope_analysis.specs.declared.scopes.Scopes.{Scopes}
use Rattle.scope_analysis.specs.declared.tables.ModuleScopes.{ModuleScopes}

pub record AreScopes (g : Graph) (s : Scopes) : Type 0 where
  pub modules : AreAllScopes 0 [] g.modules s.modules.items
  pub ends : AreAllEnds s.modules.items g.modules s.ends.items

abbrev pub ids_in : (ModuleScopes → List Row) → ℕ → Option ModuleScopes → List BindingId
ids_in table key None = []
ids_in table key (Some s) = rows_of key (table s)

-- what the name at a place of a module declares, from the outside in
abbrev pub declared_ids : Scopes → ℕ → ℕ → List BindingId
declared_ids s home at = ids_in (λ m. m.declared) at (slice_get s.modules.items home)

-- what the reference at a place of a module finds
abbrev pub referred_ids : Scopes → ℕ → ℕ → List BindingId
referred_ids s home at = ids_in (λ m. m.referred) at (slice_get s.modules.items home)

abbrev pub has_in : (ModuleScopes → List Row) → ℕ → Option ModuleScopes → Bool
has_in table key None = false
has_in table key (Some s) = any_row key (table s)

-- whether the reference at a place of a module may find its binding without a value
abbrev pub is_unsure : Scopes → ℕ → ℕ → Bool
is_unsure s home at = has_in (λ m. m.unsure) at (slice_get s.modules.items home)

-- whether a function inside the scope of a module's binding holds a reference to it
abbrev pub is_captured : Scopes → BindingId → Bool
is_captured s (Own home number) = has_in (λ m. m.captured) number (slice_get s.modules.items home)
is_captured s _ = false

abbrev pub binding_in : ℕ → Option ModuleScopes → Option Binding
binding_in number None = None
binding_in number (Some s) = slice_get s.names number

abbrev pub own_binding : Scopes → BindingId → Option Binding
own_binding s (Own home number) = binding_in number (slice_get s.modules.items home)
own_binding s _ = None

abbrev pub is_in_loop : Option Binding → Bool
is_in_loop None = false
is_in_loop (Some b) = b.in_loop

abbrev pub uncertain_sum : Scopes → ℕ
uncertain_sum s = sum_by (λ m. m.uncertain) s.modules.items

-- where the import of a name that is declared at a place ends
abbrev pub ends_in : Option Binding → Option (List Row) → List BindingId
ends_in (Some b) (Some rows) = rows_of b.at rows
ends_in _ _ = []

abbrev pub end_ids : Scopes → BindingId → List BindingId
end_ids s (Own home number) = ends_in (binding_in number (slice_get s.modules.items home)) (slice_get s.ends.items home)
end_ids s _ = []

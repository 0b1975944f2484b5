-- What `resolve` answers of a graph, by the marks of its modules (ECMA-262, 6th edition, 8.1).
use Rattle.std.specs.Prelude.{◌≡◌, ℕ, ◌+◌, Bool, true, false, not, filter, List, [], ◌∷◌, map, Option, Some, None}
use Rattle.std.specs.List.{count_by}
use Rattle.es6_ast.specs.declared.graph.LoadedModule.{LoadedModule}
use Rattle.es6_ast.specs.declared.module.Module.{Module}
use Rattle.es6_static_semantics.specs.Findings.{joined}
use Rattle.scope_rules.specs.Marks.{module_marked}
use Rattle.scope_rules.specs.declared.scope_tables.binding.Binding.{Binding}
use Rattle.scope_rules.specs.declared.scope_tables.declarations.Declared.{Declared}
use Rattle.scope_rules.specs.declared.scope_tables.reference.Reference.{Reference}
use Rattle.scope_rules.specs.scope_tables.Scoping.{module_bindings, module_declared, module_references}
use Rattle.binding_tables.specs.Names.{number_of_name, with_name}
use Rattle.binding_tables.specs.Rows.{rows_of}
use Rattle.binding_tables.specs.declared.ids.BindingId.{BindingId}
use Rattle.binding_tables.specs.declared.ids.BindingId.TheVariants.{Own, Global}
use Rattle.binding_tables.specs.declared.ids.Row.{Row}
use Rattle.scope_analysis.specs.declared.tables.ModuleScopes.{ModuleScopes}

-- ---- the marks of a module, and what is declared and referred to by them

abbrev pub tree_bindings : Module → List Binding
tree_bindings t = module_bindings (module_marked t)

abbrev pub tree_declared : Module → List Declared
tree_declared t = module_declared (module_marked t)

abbrev pub tree_references : Module → List Reference
tree_references t = module_references (module_marked t)

-- ---- the names that no scope declares, in the order in which they come first in the graph

abbrev pub named_by : List (List ℕ) → List ℕ → Option ℕ → List (List ℕ)
named_by names name None = with_name names name
named_by names name (Some n) = names

abbrev pub with_globals : List (List ℕ) → List Reference → List (List ℕ)
with_globals names [] = names
with_globals names (r ∷ rs) = with_globals (named_by names r.name r.binding) rs

-- ---- the bindings of the module of a number

abbrev pub id_by : ℕ → List (List ℕ) → List ℕ → Option ℕ → BindingId
id_by home globals name None = Global (number_of_name globals name)
id_by home globals name (Some n) = Own home n

abbrev pub id_of : ℕ → List (List ℕ) → Reference → BindingId
id_of home globals r = id_by home globals r.name r.binding

-- references by place
abbrev pub referred_rows : ℕ → List (List ℕ) → List Reference → List Row
referred_rows home globals rs = map (λ r. record { key = r.at; binding = id_of home globals r }) rs

-- the references that may find their binding without its value, by place
abbrev pub unsure_rows : ℕ → List (List ℕ) → List Reference → List Row
unsure_rows home globals rs = referred_rows home globals (filter (λ r. not r.is_certain) rs)

-- the references from a function inside the binding's scope, by the binding's number
abbrev pub captured_row : ℕ → Bool → Option ℕ → List Row
captured_row home true (Some n) = record { key = n; binding = Own home n } ∷ []
captured_row home true None = []
captured_row home false n = []

abbrev pub captured_rows : ℕ → List Reference → List Row
captured_rows home rs = joined (λ r. captured_row home r.is_captured r.binding) rs

-- what names declare, by place
abbrev pub declared_rows : ℕ → List Declared → List Row
declared_rows home ds = map (λ d. record { key = d.at; binding = Own home d.binding }) ds

abbrev pub count_uncertain : List Reference → ℕ
count_uncertain rs = count_by (λ r. r.is_uncertain) rs

-- ---- what is answered of the module of a number, among these names that no scope declares

pub record AreModuleScopes (home : ℕ) (globals : List (List ℕ)) (bindings : List Binding) (declared : List Declared) (references : List Reference) (s : ModuleScopes) : Type 0 where
  pub bindings_are : s.names ≡ bindings
  pub declared_are : (at : ℕ) → rows_of at s.declared ≡ rows_of at (declared_rows home declared)
  pub referred_are : (at : ℕ) → rows_of at s.referred ≡ rows_of at (referred_rows home globals references)
  pub unsure_are : (at : ℕ) → rows_of at s.unsure ≡ rows_of at (unsure_rows home globals references)
  pub captured_are : (n : ℕ) → rows_of n s.captured ≡ rows_of n (captured_rows home references)
  pub uncertain_is : s.uncertain ≡ count_uncertain references

abbrev pub AreScopesOf : ℕ → List (List ℕ) → Module → ModuleScopes → Type 0
AreScopesOf home globals t s = AreModuleScopes home globals (tree_bindings t) (tree_declared t) (tree_references t) s

-- of modules from this number on, where these names have come before
pub data AreAllScopes : ℕ → List (List ℕ) → List LoadedModule → List ModuleScopes → Type 0 where
  no_module : {home : ℕ} {globals : List (List ℕ)} → AreAllScopes home globals [] []
  one_module : {home : ℕ} {globals : List (List ℕ)} {m : LoadedModule} {ms : List LoadedModule} {s : ModuleScopes} {ss : List ModuleScopes} → AreScopesOf home (with_globals globals (tree_references m.tree)) m.tree s → AreAllScopes (home + 1) (with_globals globals (tree_references m.tree)) ms ss → AreAllScopes home globals (m ∷ ms) (s ∷ ss)

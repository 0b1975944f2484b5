-- Where the imports of a linked graph's modules end, by the places of the names that they bind.
use Rattle.std.specs.Prelude.{◌≡◌, ℕ, List, [], ◌∷◌, ◌++◌, map, Option, Some, None, slice_get}
use Rattle.es6_ast.specs.declared.graph.EndOf.{EndOf}
use Rattle.es6_ast.specs.declared.graph.EndOf.TheVariants as ending
use Rattle.es6_ast.specs.declared.graph.LoadedModule.{LoadedModule}
use Rattle.es6_ast.specs.declared.module.ExportName.{ExportName}
use Rattle.es6_ast.specs.declared.module.ImportedNames.{ImportedNames}
use Rattle.es6_ast.specs.declared.module.ImportedNames.TheVariants.{NoNames, Namespace, Listed}
use Rattle.es6_ast.specs.declared.module.Item.{Item}
use Rattle.es6_ast.specs.declared.module.Item.TheVariants as item
use Rattle.es6_ast.specs.declared.module.Module.{Module}
use Rattle.es6_ast.specs.declared.module.Specifier.{Specifier}
use Rattle.es6_ast.specs.declared.tree.Identifier.{Identifier}
use Rattle.es6_static_semantics.specs.Findings.{joined}
use Rattle.scope_rules.specs.scope_tables.Scoping.{number_of}
use Rattle.binding_tables.specs.Rows.{rows_of}
use Rattle.binding_tables.specs.declared.ids.BindingId.{BindingId}
use Rattle.binding_tables.specs.declared.ids.BindingId.TheVariants.{Own, Host}
use Rattle.binding_tables.specs.declared.ids.Row.{Row}
use Rattle.scope_analysis.specs.declared.tables.ModuleScopes.{ModuleScopes}

-- For each name that a module wants of others, in text order, where the name begins that it binds, if it binds one: an import does,
-- and an `export { .. } from` doesn't.
abbrev pub default_place : Option Identifier → List (Option ℕ)
default_place None = []
default_place (Some n) = Some n.span.begin ∷ []

abbrev pub listed_places : ImportedNames → List (Option ℕ)
listed_places NoNames = []
listed_places (Namespace n) = []
listed_places (Listed ns) = map (λ n. Some n.local.span.begin) ns

abbrev pub exported_places : Option Specifier → List ExportName → List (Option ℕ)
exported_places None ns = []
exported_places (Some from) ns = map (λ n. None) ns

abbrev pub item_places : Item → List (Option ℕ)
item_places (item.Import span default_ names from) = default_place default_ ++ listed_places names
item_places (item.ExportNames span names from) = exported_places from names
item_places _ = []

abbrev pub want_places : Module → List (Option ℕ)
want_places m = joined item_places m.items

-- the binding at which an import ends: a name of a module's own scope, which is its first, or a function of the host
abbrev pub named_in : List ℕ → Option ModuleScopes → Option ℕ
named_in name None = None
named_in name (Some m) = number_of 0 name m.names

abbrev pub own_id : ℕ → Option ℕ → Option BindingId
own_id home None = None
own_id home (Some n) = Some (Own home n)

abbrev pub end_id : List ModuleScopes → EndOf → Option BindingId
end_id all (ending.Local home name) = own_id home (named_in name (slice_get all home))
end_id all (ending.Host index) = Some (Host index)

abbrev pub end_row : Option ℕ → Option BindingId → List Row
end_row None b = []
end_row (Some at) None = []
end_row (Some at) (Some b) = record { key = at; binding = b } ∷ []

-- the places with the endings of the names that are wanted
abbrev pub end_rows : List ModuleScopes → List (Option ℕ) → List EndOf → List Row
end_rows all [] es = []
end_rows all (p ∷ ps) [] = []
end_rows all (p ∷ ps) (e ∷ es) = end_row p (end_id all e) ++ end_rows all ps es

-- of each module, by the place of a name
pub data AreAllEnds (all : List ModuleScopes) : List LoadedModule → List (List Row) → Type 0 where
  no_ends : AreAllEnds all [] []
  one_ends : {m : LoadedModule} {ms : List LoadedModule} {t : List Row} {ts : List (List Row)} → ((at : ℕ) → rows_of at t ≡ rows_of at (end_rows all (want_places m.tree) m.endings)) → AreAllEnds all ms ts → AreAllEnds all (m ∷ ms) (t ∷ ts)

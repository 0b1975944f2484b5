-- The bindings of a module.
use Rattle.std.specs.Prelude.{List, [], Option, Some, None}
use Rattle.scope_rules.specs.declared.scope_tables.binding.Binding.{Binding}
use Rattle.scope_analysis.specs.declared.tables.ModuleScopes.{ModuleScopes}

abbrev pub names_in : Option ModuleScopes → List Binding
names_in None = []
names_in (Some m) = m.names

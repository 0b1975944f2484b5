-- The bindings of a module, by what it imports and declares.
use Rattle.std.specs.Prelude.{List, None, Option, Some, [], map, true, ℕ, ◌++◌, ◌∷◌}
use Rattle.es6_ast.specs.declared.graph.EndOf.{EndOf}
use Rattle.es6_ast.specs.declared.graph.LoadedModule.{LoadedModule}
use Rattle.es6_ast.specs.declared.graph.Request.{Request}
use Rattle.es6_ast.specs.declared.module.ImportName.{ImportName}
use Rattle.es6_ast.specs.declared.module.Item.{Item}
use Rattle.es6_ast.specs.declared.module.Specifier.{Specifier}
use Rattle.es6_ast.specs.declared.tree.Identifier.{Identifier}
use Rattle.es6_ast.specs.declared.tree.Statement.{Statement}
use Rattle.es6_static_semantics.specs.Endings.{requested}
use Rattle.es6_static_semantics.specs.Findings.{joined}
use Rattle.source_meaning.specs.Environments.{unbound}
use Rattle.source_meaning.specs.Functions.{undefined_binding}
use Rattle.source_meaning.specs.Modules.{declared_bindings, default_names, ended_bindings, function_name, held_at_end, home_in, imported_binding, item_statements, namespace_bindings, namespace_name, wanted_names}
use Rattle.source_meaning.specs.State.{Binding, Imported, Uninitialized}
use Rattle.source_meaning.specs.Trees.{functions_in, lexical, lexicals_in, variables_in}

-- of a name that ends here, if one is bound
abbrev pub end_bindings : Option (List ℕ) → EndOf → List Binding
end_bindings None e = []
end_bindings (Some x) e = imported_binding x (held_at_end e) ∷ []

abbrev pub local_names : List ImportName → List (Option (List ℕ))
local_names ns = map (λ n. Some n.local.name) ns

-- of the names that items import
abbrev pub import_bindings : List Item → List EndOf → List Binding
import_bindings items endings = ended_bindings (joined wanted_names items) endings

-- of a namespace
abbrev pub space_bindings : List Request → Identifier → Specifier → List Binding
space_bindings rs x from =
    map (λ home. imported_binding x.name (Imported home namespace_name)) (home_in (requested rs from.text))

-- of names that can be written, and aren't initialized
abbrev pub unset_bindings : List (List ℕ) → List Binding
unset_bindings names = map (λ x. unbound (lexical true x)) names

abbrev pub variable_bindings : List Item → List Binding
variable_bindings items = map undefined_binding (variables_in (joined item_statements items))

abbrev pub lexical_bindings : List Statement → List Binding
lexical_bindings ss = map unbound (lexicals_in ss)

abbrev pub default_bindings : List Item → List Binding
default_bindings items = unset_bindings (joined default_names items)

abbrev pub function_bindings : List Item → List Binding
function_bindings items = unset_bindings (map function_name (functions_in (joined item_statements items)))

-- of what a module imports, and of what it has of its own
abbrev pub outer_bindings : LoadedModule → List Binding
outer_bindings m = import_bindings m.tree.items m.endings ++ joined (namespace_bindings m.requests) m.tree.items

abbrev pub own_bindings : List Item → List Binding
own_bindings items = declared_bindings items ++ imported_binding namespace_name Uninitialized ∷ []

-- What the items of a module declare.
use Rattle.std.specs.Prelude.{ℕ, List, map}
use Rattle.es6_ast.specs.declared.module.Item.{Item}
use Rattle.es6_ast.specs.declared.tree.Identifier.{Identifier}
use Rattle.es6_static_semantics.specs.Findings.{joined}
use Rattle.module_lowering.specs.Modules.{item_listed}
use Rattle.module_lowering.specs.Nodes.{Hoisted, Listed}

abbrev pub variables_listed : List Item → List Identifier
variables_listed items = joined (λ l. l.variables) (map item_listed items)

abbrev pub lexicals_listed : List Item → List ℕ
lexicals_listed items = joined (λ l. l.lexicals) (map item_listed items)

abbrev pub functions_listed : List Item → List Hoisted
functions_listed items = joined (λ l. l.functions) (map item_listed items)

-- One module is instantiated, and modules are due.
use Rattle.std.specs.Prelude.{List, fold, map, ℕ}
use Rattle.es6_ast.specs.declared.graph.Graph.{Graph}
use Rattle.es6_ast.specs.declared.graph.LoadedModule.{LoadedModule}
use Rattle.es6_ast.specs.declared.module.Item.{Item}
use Rattle.es6_static_semantics.specs.Findings.{joined}
use Rattle.module_order.specs.Order.{evaluation_order}
use Rattle.source_meaning.specs.Modules.{due_of, item_functions, module_record, request_homes, with_item_function, with_namespace, within_module}
use Rattle.source_meaning.specs.State.{Due, EnvironmentRecord, State}

abbrev pub with_item_functions : List Item → State → State
with_item_functions items st = fold with_item_function st (joined item_functions items)

abbrev pub with_module : Graph → ℕ → LoadedModule → State → State
with_module g n m st = with_namespace g n (with_item_functions m.tree.items (within_module n st))

-- the record of a module; few proofs look into it
unfoldable pub record_made : LoadedModule → EnvironmentRecord
record_made m = module_record m

-- all modules, in the order of evaluation
abbrev pub due_in : Graph → List Due
due_in g = joined (due_of g) (evaluation_order (map request_homes g.modules) 0)

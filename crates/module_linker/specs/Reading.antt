-- A module as it is read.
use Rattle.std.specs.Prelude.{ℕ, List, [], map}
use Rattle.es6_ast.specs.declared.graph.LoadedModule.{LoadedModule}
use Rattle.es6_ast.specs.declared.module.Module.{Module}
use Rattle.es6_static_semantics.specs.Graphs.{specifiers}
use Rattle.module_requests.specs.Requests.{open_request}

-- the module at this path with these lines and this tree, of which no request names a module yet, and no name has an ending
abbrev pub unlinked : List ℕ → List ℕ → Module → LoadedModule
unlinked path lines tree = record { path = path; lines = lines; tree = tree; requests = map open_request (specifiers tree); endings = [] }

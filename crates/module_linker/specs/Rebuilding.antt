-- What a graph is that is built again.
use Rattle.std.specs.Prelude.{ℕ, List, [], map}
use Rattle.es6_ast.specs.declared.graph.Graph.{Graph}
use Rattle.es6_ast.specs.declared.graph.LoadedModule.{LoadedModule}
use Rattle.es6_static_semantics.specs.Graphs.{IsLinked}
use Rattle.rebuild.specs.Opening.{opened_request}
use Rattle.module_linker.specs.Linking.{IsRelinked}

-- a loaded graph before it is linked, and after
abbrev pub LinksTo : Graph → List (List ℕ) → Graph → Type 0
LinksTo loaded hosts linked = IsRelinked loaded hosts linked × IsLinked linked hosts

-- the module of which it isn't known which modules it requests, nor where its names end
abbrev pub opened : LoadedModule → LoadedModule
opened m = record m { requests = map opened_request m.requests; endings = [] }

-- Requests that name no module yet.
use Rattle.std.specs.Prelude.{None}
use Rattle.es6_ast.specs.declared.graph.Request.{Request}

-- a request of which it isn't known which module it names
abbrev pub opened_request : Request → Request
opened_request request = record request { «module» = None }

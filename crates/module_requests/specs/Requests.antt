-- Requests before it is known which modules they name.
use Rattle.std.specs.Prelude.{List, map, None}
use Rattle.es6_ast.specs.declared.graph.Request.{Request}
use Rattle.es6_ast.specs.declared.module.Item.{Item}
use Rattle.es6_ast.specs.declared.module.Specifier.{Specifier}
use Rattle.es6_static_semantics.specs.Graphs.{item_specifiers}

-- the request of a specifier, which stands where the specifier begins
abbrev pub open_request : Specifier → Request
open_request s = record { at = s.span.begin; specifier = s.text; «module» = None }

abbrev pub requests_in : Item → List Request
requests_in item = map open_request (item_specifiers item)

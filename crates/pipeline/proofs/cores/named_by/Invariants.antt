use Rattle.std.proofs.Common.{◌≡◌, ◌++◌, drop}
use Rattle.std.specs.List.{filter_map}
use Rattle.es6_ast.specs.declared.graph.Request.{Request}
use Rattle.pipeline.proofs.cores.named_by.Given as goal

abbrev pub invariant-loop-request : goal.invariant-loop-request
invariant-loop-request l =
    l.numbers ++ filter_map (λ (r : Request). r.module) (drop l.request-index l.requests)
    ≡ filter_map (λ (r : Request). r.module) l.requests

use Rattle.std.proofs.Common.{subst}
use Rattle.es_operations.specs.Functions.{heritage_begun}
use Rattle.es_operation_steps.specs.Asks.{Acts}
use Rattle.es_operation_steps.proofs.prototypes.heritage_read.Goals as goal

pub returns : goal.returns
returns c =
    let heap = c.args.heap.now in
    subst (λ k. Acts c.heritage_begun.result c.heritage_begun.new.call heap (heritage_begun heap c.args.call.now k)) c.in_ok-constructor.ensures
    (c.heritage_begun.ensures heap)

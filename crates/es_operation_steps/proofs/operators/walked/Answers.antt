use Rattle.std.proofs.Common.{◌≡◌, subst}
use Rattle.es_value.specs.declared.value.Value.TheVariants.{Object}
use Rattle.es_operators.specs.Functions.{instance_walk}
use Rattle.es_operations.specs.Operators.{tested, walked}
use Rattle.es_operation_steps.specs.Asks.{Acts}
use Rattle.es_operation_steps.proofs.operators.walked.Goals as goal

pub returns : goal.returns
returns c =
    let heap = c.args.heap.now in
    let call = c.args.call.now in
    let left = c.in-Object-Object.left in
    let above = c.in-Object-Object.above in
    let is_left : Object left ≡ call.this_value = cc in
    let is_above : Object above ≡ call.input = cc in
    let walk : c.instance_walk-instance.result ≡ instance_walk heap left above = c.instance_walk-instance.ensures in
    subst (λ v. Acts c.tested.result c.tested.new.call heap (walked heap call v call.input)) is_left
    (subst (λ v. Acts c.tested.result c.tested.new.call heap (walked heap call (Object left) v)) is_above
    (subst (λ i. Acts c.tested.result c.tested.new.call heap (tested heap call i)) walk (c.tested.ensures heap)))

use Rattle.std.proofs.Common.{◌≡◌, drop}
use Rattle.es_operations.specs.Making.{with_texts}
use Rattle.es_operation_steps.proofs.making.with_texts.Given as goal

abbrev pub invariant-loop-index : goal.invariant-loop-index
invariant-loop-index l = with_texts l.heap l.fn.id l.index (drop l.index l.values) ≡ with_texts l.fn.heap l.fn.id 0 l.values

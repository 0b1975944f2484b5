use Rattle.std.proofs.Common.{◌≡◌, drop}
use Rattle.es_operations.specs.Making.{with_recorded}
use Rattle.es_operation_steps.proofs.making.with_recorded.Given as goal

abbrev pub invariant-loop-key : goal.invariant-loop-key
invariant-loop-key l = with_recorded l.heap l.class (drop l.key-index l.keys) ≡ with_recorded l.fn.heap l.fn.class l.keys

use Rattle.std.proofs.Common.{◌≡◌, Some, take}
use Rattle.es_operators.specs.Primitives.{to_prims}
use Rattle.es_operators.proofs.primitives.to_prims.Given as goal

abbrev pub invariant-loop-value : goal.invariant-loop-value
invariant-loop-value l = to_prims (take l.value-index l.values) ≡ Some l.list.items

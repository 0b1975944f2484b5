use Rattle.std.proofs.Common.{◌≡◌, drop}
use Rattle.es_calls.specs.Making.{with_elements}
use Rattle.es_calls.proofs.making.add_elements.Given as goal

abbrev pub invariant-loop-index : goal.invariant-loop-index
invariant-loop-index l = with_elements l.heap l.fn.id l.index (drop l.index l.values) ≡ with_elements l.fn.heap l.fn.id 0 l.values

use Rattle.std.proofs.Common.{◌≡◌, take}
use Rattle.es_sequence_functions.specs.Search.{encoded}
use Rattle.es_sequence_functions.proofs.search.encoded.Given as goal

abbrev pub invariant-loop-unit : goal.invariant-loop-unit
invariant-loop-unit l = l.bytes.items ≡ encoded (take l.unit-index l.units)

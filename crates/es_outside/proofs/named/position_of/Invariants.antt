use Rattle.std.proofs.Common.{map}
use Rattle.es_outside.specs.NamedList.{NoneNamedBelow}
use Rattle.es_outside.proofs.named.position_of.Given as goal

abbrev pub invariant-loop-index : goal.invariant-loop-index
invariant-loop-index g l = NoneNamedBelow (map g.N.Named.label l.list) l.name l.index

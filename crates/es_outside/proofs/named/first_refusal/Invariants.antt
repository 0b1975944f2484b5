use Rattle.std.proofs.Common.{map}
use Rattle.es_outside.specs.Refusals.{AreHostNamesBelow}
use Rattle.es_outside.proofs.named.first_refusal.Given as goal

abbrev pub invariant-loop-at : goal.invariant-loop-at
invariant-loop-at g l = AreHostNamesBelow (map g.N.Named.label l.list) l.at

use Rattle.std.proofs.Common.{drop}
use Rattle.scope_analysis.proofs.Turns.{ContinuesEnds}
use Rattle.scope_analysis.proofs.ends.all_ends.Given as goal

abbrev pub invariant-loop-module : goal.invariant-loop-module
invariant-loop-module l = ContinuesEnds l.modules l.loaded l.ends.items (drop l.module-index l.loaded)

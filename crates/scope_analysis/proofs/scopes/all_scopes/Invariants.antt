use Rattle.std.proofs.Common.{drop, length}
use Rattle.scope_analysis.proofs.Turns.{Continues}
use Rattle.scope_analysis.proofs.scopes.all_scopes.Given as goal

abbrev pub invariant-loop-module : goal.invariant-loop-module
invariant-loop-module l = Continues l.loaded l.modules.items (length l.modules.items) l.globals (drop l.module-index l.loaded)

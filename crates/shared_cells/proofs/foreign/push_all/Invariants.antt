use Rattle.std.proofs.Common.{◌≡◌, ◌++◌, drop}
use Rattle.shared_cells.proofs.foreign.push_all.Given as goal

abbrev pub invariant-loop-var : goal.invariant-loop-var
invariant-loop-var l = l.out ++ drop l.var-index l.vars ≡ l.initial.out ++ l.vars

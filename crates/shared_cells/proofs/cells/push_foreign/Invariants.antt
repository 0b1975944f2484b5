use Rattle.std.proofs.Common.{◌≡◌, ◌++◌, drop, map, false}
use Rattle.shared_cells.specs.Cells.{cell}
use Rattle.shared_cells.proofs.cells.push_foreign.Given as goal

abbrev pub invariant-loop-var : goal.invariant-loop-var
invariant-loop-var l = l.out ++ map (cell false) (drop l.var-index l.vars) ≡ l.initial.out ++ map (cell false) l.vars

use Rattle.std.proofs.Common.{◌≡◌, drop}
use Rattle.shared_cells.specs.Cells.{with_marks}
use Rattle.shared_cells.proofs.tables.mark.Given as goal

abbrev pub invariant-loop-var : goal.invariant-loop-var
invariant-loop-var l = with_marks (drop l.var-index l.vars) l.table ≡ with_marks l.vars l.initial.table

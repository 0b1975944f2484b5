use Rattle.std.proofs.Common.{◌≡◌, drop}
use Rattle.shared_cells.specs.Cells.{with_home}
use Rattle.shared_cells.proofs.tables.put_home.Given as goal

abbrev pub invariant-loop-name : goal.invariant-loop-name
invariant-loop-name l = with_home l.number (drop l.name-index l.names) l.table ≡ with_home l.number l.names l.initial.table

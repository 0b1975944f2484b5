use Rattle.std.proofs.Common.{◌≡◌, drop}
use Rattle.helpers.specs.Table.{table_rows}
use Rattle.helpers.specs.Wanted.{with_rows}
use Rattle.helpers.proofs.wanted.add_rows.Given as goal

abbrev pub invariant-loop-row : goal.invariant-loop-row
invariant-loop-row l = with_rows l.used l.names (table_rows (drop l.row-index l.rows)) ≡ with_rows l.used l.initial.names (table_rows l.rows)

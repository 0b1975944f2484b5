use Rattle.std.proofs.Common.{◌≡◌, fold, take}
use Rattle.es_realm.specs.Tables.{with_row}
use Rattle.es_realm.proofs.start.add_rows.Given as goal

abbrev pub invariant-loop-row : goal.invariant-loop-row
invariant-loop-row l = l.heap ≡ fold (with_row l.fn.edition) l.fn.heap (take l.row-index l.rows)

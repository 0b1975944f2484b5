use Rattle.std.proofs.Common.{◌≡◌, ◌++◌, drop}
use Rattle.scope_analysis.specs.Scopes.{declared_rows}
use Rattle.scope_analysis.proofs.tables.declared_table.Given as goal

abbrev pub invariant-loop-name : goal.invariant-loop-name
invariant-loop-name l = l.rows.items ++ declared_rows l.home (drop l.name-index l.declared) ≡ declared_rows l.home l.declared

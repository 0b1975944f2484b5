use Rattle.std.proofs.Common.{◌≡◌, ◌++◌, drop}
use Rattle.scope_analysis.specs.Scopes.{captured_rows}
use Rattle.scope_analysis.proofs.tables.captured_table.Given as goal

abbrev pub invariant-loop-reference : goal.invariant-loop-reference
invariant-loop-reference l = l.rows.items ++ captured_rows l.home (drop l.reference-index l.references) ≡ captured_rows l.home l.references

use Rattle.std.proofs.Common.{◌≡◌, ◌++◌, drop}
use Rattle.scope_analysis.specs.Scopes.{unsure_rows}
use Rattle.scope_analysis.proofs.tables.unsure_table.Given as goal

abbrev pub invariant-loop-reference : goal.invariant-loop-reference
invariant-loop-reference l = l.rows.items ++ unsure_rows l.home l.globals (drop l.reference-index l.references) ≡ unsure_rows l.home l.globals l.references

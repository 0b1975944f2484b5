use Rattle.std.proofs.Common.{◌≡◌, ◌++◌, drop}
use Rattle.scope_analysis.specs.Scopes.{referred_rows}
use Rattle.scope_analysis.proofs.tables.referred_table.Given as goal

abbrev pub invariant-loop-reference : goal.invariant-loop-reference
invariant-loop-reference l = l.rows.items ++ referred_rows l.home l.globals (drop l.reference-index l.references) ≡ referred_rows l.home l.globals l.references

use Rattle.std.proofs.Common.{◌≡◌, ◌++◌, drop, map}
use Rattle.binding_tables.proofs.table.bindings_of.Given as goal

abbrev pub invariant-loop-row : goal.invariant-loop-row
invariant-loop-row l = l.bindings.items ++ map (λ r. r.binding) (drop l.row-index l.rows) ≡ map (λ r. r.binding) l.rows

use Rattle.std.proofs.Common.{◌≡◌, ◌++◌, drop}
use Rattle.scope_rules.specs.scope_tables.Scoping.{all_references, start}
use Rattle.scope_rules.proofs.scope_tables.resolved.references_of.Given as goal

abbrev pub invariant-loop-mark : goal.invariant-loop-mark
invariant-loop-mark l = l.list.items ++ all_references l.names (drop l.mark-index l.marks) l.position ≡ all_references l.names l.marks start

use Rattle.std.proofs.Common.{◌≡◌, ◌++◌, drop}
use Rattle.scope_rules.specs.scope_tables.Scoping.{all_declared, start}
use Rattle.scope_rules.proofs.scope_tables.declarations.declared_of.Given as goal

abbrev pub invariant-loop-mark : goal.invariant-loop-mark
invariant-loop-mark l = l.list.items ++ all_declared l.names (drop l.mark-index l.marks) l.position ≡ all_declared l.names l.marks start

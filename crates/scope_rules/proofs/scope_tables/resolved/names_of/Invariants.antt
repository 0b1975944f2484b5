use Rattle.std.proofs.Common.{◌≡◌, drop}
use Rattle.scope_rules.specs.scope_tables.Scoping.{all_bindings, module_bindings}
use Rattle.scope_rules.proofs.scope_tables.resolved.names_of.Given as goal

abbrev pub invariant-loop-mark : goal.invariant-loop-mark
invariant-loop-mark l = all_bindings (drop l.mark-index l.marks) l.position l.names ≡ module_bindings l.marks

use Rattle.std.proofs.Common.{◌≡◌, ◌++◌, drop}
use Rattle.lowering_rules.specs.statement_rules.Statements.{turn_names}
use Rattle.lower_statements.proofs.loops.turn_names.Given as goal

abbrev pub invariant-loop-name : goal.invariant-loop-name
invariant-loop-name l = l.vars ++ turn_names (drop l.name-index l.names) ≡ turn_names l.names

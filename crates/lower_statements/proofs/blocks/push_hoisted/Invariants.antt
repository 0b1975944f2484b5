use Rattle.std.proofs.Common.{◌≡◌, ◌++◌, drop, map}
use Rattle.lowering_rules.specs.statement_rules.Statements.{hoisted}
use Rattle.lower_statements.proofs.blocks.push_hoisted.Given as goal

abbrev pub invariant-loop-function : goal.invariant-loop-function
invariant-loop-function l = l.out ++ map hoisted (drop l.function-index l.functions) ≡ l.initial.out ++ map hoisted l.functions

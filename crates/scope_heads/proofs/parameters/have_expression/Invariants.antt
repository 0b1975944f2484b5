use Rattle.std.proofs.Common.{◌≡◌, drop, map}
use Rattle.scope_rules.specs.Marks.{have_expression, parameter_marked}
use Rattle.scope_heads.proofs.parameters.have_expression.Given as goal

abbrev pub invariant-loop-parameter : goal.invariant-loop-parameter
invariant-loop-parameter l = have_expression (map parameter_marked (drop l.parameter-index l.parameters)) ≡ have_expression (map parameter_marked l.parameters)

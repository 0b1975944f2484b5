use Rattle.std.proofs.Common.{◌≡◌, ◌++◌, drop, map}
use Rattle.lowering_rules.specs.Functions.{begun}
use Rattle.lower_params.proofs.parameters.push_begun.Given as goal

abbrev pub invariant-loop-var : goal.invariant-loop-var
invariant-loop-var l = l.out ++ map begun (drop l.var-index l.body) ≡ l.initial.out ++ map begun l.body

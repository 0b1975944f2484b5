use Rattle.std.proofs.Common.{◌≡◌, drop}
use Rattle.es5_ast.specs.Early.{parameter_pairs}
use Rattle.es5_early.specs.Pairs.{least_with}
use Rattle.es5_early.proofs.finder.Finder.parameters.Given as goal

abbrev pub invariant-loop-parameter : goal.invariant-loop-parameter
invariant-loop-parameter l = least_with l.self (parameter_pairs l.seen (drop l.parameter-index l.parameters)) ≡ least_with l.initial.self (parameter_pairs l.initial.seen l.parameters)

use Rattle.std.proofs.Common.{◌≡◌, ◌++◌, drop, map}
use Rattle.lower_params.proofs.parameters.formals.Given as goal

abbrev pub invariant-loop-parameter : goal.invariant-loop-parameter
invariant-loop-parameter l = l.formals ++ map (λ p. p.formal) (drop l.parameter-index l.parameters) ≡ map (λ p. p.formal) l.parameters

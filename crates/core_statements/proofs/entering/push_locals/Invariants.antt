use Rattle.std.proofs.Common.{◌≡◌, ◌++◌, map, take}
use Rattle.core_meaning.specs.Calls.{undefined_binding}
use Rattle.core_statements.proofs.entering.push_locals.Given as goal

abbrev pub invariant-loop-var : goal.invariant-loop-var
invariant-loop-var g l = l.names ≡ l.fn.names ++ map (λ x. undefined_binding x) (take l.var-index l.locals)

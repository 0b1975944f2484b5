use Rattle.std.proofs.Common.{◌≡◌, ◌++◌, map, take}
use Rattle.core_meaning.specs.Calls.{undefined_binding}
use Rattle.core_statements.proofs.entering.push_declared.Given as goal

abbrev pub invariant-loop-one : goal.invariant-loop-one
invariant-loop-one g l = l.names ≡ l.fn.names ++ map (λ d. undefined_binding d.var) (take l.one-index l.declared)

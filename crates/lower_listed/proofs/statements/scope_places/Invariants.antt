use Rattle.std.proofs.Common.{◌≡◌, ◌++◌, drop, map}
use Rattle.lower_listed.specs.Hoisted.{hoisted_of}
use Rattle.lower_listed.proofs.statements.scope_places.Given as goal

abbrev pub invariant-loop-function : goal.invariant-loop-function
invariant-loop-function l = l.ats ++ map (λ h. h.at) (map hoisted_of (drop l.function-index l.functions)) ≡ l.lexicals ++ map (λ h. h.at) (map hoisted_of l.functions)

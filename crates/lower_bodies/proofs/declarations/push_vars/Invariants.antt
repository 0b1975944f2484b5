use Rattle.std.proofs.Common.{◌≡◌, ◌++◌, drop, map}
use Rattle.lower_bodies.proofs.declarations.push_vars.Given as goal

abbrev pub invariant-loop-name : goal.invariant-loop-name
invariant-loop-name l = l.out ++ map (λ n. n.var) (drop l.name-index l.names) ≡ l.initial.out ++ map (λ n. n.var) l.names

use Rattle.std.proofs.Common.{◌≡◌, ◌++◌, drop, map, None}
use Rattle.scope_analysis.proofs.ends.add_unbound.Given as goal

abbrev pub invariant-loop-name : goal.invariant-loop-name
invariant-loop-name l = l.places.items ++ map (λ n. None) (drop l._name-index l.names) ≡ l.initial.places.items ++ map (λ n. None) l.names

use Rattle.std.proofs.Common.{◌≡◌, ◌++◌, drop, map, Some}
use Rattle.scope_analysis.proofs.ends.add_names.Given as goal

abbrev pub invariant-loop-name : goal.invariant-loop-name
invariant-loop-name l = l.places.items ++ map (λ n. Some n.local.span.begin) (drop l.name-index l.names) ≡ l.initial.places.items ++ map (λ n. Some n.local.span.begin) l.names

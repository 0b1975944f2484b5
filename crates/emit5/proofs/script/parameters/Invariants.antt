use Rattle.std.proofs.Common.{◌≡◌, ◌++◌, drop, map}
use Rattle.emission_rules.specs.Nodes.{identifier}
use Rattle.emit5.proofs.script.parameters.Given as goal

abbrev pub invariant-loop-name : goal.invariant-loop-name
invariant-loop-name l = l.made ++ map (λ n. identifier n) (drop l.name-index l.names) ≡ map (λ n. identifier n) l.names

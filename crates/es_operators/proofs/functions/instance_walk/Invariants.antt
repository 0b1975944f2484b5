use Rattle.std.proofs.Common.{◌≡◌, ◌-◌, length}
use Rattle.es_operators.specs.Functions.{instance_walk, instance_within}
use Rattle.es_operators.proofs.functions.instance_walk.Given as goal

abbrev pub invariant-loop : goal.invariant-loop
invariant-loop l = instance_within (length l.heap - l.counter) l.heap l.place l.target l.past ≡ instance_walk l.heap l.fn.id l.target

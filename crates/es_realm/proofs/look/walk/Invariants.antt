use Rattle.std.proofs.Common.{◌≡◌, ◌-◌, length}
use Rattle.es_realm.specs.Look.{walk, walk_within}
use Rattle.es_realm.proofs.look.walk.Given as goal

abbrev pub invariant-loop : goal.invariant-loop
invariant-loop l = walk_within (length l.heap - l.counter) l.edition l.heap l.place l.key l.past ≡ walk l.fn.edition l.heap l.fn.id l.key

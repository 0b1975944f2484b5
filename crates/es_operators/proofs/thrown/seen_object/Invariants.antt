use Rattle.std.proofs.Common.{◌≡◌, ◌-◌, length}
use Rattle.es_operators.specs.Seen.{seen_within, seen_object}
use Rattle.es_operators.proofs.thrown.seen_object.Given as goal

abbrev pub invariant-loop : goal.invariant-loop
invariant-loop l = seen_within (length l.heap - l.counter) l.heap l.place ≡ seen_object l.heap l.fn.id

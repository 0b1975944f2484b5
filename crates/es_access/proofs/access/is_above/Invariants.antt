use Rattle.std.proofs.Common.{◌≡◌, ◌-◌, length}
use Rattle.es_access.specs.Access.{is_above, on_chain}
use Rattle.es_access.proofs.access.is_above.Given as goal

abbrev pub invariant-loop : goal.invariant-loop
invariant-loop l = on_chain (length l.heap - l.counter) l.heap l.place l.target ≡ is_above l.heap l.fn.id l.fn.target

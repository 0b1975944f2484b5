use Rattle.std.proofs.Common.{◌≡◌, map, take}
use Rattle.module_flows.specs.declared.found.Found.TheVariants.{Nothing}
use Rattle.module_flows.proofs.solve.nothing.Given as goal

abbrev pub invariant-loop-list : goal.invariant-loop-list
invariant-loop-list l = l.found ≡ map (λ list. Nothing) (take l._list-index l.users)

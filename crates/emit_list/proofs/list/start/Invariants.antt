use Rattle.std.proofs.Common.{◌≡◌, ◌++◌, drop, map}
use Rattle.emit_list.specs.Scripts.{begun}
use Rattle.emit_list.proofs.list.start.Given as goal

abbrev pub invariant-loop-number : goal.invariant-loop-number
invariant-loop-number l = l.body ++ map (begun l.table) (drop l.number-index l.order) ≡ map (begun l.table) l.order

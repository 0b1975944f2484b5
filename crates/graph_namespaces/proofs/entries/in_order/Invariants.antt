use Rattle.std.proofs.Common.{◌≡◌, ◌++◌, length}
use Rattle.std.specs.BTreeMap.{values}
use Rattle.graph_namespaces.proofs.entries.in_order.Given as goal

abbrev pub invariant-loop-units : goal.invariant-loop-units
invariant-loop-units l = l.entries ++ values l.book ≡ values l.initial.book

abbrev pub decreases-loop-units : goal.decreases-loop-units
decreases-loop-units l = length l.book.entries

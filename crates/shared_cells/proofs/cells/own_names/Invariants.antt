use Rattle.std.proofs.Common.{◌≡◌, ◌++◌, drop, map}
use Rattle.shared_cells.specs.Cells.{own_name}
use Rattle.shared_cells.proofs.cells.own_names.Given as goal

abbrev pub invariant-loop-name : goal.invariant-loop-name
invariant-loop-name l = l.made ++ map (own_name l.marks) (drop l.name-index l.names) ≡ map (own_name l.marks) l.names

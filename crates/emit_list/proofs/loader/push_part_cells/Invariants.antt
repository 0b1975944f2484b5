use Rattle.std.proofs.Common.{◌≡◌, ◌++◌, drop}
use Rattle.emit_list.specs.Scripts.{cells_made}
use Rattle.emit_list.proofs.loader.push_part_cells.Given as goal

abbrev pub invariant-loop-name : goal.invariant-loop-name
invariant-loop-name l = l.out ++ cells_made l.scene (drop l.name-index l.names) ≡ l.initial.out ++ cells_made l.scene l.names

use Rattle.std.proofs.Common.{◌≡◌, ◌++◌, drop}
use Rattle.emit_list.specs.Scripts.{cells}
use Rattle.emit_list.proofs.loader.push_cells.Given as goal

abbrev pub invariant-loop-part : goal.invariant-loop-part
invariant-loop-part l = l.out ++ cells l.scene (drop l.part-index l.parts) ≡ l.initial.out ++ cells l.scene l.parts

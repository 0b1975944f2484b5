use Rattle.std.proofs.Common.{◌≡◌, ◌++◌, drop}
use Rattle.emit_list.specs.Scripts.{part_scripts}
use Rattle.emit_list.proofs.list.push_parts.Given as goal

abbrev pub invariant-loop-part : goal.invariant-loop-part
invariant-loop-part l =
    l.out ++ part_scripts l.hosts l.table l.names l.number (drop l.part-index l.parts) l.scene
    ≡ l.initial.out ++ part_scripts l.hosts l.table l.names 0 l.parts l.initial.scene

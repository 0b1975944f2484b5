use Rattle.std.proofs.Common.{◌≡◌, ◌++◌, drop, map}
use Rattle.emit_list.specs.Scripts.{scoped_name}
use Rattle.emit_list.proofs.parts.push_all_scoped.Given as goal

abbrev pub invariant-loop-name : goal.invariant-loop-name
invariant-loop-name l =
    l.out ++ map (scoped_name l.table l.scene) (drop l.name-index l.names) ≡ l.initial.out ++ map (scoped_name l.table l.scene) l.names

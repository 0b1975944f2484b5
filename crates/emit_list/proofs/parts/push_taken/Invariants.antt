use Rattle.std.proofs.Common.{◌≡◌, ◌++◌, drop}
use Rattle.emit_list.specs.Scripts.{taken_names}
use Rattle.emit_list.proofs.parts.push_taken.Given as goal

abbrev pub invariant-loop-name : goal.invariant-loop-name
invariant-loop-name l = l.out ++ taken_names l.table (drop l.name-index l.names) ≡ l.initial.out ++ taken_names l.table l.names

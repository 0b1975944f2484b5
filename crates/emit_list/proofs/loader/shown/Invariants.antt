use Rattle.std.proofs.Common.{◌≡◌, ◌++◌, drop}
use Rattle.emit_list.specs.Scripts.{shown}
use Rattle.emit_list.proofs.loader.shown.Given as goal

abbrev pub invariant-loop-name : goal.invariant-loop-name
invariant-loop-name l = l.made ++ shown (drop l.name-index l.names) ≡ shown l.names

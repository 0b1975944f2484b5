use Rattle.std.proofs.Common.{◌≡◌, ◌++◌, drop}
use Rattle.std.specs.Prelude.{filter}
use Rattle.emit_list.specs.Scripts.{is_callable}
use Rattle.emit_list.proofs.names.callable.Given as goal

abbrev pub invariant-loop-name : goal.invariant-loop-name
invariant-loop-name l = l.kept ++ filter is_callable (drop l.name-index l.names) ≡ filter is_callable l.names

use Rattle.std.proofs.Common.{◌≡◌, ◌++◌, drop}
use Rattle.script_core.specs.Meaning.{global_record}
use Rattle.script_rows.proofs.bindings.global_record.Given as goal

abbrev pub invariant-loop-at : goal.invariant-loop-at
invariant-loop-at l = l.made ++ global_record l.hosts l.at (drop l.at l.names) ≡ global_record l.hosts 0 l.names

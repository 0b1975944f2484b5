use Rattle.std.proofs.Common.{◌≡◌, ◌++◌, drop}
use Rattle.source_meaning.specs.Modules.{ended_bindings}
use Rattle.source_modules.proofs.imports.add_ended.Given as goal

abbrev pub invariant-loop-name : goal.invariant-loop-name
invariant-loop-name l = l.bindings ++ ended_bindings (drop l.name-index l.names) l.ends ≡ l.initial.bindings ++ ended_bindings l.names l.initial.ends

use Rattle.std.proofs.Common.{◌≡◌, ◌++◌, drop, map}
use Rattle.source_meaning.specs.Functions.{undefined_binding}
use Rattle.source_modules.proofs.declared.add_undefined.Given as goal

abbrev pub invariant-loop-name : goal.invariant-loop-name
invariant-loop-name l = l.bindings ++ map undefined_binding (drop l.name-index l.names) ≡ l.initial.bindings ++ map undefined_binding l.names

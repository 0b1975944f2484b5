use Rattle.std.proofs.Common.{◌≡◌, ◌++◌, drop}
use Rattle.source_modules.specs.Bindings.{local_names}
use Rattle.source_modules.proofs.imports.add_locals.Given as goal

abbrev pub invariant-loop-one : goal.invariant-loop-one
invariant-loop-one l = l.names ++ local_names (drop l.one-index l.list) ≡ l.initial.names ++ local_names l.list

use Rattle.std.proofs.Common.{◌≡◌, ◌++◌, drop}
use Rattle.lower_modules.specs.Parts.{namespace_names}
use Rattle.lower_modules.proofs.scope.push_namespace_names.Given as goal

abbrev pub invariant-loop-one : goal.invariant-loop-one
invariant-loop-one l = l.names ++ namespace_names (drop l.one-index l.namespaces) ≡ l.initial.names ++ namespace_names l.namespaces

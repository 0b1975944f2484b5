use Rattle.std.proofs.Common.{◌≡◌, ◌++◌, drop}
use Rattle.source_exports.specs.Known.{other_names}
use Rattle.source_exports.proofs.names.add_others.Given as goal

abbrev pub invariant-loop-name : goal.invariant-loop-name
invariant-loop-name l = l.names ++ other_names (drop l.name-index l.others) ≡ l.initial.names ++ other_names l.others

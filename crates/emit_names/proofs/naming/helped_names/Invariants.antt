use Rattle.std.proofs.Common.{◌≡◌, ◌++◌, drop}
use Rattle.std.specs.List.{flat_map}
use Rattle.emission_rules.specs.Naming.{declares, helped_names}
use Rattle.emit_names.proofs.naming.helped_names.Given as goal

abbrev pub invariant-loop-stat : goal.invariant-loop-stat
invariant-loop-stat l = l.names ++ flat_map declares (drop l.stat-index l.helpers) ≡ helped_names l.helpers

use Rattle.std.proofs.Common.{◌≡◌, ◌++◌, drop, map}
use Rattle.source_modules.specs.Instances.{record_made}
use Rattle.source_modules.proofs.run_start.module_records.Given as goal

abbrev pub invariant-loop-loaded : goal.invariant-loop-loaded
invariant-loop-loaded l = l.records ++ map record_made (drop l.loaded-index l.modules) ≡ map record_made l.modules

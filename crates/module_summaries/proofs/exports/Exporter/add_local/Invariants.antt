use Rattle.std.proofs.Common.{◌≡◌, List, ◌++◌, drop, map}
use Rattle.es6_static_semantics.specs.Endings.{ImportEntry}
use Rattle.module_summaries.specs.Parts.{Knows, local_export}
use Rattle.module_summaries.proofs.exports.Exporter.add_local.Given as goal

abbrev pub invariant-loop-name : goal.invariant-loop-name
invariant-loop-name l = (known : List ImportEntry) → Knows known l.self → l.all ++ map (local_export known l.self) (drop l.name-index l.names) ≡ l.initial.all ++ map (local_export known l.self) l.names

use Rattle.std.proofs.Common.{◌≡◌, ◌++◌, drop, map}
use Rattle.module_summaries.specs.Parts.{passed_export}
use Rattle.module_summaries.proofs.exports.Exporter.add_passed.Given as goal

abbrev pub invariant-loop-name : goal.invariant-loop-name
invariant-loop-name l = l.all ++ map (passed_export l.self l.from) (drop l.name-index l.names) ≡ l.initial.all ++ map (passed_export l.self l.from) l.names

use Rattle.std.proofs.Common.{◌≡◌, ◌++◌, drop, map}
use Rattle.module_summaries.specs.Parts.{own_export}
use Rattle.module_summaries.proofs.exports.Exporter.add_declared.Given as goal

abbrev pub invariant-loop-name : goal.invariant-loop-name
invariant-loop-name l = l.all ++ map (λ name. own_export l.self name name) (drop l.name-index l.names) ≡ l.initial.all ++ map (λ name. own_export l.self name name) l.names

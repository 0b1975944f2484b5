use Rattle.std.proofs.Common.{◌≡◌, List, ◌++◌, drop}
use Rattle.es6_static_semantics.specs.Findings.{joined}
use Rattle.es6_static_semantics.specs.Endings.{ImportEntry}
use Rattle.module_summaries.specs.Parts.{Knows, exports_at}
use Rattle.module_summaries.proofs.exports.Exporter.add.Given as goal

abbrev pub invariant-loop-item : goal.invariant-loop-item
invariant-loop-item g l = (known : List ImportEntry) → Knows known l.self → l.all ++ joined (exports_at known l.self) (drop l.item-index l.items) ≡ l.initial.all ++ joined (exports_at known l.self) l.items

use Rattle.std.proofs.Common.{◌≡◌, ◌≤◌, drop, length}
use Rattle.es6_static_semantics.specs.Findings.{joined}
use Rattle.source_meaning.specs.Modules.{due_of}
use Rattle.source_modules.proofs.run_start.all_due.Given as goal

abbrev pub invariant-below : goal.invariant-below
invariant-below l = record {
  within : l.count ≤ length l.order;
  due : l.all ≡ joined (due_of l.graph) (drop l.count l.order);
}

abbrev pub decreases-below : goal.decreases-below
decreases-below l = l.count

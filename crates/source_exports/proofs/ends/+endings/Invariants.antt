use Rattle.std.proofs.Common.{◌≡◌, ◌++◌, ◌+◌, ◌*◌, drop}
use Rattle.es6_static_semantics.specs.Findings.{joined}
use Rattle.source_exports.specs.Known.{endings_within}
use Rattle.source_exports.proofs.ends.+endings.Given as goal

abbrev pub decreases-add_endings : goal.decreases-add_endings
decreases-add_endings l = l.depth * 2

abbrev pub decreases-add_all_endings : goal.decreases-add_all_endings
decreases-add_all_endings l = l.depth * 2 + 1

abbrev pub invariant-add_all_endings-loop-pair : goal.invariant-add_all_endings-loop-pair
invariant-add_all_endings-loop-pair l = record {
  seen : l.seen ≡ l.initial.seen;
  ends : l.ends ++ joined (endings_within l.depth l.known l.initial.seen) (drop l.pair-index l.pairs) ≡ l.initial.ends ++ joined (endings_within l.depth l.known l.initial.seen) l.pairs;
}

use Rattle.std.proofs.Common.{◌≡◌, ◌++◌, ◌+◌, ◌*◌, drop}
use Rattle.es6_static_semantics.specs.Findings.{joined}
use Rattle.source_exports.specs.Known.{names_within}
use Rattle.source_exports.proofs.names.+names.Given as goal

abbrev pub decreases-add_names : goal.decreases-add_names
decreases-add_names l = l.depth * 2

abbrev pub decreases-add_all_names : goal.decreases-add_all_names
decreases-add_all_names l = l.depth * 2 + 1

abbrev pub invariant-add_all_names-loop-number : goal.invariant-add_all_names-loop-number
invariant-add_all_names-loop-number l = record {
  seen : l.seen ≡ l.initial.seen;
  names : l.names ++ joined (names_within l.depth l.known l.initial.seen) (drop l.number-index l.numbers) ≡ l.initial.names ++ joined (names_within l.depth l.known l.initial.seen) l.numbers;
}

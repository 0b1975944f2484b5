use Rattle.std.proofs.Common.{◌≡◌, ◌+◌, drop, length, sum_by}
use Rattle.source_exports.proofs.ends.export_count.Given as goal

abbrev pub invariant-loop-summary : goal.invariant-loop-summary
invariant-loop-summary l = l.count + sum_by (λ s. length s.exports) (drop l.summary-index l.known) ≡ sum_by (λ s. length s.exports) l.known

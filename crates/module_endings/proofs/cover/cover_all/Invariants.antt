use Rattle.std.proofs.Common.{List, ◌-◌}
use Rattle.module_endings.specs.declared.summary.Summary.{Summary}
use Rattle.module_endings.specs.Webs.{AreEntries, CoveredTo, IsSized, IsTrue}
use Rattle.module_endings.proofs.cover.cover_all.Given as goal

abbrev pub invariant-loop-at : goal.invariant-loop-at
invariant-loop-at l =
    IsSized l.web × ((modules : List Summary) → AreEntries modules l.entries → IsTrue modules l.hosts l.initial.web → CoveredTo modules l.hosts l.at l.initial.web l.web)

abbrev pub decreases-loop-at : goal.decreases-loop-at
decreases-loop-at l = 9223372036854775808 - l.at

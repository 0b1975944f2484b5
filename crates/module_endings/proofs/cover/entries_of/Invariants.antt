use Rattle.std.proofs.Common.{take}
use Rattle.module_endings.specs.Webs.{AreEntries}
use Rattle.module_endings.proofs.cover.entries_of.Given as goal

abbrev pub invariant-loop-summary : goal.invariant-loop-summary
invariant-loop-summary l = AreEntries (take l.summary-index l.modules) l.entries.items

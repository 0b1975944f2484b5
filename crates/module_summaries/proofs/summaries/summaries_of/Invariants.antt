use Rattle.std.proofs.Common.{take}
use Rattle.module_resolution.specs.Summaries.{AreSummaries}
use Rattle.module_summaries.proofs.summaries.summaries_of.Given as goal

abbrev pub invariant-loop-index : goal.invariant-loop-index
invariant-loop-index g l = AreSummaries (take l.index l.modules) l.summaries

use Rattle.std.proofs.Common.{take}
use Rattle.module_links.specs.Links.{AreSummed}
use Rattle.module_links.proofs.summaries.summaries_of.Given as goal

abbrev pub invariant-loop-index : goal.invariant-loop-index
invariant-loop-index g l = AreSummed (take l.index l.modules) (record { summaries = l.summaries; offsets = l.offsets })

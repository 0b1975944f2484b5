use Rattle.std.proofs.Common.{take}
use Rattle.module_endings.specs.Ends.{all_wants}
use Rattle.module_endings.specs.Webs.{AreWanted}
use Rattle.module_endings.proofs.wanted.Wanted.of.Given as goal

abbrev pub invariant-loop-module : goal.invariant-loop-module
invariant-loop-module l = AreWanted (all_wants (take l.module-index l.modules)) l.wanted

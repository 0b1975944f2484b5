use Rattle.std.proofs.Common.{refl}
use Rattle.module_endings.proofs.Growing.{entries-grown}
use Rattle.module_endings.proofs.cover.entries_of.Goals as goal

pub loop-summary-preserved : goal.loop-summary-preserved
loop-summary-preserved c =
    entries-grown c.args.modules.now c.loop-summary.summary-index c.summary-item.result c.loop-summary.entries.items c.push.new.self.items _ c.as_slice.result.now c.loop-summary-test.true
    c.summary-item.is c.loop-summary.invariant c.in_ok-push.ensures.items refl c.as_slice.ensures c.in_ok-sources.ensures

use Rattle.std.proofs.Common.{◌-◌, arith}
use Rattle.module_loading.proofs.Waited.{waited}
use Rattle.module_loading.proofs.waiting.wait_for.Goals as goal

pub loop-index-preserved : goal.loop-index-preserved
loop-index-preserved c =
    waited c.args.importer c.loop-index.index (c.loop-index.index - 1) c.loop-index.waiting c.push.new.self _ (omega arith) c.in_ok-push.ensures.ok c.loop-index.invariant

use Rattle.scope_analysis.proofs.Turns.{all_end, ends_begin, ends_more}
use Rattle.scope_analysis.proofs.ends.all_ends.Goals as goal

pub loop-module-init : goal.loop-module-init
loop-module-init c = ends_begin c.args.modules.now c.args.loaded.now c.new-ends.result.items c.new-ends.ensures.items

pub loop-module-preserved : goal.loop-module-preserved
loop-module-preserved c =
    ends_more c.args.modules.now c.args.loaded.now c.loop-module.module-index c.module-item.result c.loop-module.ends.items c.push.new.self.items _ c.loop-module-test.true c.module-item.is c.loop-module.invariant
    c.in_ok-table.ensures c.in_ok-push.ensures.items

pub returns : goal.returns
returns c = all_end c.args.modules.now c.args.loaded.now c.loop-module.module-index c.loop-module.ends.items c.loop-module-test.false c.loop-module.invariant

use Rattle.std.proofs.Common.{◌∙◌}
use Rattle.scope_analysis.proofs.Turns.{all_are, scopes_begin, scopes_more}
use Rattle.scope_analysis.proofs.scopes.all_scopes.Goals as goal

pub loop-module-init : goal.loop-module-init
loop-module-init c = scopes_begin c.args.loaded.now c.new-modules.result.items c.new-globals.result c.new-modules.ensures.items c.new-globals.ensures

pub loop-module-preserved : goal.loop-module-preserved
loop-module-preserved c =
    scopes_more c.args.loaded.now c.loop-module.module-index c.module-item.result c.loop-module.modules.items c.push.new.self.items c.len.result _ c.loop-module.globals c.scopes_of.new.globals c.loop-module-test.true
    c.module-item.is c.loop-module.invariant (c.len.ensures ∙ c.loop-module.modules.ok.0) c.in_ok-scopes.ensures.globals c.in_ok-scopes.ensures.scopes c.in_ok-push.ensures.items

pub returns : goal.returns
returns c = all_are c.args.loaded.now c.loop-module.module-index c.loop-module.modules.items c.loop-module.globals c.loop-module-test.false c.loop-module.invariant

use Rattle.std.proofs.Common.{[]}
use Rattle.module_loading.proofs.Arrived.{arrived-few, numbered, shown-paired, stopped}
use Rattle.module_loading.proofs.graph.load_from.Goals as goal

pub numbered-requires-clause-few : goal.numbered-requires-clause-few
numbered-requires-clause-few g c =
    let r = g.R.ReadsModules in
    let at = c.in-Ok.ensures.fills in
    arrived-few (g.W.FindsFiles.files c.args.files.now) r.reads r.requests c.args.entry.now at.modules [] c.fill.new.loading at.comes at.kept

pub numbered-requires-clause-paired : goal.numbered-requires-clause-paired
numbered-requires-clause-paired g c =
    let at = c.in-Ok.ensures.fills in
    shown-paired at.modules [] c.fill.new.loading at.kept

pub returns-in-Ok-clause-loads : goal.returns-in-Ok-clause-loads
returns-in-Ok-clause-loads g c =
    let r = g.R.ReadsModules in
    numbered r.reads r.requests r.shows r.refuses g.S.SuppliesModules.hands_out (g.W.FindsFiles.files c.args.files.now) c.args.entry.now c.args.supply.now c.fill.new.supply r.requested
    c.numbered.result.modules c.fill.new.loading c.numbered.result.ended c.in-Ok.ensures.fills c.numbered.ensures.numbered c.numbered.ensures.memory

pub returns-in-Err-clause-loads : goal.returns-in-Err-clause-loads
returns-in-Err-clause-loads g c =
    let r = g.R.ReadsModules in
    stopped r.reads r.requests r.shows r.refuses g.S.SuppliesModules.hands_out (g.W.FindsFiles.files c.args.files.now) c.args.entry.now c.args.supply.now c.fill.new.supply r.requested
    c.stopped.result.modules c.fill.new.loading c.in-Err.fault c.stopped.result.ended c.in-Err.ensures.fills c.stopped.ensures.modules c.stopped.ensures.ended

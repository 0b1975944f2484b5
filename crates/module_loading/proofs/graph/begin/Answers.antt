use Rattle.std.proofs.Common.{[]}
use Rattle.module_loading.specs.Supplying.{nothing}
use Rattle.module_loading.proofs.Arrived.{entry-next}
use Rattle.module_loading.proofs.graph.begin.Goals as goal

pub returns-clause-adds : goal.returns-clause-adds
returns-clause-adds g c =
    let r = g.R.ReadsModules in
    c.add.ensures.adds c.args.entry.now c.args.supply.now [] [] (entry-next (g.W.FindsFiles.files c.args.files.now) r.reads r.requests c.args.entry.now _ c.in_ok-from_str.ensures.ok) c.requires nothing

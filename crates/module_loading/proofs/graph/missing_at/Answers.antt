use Rattle.module_loading.proofs.Added.{missing-asked}
use Rattle.module_loading.proofs.graph.missing_at.Goals as goal

pub returns-in-Some-clause-told : goal.returns-in-Some-clause-told
returns-in-Some-clause-told g c =
    missing-asked g.R.ReadsModules.requests g.R.ReadsModules.shows c.args.loading.now c.in-Some.wait c.args.wait c.asked_of.result.base.now c.asked_of.result.request.now c.asked_of.result.place
    c.missing.result c.in-Some.is c.asked_of.ensures c.missing.ensures

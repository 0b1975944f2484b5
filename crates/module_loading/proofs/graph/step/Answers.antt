use Rattle.std.proofs.Common.{◌∙◌}
use Rattle.std.proofs.lemmas.Result.{err_from_is_err_and}
use Rattle.module_loading.proofs.Arrived.{stops}
use Rattle.module_loading.proofs.graph.step.Goals as goal

pub returns-in_err-next_of-clause-steps : goal.returns-in_err-next_of-clause-steps
returns-in_err-next_of-clause-steps g c = λ entry start at.
    let p = err_from_is_err_and c.from_residual.result c.from_residual.ensures.1 in
    let r = g.R.ReadsModules in
    let told = g.W.FindsFiles.files c.args.files.now in
    rw (p.1, p.2) (stops r.reads r.requests r.shows r.refuses told entry g.S.SuppliesModules.hands_out start c.args.supply.now c.next_of.new.loading at.modules c.in_err-next_of.field-0.0
    (c.in_err-next_of.ensures.reaches told entry at.modules at.waiting at.comes at.kept) (c.in_err-next_of.ensures.modules ∙ at.kept.modules_are) at.handed)

pub returns-in_err-next_of-clause-stays : goal.returns-in_err-next_of-clause-stays
returns-in_err-next_of-clause-stays g c = g.met.W.FindsFiles.still c.args.files.now

pub returns-in-None-clause-stays : goal.returns-in-None-clause-stays
returns-in-None-clause-stays g c = g.met.W.FindsFiles.still c.args.files.now

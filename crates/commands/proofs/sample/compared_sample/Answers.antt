use Rattle.std.proofs.Common.{refl, subst, sym}
use Rattle.sure_outside.specs.SureStores.{sure_file_at}
use Rattle.commands.specs.Parts.{FitsSample}
use Rattle.commands.proofs.Sampling.{sample_refused, sampled_of, tells_sample}
use Rattle.commands.proofs.sample.compared_sample.Goals as goal

pub returns-in-Ok : goal.returns-in-Ok
returns-in-Ok c =
    sampled_of c.args.count _ _ _ c.in-Ok.comparison (tells_sample _ (sure_file_at c.in_ok-files.files) c.args.count refl c.in_ok-files.ensures) refl c.in_ok-hosts.ensures c.in-Ok.ensures.made

pub returns : goal.returns
returns c =
    subst (FitsSample c.args.count) (sym c.into.ensures)
    (sample_refused c.args.count _ _ _ 0 0 c.in-Err.fault (tells_sample _ (sure_file_at c.in_ok-files.files) c.args.count refl c.in_ok-files.ensures) refl c.in_ok-hosts.ensures refl refl c.in-Err.ensures.fault)

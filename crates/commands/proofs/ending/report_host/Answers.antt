use Rattle.std.proofs.Common.{◌∙◌, subst}
use Rattle.commands.specs.Outcome.{IsSaid, unsaid, written_of}
use Rattle.commands.specs.declared.status.Status.TheVariants.{HostFault}
use Rattle.commands.proofs.Outcomes.{adds_nothing}
use Rattle.commands.proofs.ending.report_host.Goals as goal

pub returns-in-Ok-clause-said : goal.returns-in-Ok-clause-said
returns-in-Ok-clause-said g c =
    subst (λ l. IsSaid (written_of g.E.Sink.bytes g.E.Sink.faults c.args.err.now c.report.new.err) l HostFault c.report.result) (c.as_slice.ensures.value ∙ c.in-Ok.ensures) c.report.ensures.said

pub returns-in-Err-clause-said : goal.returns-in-Err-clause-said
returns-in-Err-clause-said g c = unsaid (adds_nothing _)

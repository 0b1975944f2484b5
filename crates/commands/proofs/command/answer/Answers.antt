use Rattle.commands.proofs.Outcomes.{adds_nothing, failed_as, wrote_slice}
use Rattle.commands.proofs.command.answer.Goals as goal

pub returns-in-Ok-clause-outcome : goal.returns-in-Ok-clause-outcome
returns-in-Ok-clause-outcome g c = wrote_slice c.in-Ok.text.items c.as_slice.result.now c.as_slice.ensures.value c.in-Ok.ensures.made c.write_text.ensures.said (adds_nothing _)

pub returns-in-Err-clause-outcome : goal.returns-in-Err-clause-outcome
returns-in-Err-clause-outcome g c = failed_as c.in-Err.fault c.subject.result.now c.subject.ensures c.in-Err.ensures.made c.fail.ensures.outcome (adds_nothing _)

use Rattle.commands.specs.Outcome.{said, cut_off}
use Rattle.commands.proofs.command.report.Goals as goal

pub returns-in-Ok-clause-said : goal.returns-in-Ok-clause-said
returns-in-Ok-clause-said g c = said c.in-Ok.ensures.all

pub returns-in-Err-clause-said : goal.returns-in-Err-clause-said
returns-in-Err-clause-said g c = cut_off (c.in-Err.ensures.front, c.in-Err.ensures.failed)

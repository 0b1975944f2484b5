use Rattle.commands.specs.Outcome.{unsaid}
use Rattle.commands.proofs.Outcomes.{adds_nothing}
use Rattle.commands.proofs.command.refuse.Goals as goal

pub returns-clause-said : goal.returns-clause-said
returns-clause-said g c = unsaid (adds_nothing _)

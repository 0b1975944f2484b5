use Rattle.commands.proofs.command.misuse.Goals as goal

pub returns-in-Usage-clause-outcome : goal.returns-in-Usage-clause-outcome
returns-in-Usage-clause-outcome g c = rw c.in-Usage.is c.report.ensures.said

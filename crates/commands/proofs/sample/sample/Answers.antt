use Rattle.commands.specs.Parts.{both_ran, none_ran}
use Rattle.commands.proofs.Outcomes.{adds_nothing}
use Rattle.commands.proofs.sample.sample.Goals as goal

pub returns-in-Ok-clause-outcome : goal.returns-in-Ok-clause-outcome
returns-in-Ok-clause-outcome g c = both_ran c.in-Ok.sampled c.in-Ok.ensures c.told.ensures.told

pub returns-in-Err-clause-outcome : goal.returns-in-Err-clause-outcome
returns-in-Err-clause-outcome g c = none_ran c.in-Err.fault c.in-Err.ensures c.fail.ensures.outcome (adds_nothing _)

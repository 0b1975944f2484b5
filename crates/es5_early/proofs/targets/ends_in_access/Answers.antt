use Rattle.std.proofs.Common.{◌∙◌}
use Rattle.es5_early.specs.Parts.{linked}
use Rattle.es5_early.proofs.Walked.{ends_in_access-last}
use Rattle.es5_early.proofs.targets.ends_in_access.Goals as goal

pub returns-in-Some : goal.returns-in-Some
returns-in-Some c = c.is_access.ensures ∙ ends_in_access-last linked c.args.links.now c.in-Some.link.now c.in-Some.ensures.value

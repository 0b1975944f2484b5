use Rattle.std.proofs.Common.{◌∙◌}
use Rattle.es6_reading.specs.Refine.{is_access}
use Rattle.es6_refine.proofs.Fitted.{ends_in_access-last}
use Rattle.es6_refine.proofs.places.ends_in_access.Goals as goal

pub returns-in-Some : goal.returns-in-Some
returns-in-Some c = c.is_access.ensures ∙ ends_in_access-last is_access c.args.links.now c.in-Some.link.now c.in-Some.ensures.value

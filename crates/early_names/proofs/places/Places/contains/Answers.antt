use Rattle.std.proofs.Common.{is_some, ap, ◌∙◌}
use Rattle.early_names.proofs.Listed.{first_place-is_some}
use Rattle.early_names.proofs.places.Places.contains.Goals as goal

pub returns : goal.returns
returns c = λ names h. c.contains_key.ensures ∙ ap is_some (h c.args.name.now) ∙ first_place-is_some c.args.name.now names

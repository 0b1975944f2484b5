use Rattle.lowering_laws.proofs.Expressions.{lists_are_lawful, template_objects_are_lawful, templates_are_lawful}
use Rattle.lowering_laws.proofs.lists_are_lawful.Goals as goal

pub returns : goal.returns
returns c = record { templates = templates_are_lawful; objects = template_objects_are_lawful; lists = lists_are_lawful }

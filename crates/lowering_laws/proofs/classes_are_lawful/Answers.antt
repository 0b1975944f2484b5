use Rattle.lowering_laws.proofs.Classes.{classes_are_lawful, default_bodies_are_lawful, objects_are_lawful, parameters_are_lawful, super_is_lawful, this_is_lawful}
use Rattle.lowering_laws.proofs.classes_are_lawful.Goals as goal

pub returns : goal.returns
returns c = record {
  objects = objects_are_lawful;
  this = this_is_lawful;
  inherited = super_is_lawful;
  bodies = default_bodies_are_lawful;
  classes = classes_are_lawful;
  parameters = parameters_are_lawful;
}

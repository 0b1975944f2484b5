use Rattle.lowering_laws.proofs.Patterns.{array_patterns_are_lawful, assigned_targets_are_lawful, declared_targets_are_lawful, member_targets_are_lawful, object_patterns_are_lawful}
use Rattle.lowering_laws.proofs.patterns_are_lawful.Goals as goal

pub returns : goal.returns
returns c = record {
  declared = declared_targets_are_lawful;
  assigned = assigned_targets_are_lawful;
  members = member_targets_are_lawful;
  objects = object_patterns_are_lawful;
  arrays = array_patterns_are_lawful;
}

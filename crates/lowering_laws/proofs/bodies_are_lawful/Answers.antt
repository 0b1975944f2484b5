use Rattle.lowering_laws.proofs.Bodies.{begun_are_lawful, concise_are_lawful, declared_are_lawful, default_constructors_are_lawful, getters_are_lawful, instantiation_keeps_law, kinds_keep_law, named_functions_are_lawful, namespaces_are_lawful, parameters_keep_law, parts_are_lawful, run_are_lawful, statements_keep_law}
use Rattle.lowering_laws.proofs.bodies_are_lawful.Goals as goal

pub returns : goal.returns
returns c = record {
  begun = begun_are_lawful;
  parameters = parameters_keep_law;
  instantiated = instantiation_keeps_law;
  statements = statements_keep_law;
  kinds = kinds_keep_law;
  defaults = default_constructors_are_lawful;
  concise = concise_are_lawful;
  getters = getters_are_lawful;
  named = named_functions_are_lawful;
  run = run_are_lawful;
  declared = declared_are_lawful;
  namespaces = namespaces_are_lawful;
  parts = parts_are_lawful;
}

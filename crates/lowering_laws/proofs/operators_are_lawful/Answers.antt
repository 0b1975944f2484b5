use Rattle.lowering_laws.proofs.Operators.{conditions_are_lawful, constants_are_lawful, evaluations_are_lawful, operators_are_lawful, yields_are_lawful}
use Rattle.lowering_laws.proofs.operators_are_lawful.Goals as goal

pub returns : goal.returns
returns c = record {
  constants = constants_are_lawful;
  operators = operators_are_lawful;
  conditions = conditions_are_lawful;
  yields = yields_are_lawful;
  evaluations = evaluations_are_lawful;
}

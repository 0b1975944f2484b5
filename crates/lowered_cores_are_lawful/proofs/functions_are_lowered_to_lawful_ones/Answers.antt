use Rattle.lowered_cores_are_lawful.proofs.Functions.{arrow_made_is, function_made_is, generator_made_is, value_returned_is}
use Rattle.lowered_cores_are_lawful.proofs.functions_are_lowered_to_lawful_ones.Goals as goal

pub returns : goal.returns
returns c = record {
  function_made = function_made_is;
  generator_made = generator_made_is;
  arrow_made = arrow_made_is;
  value_returned = value_returned_is;
}

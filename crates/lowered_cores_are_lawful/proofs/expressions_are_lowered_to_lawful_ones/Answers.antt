use Rattle.lowered_cores_are_lawful.proofs.Expressions.{array_is, assignment_is, binary_is, call_is, called_chain_is, chain_is, class_value_is, closed_is, conditional_is, delegated_is, function_value_is, grouped_is, hole_is, host_call_is, index_is, literal_is, member_is, named_is, new_target_is, new_value_is, object_is, operand_is, power_is, reaching_is, sequence_is, single_is, spread_is, super_called_is, super_index_is, super_member_is, tagged_is, template_is, this_is, unary_is, update_is, value_is, valued_is, yielded_is}
use Rattle.lowered_cores_are_lawful.proofs.expressions_are_lowered_to_lawful_ones.Goals as goal

pub returns : goal.returns
returns c = record {
  reaching = reaching_is;
  value = value_is;
  valued = valued_is;
  this_value = this_is;
  target = new_target_is;
  literal = literal_is;
  template = template_is;
  single_part = single_is;
  spread_part = spread_is;
  hole = hole_is;
  array = array_is;
  member = member_is;
  index = index_is;
  call = call_is;
  host_call = host_call_is;
  tagged = tagged_is;
  chain = chain_is;
  called_chain = called_chain_is;
  new_value = new_value_is;
  super_member = super_member_is;
  super_index = super_index_is;
  super_called = super_called_is;
  unary = unary_is;
  operand = operand_is;
  binary = binary_is;
  power = power_is;
  conditional = conditional_is;
  sequence = sequence_is;
  yielded = yielded_is;
  delegated = delegated_is;
  update = update_is;
  assignment = assignment_is;
  closed = closed_is;
  function_value = function_value_is;
  class_value = class_value_is;
  object = object_is;
  named = named_is;
  grouped = grouped_is;
}

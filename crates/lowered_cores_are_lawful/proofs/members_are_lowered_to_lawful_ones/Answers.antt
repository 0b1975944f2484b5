use Rattle.lowered_cores_are_lawful.proofs.Members.{class_is, defined_member_is, element_taken_is, part_is, property_taken_is, rest_taken_is, shorthand_is, valued_member_is}
use Rattle.lowered_cores_are_lawful.proofs.members_are_lowered_to_lawful_ones.Goals as goal

pub returns : goal.returns
returns c = record {
  part_with_default = part_is;
  element_taken = element_taken_is;
  rest_taken = rest_taken_is;
  property_taken = property_taken_is;
  valued_member = valued_member_is;
  defined_member = defined_member_is;
  shorthand = shorthand_is;
  class_definition = class_is;
}

use Rattle.lowered_cores_are_lawful.proofs.Statements.{block_is, class_at_is, condition_is, declarators_are, declaring_is, evaluated_is, hoisted_is, jumping_is, labelled_is, labelled_loop_is, listed_is, returning_is, running_is, thrown_is, while_is}
use Rattle.lowered_cores_are_lawful.proofs.statements_are_lowered_to_lawful_ones.Goals as goal

pub returns : goal.returns
returns c = record {
  listed = listed_is;
  hoisted = hoisted_is;
  block_made = block_is;
  running = running_is;
  declaring = declaring_is;
  evaluated = evaluated_is;
  thrown = thrown_is;
  returning = returning_is;
  declarators = declarators_are;
  class_at = class_at_is;
  jumping = jumping_is;
  labelled_loop = labelled_loop_is;
  labelled = labelled_is;
  while_loop = while_is;
  condition = condition_is;
}

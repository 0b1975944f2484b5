use Rattle.lowered_cores_are_lawful.proofs.Flow.{do_while_is, if_is, try_is}
use Rattle.lowered_cores_are_lawful.proofs.choices_are_lowered_to_lawful_ones.Goals as goal

pub returns : goal.returns
returns c = record {
  do_while = do_while_is;
  if_chain = if_is;
  attempt = try_is;
}

use Rattle.lowered_cores_are_lawful.proofs.Loops.{for_is, for_of_is, switch_is}
use Rattle.lowered_cores_are_lawful.proofs.loops_are_lowered_to_lawful_ones.Goals as goal

pub returns : goal.returns
returns c = record {
  for_loop = for_is;
  for_of_loop = for_of_is;
  choice = switch_is;
}

use Rattle.lowered_cores_are_lawful.proofs.Modules.{lowered_is}
use Rattle.lowered_cores_are_lawful.proofs.graphs_are_lowered_to_lawful_ones.Goals as goal

pub returns : goal.returns
returns c = record {
  lowered = lowered_is;
}

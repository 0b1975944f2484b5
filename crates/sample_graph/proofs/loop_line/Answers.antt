use Rattle.std.proofs.Common.{rules, append_assoc, append-nil}
use Rattle.sample_graph.specs.Sample.{loop_line}
use Rattle.sample_graph.proofs.loop_line.Goals as goal

pub returns : goal.returns
unfolding loop_line
returns c = search (rules, append_assoc, append-nil)

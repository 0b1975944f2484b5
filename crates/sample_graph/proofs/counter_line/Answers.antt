use Rattle.std.proofs.Common.{rules, append_assoc, append-nil}
use Rattle.sample_graph.specs.Sample.{counter_line}
use Rattle.sample_graph.proofs.counter_line.Goals as goal

pub returns : goal.returns
unfolding counter_line
returns c = search (rules, append_assoc, append-nil)

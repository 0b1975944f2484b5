use Rattle.std.proofs.Common.{rules, append_assoc}
use Rattle.sample_graph.specs.Sample.{named_imports}
use Rattle.sample_graph.proofs.named_imports.Goals as goal

pub returns : goal.returns
unfolding named_imports
returns c = search (rules, append_assoc)

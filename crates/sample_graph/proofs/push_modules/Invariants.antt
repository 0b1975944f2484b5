use Rattle.std.proofs.Common.{◌≡◌, ◌++◌}
use Rattle.std.specs.Prelude.{map}
use Rattle.sample_graph.specs.Listed.{path_and_bytes}
use Rattle.sample_graph.specs.Sample.{sample_modules}
use Rattle.sample_graph.proofs.push_modules.Given as goal

abbrev pub invariant-loop-before : goal.invariant-loop-before
invariant-loop-before l = map path_and_bytes l.list.items ≡ map path_and_bytes l.fn.list.items ++ sample_modules l.before

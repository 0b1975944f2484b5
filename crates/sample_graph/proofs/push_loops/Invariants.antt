use Rattle.std.proofs.Common.{◌≡◌, ◌++◌}
use Rattle.std.specs.List.{flat_map}
use Rattle.sample_graph.specs.Sample.{loop_lines, numbers, text_of}
use Rattle.sample_graph.proofs.push_loops.Given as goal

abbrev pub invariant-loop-before : goal.invariant-loop-before
invariant-loop-before l = l.text.items ≡ l.fn.text.items ++ text_of (flat_map loop_lines (numbers l.before))

use Rattle.std.proofs.Common.{◌≡◌, ◌++◌}
use Rattle.std.specs.Prelude.{map}
use Rattle.sample_graph.specs.Sample.{import_line, numbers, text_of}
use Rattle.sample_graph.proofs.push_imports.Given as goal

abbrev pub invariant-loop-before : goal.invariant-loop-before
invariant-loop-before l = l.text.items ≡ l.fn.text.items ++ text_of (map import_line (numbers l.before))

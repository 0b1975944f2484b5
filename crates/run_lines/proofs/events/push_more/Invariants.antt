use Rattle.std.proofs.Common.{◌≡◌, ◌++◌, drop}
use Rattle.run_lines.specs.Events.{more_values}
use Rattle.run_lines.proofs.events.push_more.Given as goal

abbrev pub invariant-loop-value : goal.invariant-loop-value
invariant-loop-value l = l.line.items ++ more_values (drop l.value-index l.values) ≡ l.initial.line.items ++ more_values l.values

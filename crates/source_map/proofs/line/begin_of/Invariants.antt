use Rattle.std.proofs.Common.{◌≡◌, ◌≤◌}
use Rattle.source_map.specs.Line.{line_begin}
use Rattle.source_map.proofs.line.begin_of.Given as goal

abbrev pub invariant-loop-begin : goal.invariant-loop-begin
invariant-loop-begin l = record { same : line_begin l.script l.begin ≡ line_begin l.script l.fn.end; within : l.begin ≤ l.fn.end }

abbrev pub decreases-loop-begin : goal.decreases-loop-begin
decreases-loop-begin l = l.begin

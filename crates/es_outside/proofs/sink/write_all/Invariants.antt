use Rattle.std.proofs.Common.{◌≤◌, length, take, ◌-◌}
use Rattle.es_outside.specs.Sinks.{Adds}
use Rattle.es_outside.proofs.sink.write_all.Given as goal

abbrev pub invariant-loop-count : goal.invariant-loop-count
invariant-loop-count g l = record {
  within : l.count ≤ length l.bytes;
  added : Adds (take l.count l.bytes) (g.S.Sink.bytes l.fn.sink) (g.S.Sink.bytes l.sink);
  no_fall : g.S.Sink.faults l.fn.sink ≤ g.S.Sink.faults l.sink;
}

abbrev pub decreases-loop-count : goal.decreases-loop-count
decreases-loop-count g l = length l.bytes - l.count

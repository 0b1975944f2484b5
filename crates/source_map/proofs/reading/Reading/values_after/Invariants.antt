use Rattle.std.proofs.Common.{◌≡◌, drop}
use Rattle.source_map.specs.Segments.{move_all}
use Rattle.source_map.proofs.reading.Reading.values_after.Given as goal

-- the fields so far are done, and those that are left give what all give
abbrev pub invariant-loop-kind : goal.invariant-loop-kind
invariant-loop-kind l = move_all l.self l.kind (drop l.kind l.self.fields) l.values ≡ move_all l.self 0 l.self.fields l.self.values

use Rattle.std.proofs.Common.{ℕ, ◌-◌, ◌<◌, ◌≤◌, length, get_or}
use Rattle.source_map.specs.Maps.{IsBefore}
use Rattle.source_map.specs.declared.map.Segment.{Segment}
use Rattle.source_map.proofs.map.Map.find.Given as goal

-- the segments below stand before the place, and those above after it
abbrev pub invariant-loop-low : goal.invariant-loop-low
invariant-loop-low l = record {
  low : l.low ≤ l.high;
  high : l.high ≤ length l.segments;
  below : (k : ℕ) (d : Segment) → k < l.low → IsBefore (get_or l.segments k d).generated l.generated;
  above : (k : ℕ) (d : Segment) → l.high ≤ k → k < length l.segments → IsBefore l.generated (get_or l.segments k d).generated;
}

abbrev pub decreases-loop-low : goal.decreases-loop-low
decreases-loop-low l = l.high - l.low

use Rattle.std.proofs.Common.{◌≡◌, ◌<◌, ◌≤◌, ◌^◌, drop}
use Rattle.source_map.specs.Segments.{characters_from, beginning}
use Rattle.source_map.proofs.reading.read_segments.Given as goal

-- what is left gives from here what the whole gives from the beginning
abbrev pub invariant-loop-at : goal.invariant-loop-at
invariant-loop-at l = record {
  left : characters_from l.at (drop l.at l.mappings) l.reading ≡ characters_from 0 l.mappings (beginning l.sources l.names);
  number : l.reading.number < l.reading.weight;
  weight : l.reading.weight ≤ 32 ^ 7;
  line : l.reading.line ≤ l.at;
}

use Rattle.std.proofs.Common.{◌≡◌, ◌++◌, drop, true}
use Rattle.std.specs.Prelude.{string_bytes}
use Rattle.source_map.specs.Written.{mappings_text, no_values, AreSmall}
use Rattle.source_map.proofs.writing.write_segments.Given as goal

-- what is written, and then the segments that are left
abbrev pub invariant-loop-segment : goal.invariant-loop-segment
invariant-loop-segment l = record {
  text : string_bytes l.out ++ mappings_text l.line l.first l.values (drop l.segment-index l.segments) ≡ mappings_text 0 true no_values l.segments;
  small : AreSmall l.values;
}

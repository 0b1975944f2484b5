use Rattle.source_map.proofs.Spelling.{mappings_text-pushed, mappings_text-end, AreSmall-values_to}
use Rattle.source_map.proofs.writing.write_segments.Goals as goal

pub loop-segment-preserved : goal.loop-segment-preserved
loop-segment-preserved c =
    let small = c.requires c.loop-segment.segment-index _ c.loop-segment-test.true in
    record {
      text = mappings_text-pushed _ _ _ _ _ _ _ _ _ _ _ _ c.loop-segment-test.true c.loop-segment.invariant.text c.in_ok-push_separator.ensures c.values_on.ensures c.in_ok-values.ensures.text c.in_ok-values.ensures.values;
      small = AreSmall-values_to _ _ _ _ _ c.loop-segment.invariant.small c.values_on.ensures c.in_ok-values.ensures.values small.0 small.1;
    }

pub returns : goal.returns
returns c = mappings_text-end _ _ _ _ _ _ _ c.loop-segment-test.false c.loop-segment.invariant.text

use Rattle.std.proofs.lemmas.List.{get_or_default}
use Rattle.script_maps.specs.Mapped.{IsSegmentOf}
use Rattle.script_maps.proofs.Zips.{zip_more}
use Rattle.script_maps.proofs.segments.segments_of.Goals as goal

pub loop-mark-preserved : goal.loop-mark-preserved
loop-mark-preserved c =
    zip_more (IsSegmentOf c.args.modules.now) c.args.marks.now c.loop-mark.segments c.push.new.self c.loop-mark.mark-index _ c.segment_of-segment.result
    c.loop-mark-test.true (get_or_default c.args.marks.now c.loop-mark.mark-index _ _ c.loop-mark-test.true) c.loop-mark.invariant c.segment_of-segment.ensures c.in_ok-push.ensures.ok

use Rattle.std.proofs.Common.{refl}
use Rattle.script_maps.proofs.Targets.{none_small}
use Rattle.script_maps.proofs.segments.target_in.Goals as goal

pub returns-then-not-is_small : goal.returns-then-not-is_small
returns-then-not-is_small c =
    none_small c.args.lines.now c.args.source c.args.at c.in_ok-place.place c.is_small.result ((c.in_ok-place.ensures.place c.in_ok-place.place).0 refl) c.is_small.ensures.1 c.if-not-is_small.true

use Rattle.std.proofs.Common.{◌≡◌, [], map, reverse, take, fold}
use Rattle.module_paths.specs.Paths.{entered}
use Rattle.module_paths.proofs.segments.kept_of.Given as goal

abbrev pub invariant-loop-segment : goal.invariant-loop-segment
invariant-loop-segment l =
    reverse (map (λ s. s.now) l.kept.items) ≡ fold (entered l.absolute) [] (map (λ s. s.now) (take l.segment-index l.segments))

use Rattle.std.proofs.Common.{◌≡◌, ◌∷◌, ◌++◌, take, string_bytes}
use Rattle.std.specs.List.{flat_map}
use Rattle.module_paths.proofs.segments.push_slashed.Given as goal

abbrev pub invariant-loop-segment : goal.invariant-loop-segment
invariant-loop-segment l =
    string_bytes l.text ≡ string_bytes l.initial.text ++ flat_map (λ s. 47 ∷ s.now) (take l.segment-index l.segments)

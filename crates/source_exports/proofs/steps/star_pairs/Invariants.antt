use Rattle.std.proofs.Common.{◌≡◌, ◌++◌, drop, map}
use Rattle.source_exports.specs.Known.{pair, stars_of}
use Rattle.source_exports.proofs.steps.star_pairs.Given as goal

abbrev pub invariant-loop-star : goal.invariant-loop-star
invariant-loop-star l =
    l.pairs ++ map (λ h. pair h l.name) (drop l.star-index l.star-items) ≡ map (λ h. pair h l.name) (stars_of l.known l.home)

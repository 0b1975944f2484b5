use Rattle.std.proofs.Common.{◌≡◌, ◌++◌, drop}
use Rattle.es6_static_semantics.specs.Findings.{joined}
use Rattle.source_exports.specs.Known.{module_home}
use Rattle.source_exports.proofs.steps.module_homes.Given as goal

abbrev pub invariant-loop-star : goal.invariant-loop-star
invariant-loop-star l = l.homes ++ joined module_home (drop l.star-index l.stars) ≡ joined module_home l.stars

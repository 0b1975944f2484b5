use Rattle.std.proofs.Common.{◌≡◌, ◌++◌, drop}
use Rattle.es6_static_semantics.specs.Findings.{joined}
use Rattle.module_summaries.specs.Homes.{home_in}
use Rattle.module_summaries.specs.Parts.{stars_at}
use Rattle.module_summaries.proofs.stars.add_stars.Given as goal

abbrev pub invariant-loop-item : goal.invariant-loop-item
invariant-loop-item l = l.all ++ joined (stars_at (home_in l.homes)) (drop l.item-index l.items) ≡ l.initial.all ++ joined (stars_at (home_in l.homes)) l.items

use Rattle.std.proofs.Common.{◌≡◌, ◌++◌, drop, map}
use Rattle.module_summaries.specs.Homes.{home_in}
use Rattle.module_summaries.specs.Parts.{listed_want}
use Rattle.module_summaries.proofs.wants.add_listed.Given as goal

abbrev pub invariant-loop-name : goal.invariant-loop-name
invariant-loop-name l =
    (l.all.places ++ map (listed_want (home_in l.homes) l.from) (drop l.name-index l.listed) ≡ l.initial.all.places ++ map (listed_want (home_in l.homes) l.from) l.listed)
    × (l.all.offsets ++ map (λ n. n.imported.span.begin) (drop l.name-index l.listed) ≡ l.initial.all.offsets ++ map (λ n. n.imported.span.begin) l.listed)

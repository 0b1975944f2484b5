use Rattle.std.proofs.Common.{◌≡◌, ◌++◌, drop, map}
use Rattle.module_summaries.specs.Homes.{home_in}
use Rattle.module_summaries.specs.Parts.{passed_want}
use Rattle.module_summaries.proofs.wants.add_passed_from.Given as goal

abbrev pub invariant-loop-name : goal.invariant-loop-name
invariant-loop-name l =
    (l.all.places ++ map (passed_want (home_in l.homes) l.from) (drop l.name-index l.names) ≡ l.initial.all.places ++ map (passed_want (home_in l.homes) l.from) l.names)
    × (l.all.offsets ++ map (λ n. n.local.span.begin) (drop l.name-index l.names) ≡ l.initial.all.offsets ++ map (λ n. n.local.span.begin) l.names)

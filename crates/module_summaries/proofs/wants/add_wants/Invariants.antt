use Rattle.std.proofs.Common.{◌≡◌, ◌++◌, drop}
use Rattle.es6_static_semantics.specs.Findings.{joined}
use Rattle.module_summaries.specs.Homes.{home_in}
use Rattle.module_summaries.specs.Parts.{want_offsets, wants_at}
use Rattle.module_summaries.proofs.wants.add_wants.Given as goal

abbrev pub invariant-loop-item : goal.invariant-loop-item
invariant-loop-item l =
    (l.all.places ++ joined (wants_at (home_in l.homes)) (drop l.item-index l.items) ≡ l.initial.all.places ++ joined (wants_at (home_in l.homes)) l.items)
    × (l.all.offsets ++ joined want_offsets (drop l.item-index l.items) ≡ l.initial.all.offsets ++ joined want_offsets l.items)

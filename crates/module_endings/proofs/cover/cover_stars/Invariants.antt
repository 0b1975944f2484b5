use Rattle.std.proofs.Common.{map, take}
use Rattle.module_endings.specs.Places.{at_place}
use Rattle.module_endings.specs.Webs.{Linked}
use Rattle.module_endings.proofs.cover.cover_stars.Given as goal

abbrev pub invariant-loop-home : goal.invariant-loop-home
invariant-loop-home l = Linked l.at (map (λ home. at_place home l.name) (take l.home-index l.stars)) l.initial.web l.web

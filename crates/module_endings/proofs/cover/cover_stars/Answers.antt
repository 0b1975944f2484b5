use Rattle.std.proofs.Common.{List, map, subst}
use Rattle.std.proofs.lemmas.List.{take_all}
use Rattle.std.proofs.lemmas.Option.{slice_get-get_or}
use Rattle.module_endings.specs.declared.place.Home.{Home}
use Rattle.module_endings.specs.Places.{at_place}
use Rattle.module_endings.specs.Webs.{Linked}
use Rattle.module_endings.proofs.Growing.{stars-grown}
use Rattle.module_endings.proofs.cover.cover_stars.Goals as goal

pub loop-home-preserved : goal.loop-home-preserved
loop-home-preserved c =
    stars-grown c.args.at c.args.stars.now c.loop-home.home-index _ c.args.name.now c.in_ok-copy.field-0 c.args.web.now c.loop-home.web c.link.new.self
    (slice_get-get_or c.args.stars.now c.loop-home.home-index _ c.loop-home-test.true) c.in_ok-copy.ensures c.loop-home.invariant c.in_ok-link.ensures

pub returns : goal.returns
returns c =
    let P : List Home → Type 0 = λ hs. Linked c.args.at (map (λ home. at_place home c.args.name.now) hs) c.args.web.now c.loop-home.web in
    subst P (take_all c.loop-home.home-index c.args.stars.now c.loop-home-test.false) c.loop-home.invariant

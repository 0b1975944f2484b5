use Rattle.std.proofs.lemmas.Option.{slice_get-get_or}
use Rattle.graph_namespaces.proofs.Asking.{stars-more}
use Rattle.graph_namespaces.proofs.reached.add_stars.Goals as goal

pub loop-home-preserved : goal.loop-home-preserved
loop-home-preserved c =
    stars-more c.args.stars.now c.loop-home.home-index _ c.args.reached.now.keys c.loop-home.reached.keys c.add_star.new.reached.keys
    (slice_get-get_or c.args.stars.now c.loop-home.home-index _ c.loop-home-test.true) c.loop-home.invariant c.in_ok-add_star.ensures

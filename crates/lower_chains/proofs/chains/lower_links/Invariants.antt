use Rattle.std.proofs.Common.{◌≡◌, map, drop}
use Rattle.lower_chains.specs.Chains.{chained_of}
use Rattle.lower_walk.specs.Handed.{done_at}
use Rattle.module_lowering.specs.Expressions.{linked_at}
use Rattle.module_lowering.specs.Lowering.{along_by}
use Rattle.module_lowering.specs.Lowered.{link_lowered}
use Rattle.lower_chains.proofs.chains.lower_links.Given as goal

abbrev pub invariant-loop-link : goal.invariant-loop-link
invariant-loop-link g l =
    done_at l.here.around (along_by (linked_at l.begin) (map link_lowered (drop l.link-index l.links)) (chained_of l.chain)) l.state ≡ done_at l.here.around (along_by (linked_at l.begin) (map link_lowered l.links) (chained_of l.initial.chain)) l.initial.state

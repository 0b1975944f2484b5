use Rattle.std.proofs.Common.{drop}
use Rattle.scope_analysis.proofs.Gathered.{no_more_ends}
use Rattle.scope_analysis.proofs.ends.rows_of.Goals as goal

pub returns-in_default : goal.returns-in_default
returns-in_default c =
    no_more_ends c.args.modules.now (drop c.loop-place.place-index c.args.places.now) c.loop-place.rest.now c.loop-place.rows.items _ c.in_default.ensures.cases c.loop-place.invariant

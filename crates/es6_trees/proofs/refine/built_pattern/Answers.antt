use Rattle.std.proofs.Common.{false}
use Rattle.es6_reading.specs.Refine.{refine_pattern}
use Rattle.es6_trees.specs.Built.{Becomes, IsPatternOf}
use Rattle.es6_trees.proofs.Putting.{still_ok}
use Rattle.es6_trees.proofs.refine.built_pattern.Goals as goal

pub returns : goal.returns
unfolding refine_pattern
returns c =
    still_ok c.pattern_of.result (λ p. IsPatternOf c.args.depth c.args.expression p) (λ p. Becomes (refine_pattern c.args.depth c.args.expression) p) c.pattern_of.ensures (λ p h. h.becomes false)

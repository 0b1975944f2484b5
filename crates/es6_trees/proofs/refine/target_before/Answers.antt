use Rattle.std.proofs.Common.{sym, subst}
use Rattle.es6_trees.specs.Refines.{Refines}
use Rattle.es6_trees.proofs.Refinements.{before_other}
use Rattle.es6_trees.proofs.refine.target_before.Goals as goal

pub returns-in_default : goal.returns-in_default
returns-in_default c =
    subst (λ r. Refines r c.itself.result) (sym (before_other c.args.depth c.args.operator c.args.expression c.in_default.not-Assign)) c.itself.ensures

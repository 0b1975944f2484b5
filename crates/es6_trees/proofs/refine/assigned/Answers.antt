use Rattle.std.proofs.Common.{sym, subst, ◌∙◌}
use Rattle.es6_reading.specs.Refine.{refine_pattern}
use Rattle.es6_trees.specs.Refines.{Refines}
use Rattle.es6_trees.proofs.Refinements.{before_fits, before_misfits, before_nests, it_fits, it_misfits, it_nests}
use Rattle.es6_trees.proofs.refine.assigned.Goals as goal

pub returns-in-Ok : goal.returns-in-Ok
returns-in-Ok c = before_fits c.args.depth c.args.expression c.in-Ok.pattern (it_fits (sym c.is_pattern.ensures ∙ c.in-Fits.is) c.in-Ok.ensures)

pub returns-in-Misfit : goal.returns-in-Misfit
returns-in-Misfit c =
    let x = c.args.expression in
    let r = refine_pattern c.args.depth x in
    subst (λ s. Refines s c.itself.result) (sym (before_misfits c.args.depth x c.in-Misfit.at (it_misfits r (sym c.is_pattern.ensures ∙ c.in-Misfit.is)))) c.itself.ensures

pub returns-in-TooNested : goal.returns-in-TooNested
returns-in-TooNested c = before_nests c.args.depth c.args.expression (it_nests (refine_pattern c.args.depth c.args.expression) (sym c.is_pattern.ensures ∙ c.in-TooNested.is))

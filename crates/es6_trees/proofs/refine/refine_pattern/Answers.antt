use Rattle.std.proofs.Common.{◌≡◌, Some, refl, sym, ◌∙◌}
use Rattle.es6_ast.specs.Targets.{misfit}
use Rattle.es6_reading.specs.Refine.{refine_pattern}
use Rattle.es6_reading_laws.proofs.OneExpression.{no-patterns}
use Rattle.es6_trees.specs.Refines.{deepest}
use Rattle.es6_trees.proofs.Refinements.{it_fits, it_misfits, misfit_in, pattern_in}
use Rattle.es6_trees.proofs.refine.refine_pattern.Goals as goal

pub returns-in-Ok-clause-ok : goal.returns-in-Ok-clause-ok
returns-in-Ok-clause-ok c = pattern_in c.args.expression c.in-Ok.pattern (it_fits (sym c.is_pattern.ensures ∙ c.in-Fits.is) c.in-Ok.ensures)

pub returns-in-Misfit-clause-fault : goal.returns-in-Misfit-clause-fault
returns-in-Misfit-clause-fault c =
    let x = c.args.expression in
    let there : misfit x ≡ Some c.in-Misfit.at = misfit_in deepest x c.in-Misfit.at (it_misfits (refine_pattern deepest x) (sym c.is_pattern.ensures ∙ c.in-Misfit.is)) in
    (there, no-patterns x c.in-Misfit.at there, refl)

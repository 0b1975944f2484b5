use Rattle.std.proofs.Common.{◌≡◌, ◌⊎◌, ℕ, refl, sym, ◌∙◌}
use Rattle.es6_reading.specs.Refine.{Misfit, TooNested, refine_parameters}
use Rattle.es6_reading_laws.proofs.NoParameters.{no-parameters}
use Rattle.es6_trees.specs.Refines.{deepest}
use Rattle.es6_trees.proofs.Refinements.{at_any_depth, it_fits, it_misfits, parameters_in}
use Rattle.es6_trees.proofs.refine.refine_parameters.Goals as goal

pub returns-in-Ok-clause-ok : goal.returns-in-Ok-clause-ok
returns-in-Ok-clause-ok c = parameters_in c.args.expression c.in-Ok.parameters (it_fits (sym c.are_parameters.ensures ∙ c.in-Fits.is) c.in-Ok.ensures)

pub returns-in-Misfit-clause-fault : goal.returns-in-Misfit-clause-fault
returns-in-Misfit-clause-fault c =
    let x = c.args.expression in
    let none : (n : ℕ) → (refine_parameters n x ≡ Misfit c.in-Misfit.at) ⊎ (refine_parameters n x ≡ TooNested) = at_any_depth deepest x c.in-Misfit.at (it_misfits (refine_parameters deepest x) (sym c.are_parameters.ensures ∙ c.in-Misfit.is)) in
    (none, no-parameters x c.in-Misfit.at none, refl)

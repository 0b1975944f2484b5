use Rattle.std.proofs.Common.{◌≡◌, ◌∙◌, subst, sym}
use Rattle.es6_refine.specs.declared.fit.Fit.TheVariants as fit
use Rattle.es6_refine.specs.Fitting.{fit_of}
use Rattle.es6_reading.specs.Refine.{refine_parameters}
use Rattle.es6_cursor.specs.Readers.{turns}
use Rattle.es6_cursor.proofs.Loops.{turns_is}
use Rattle.es6_trees.proofs.Fitting.{fits_found, misfit_found, nested_found}
use Rattle.es6_trees.proofs.refining.are_no_parameters.Goals as goal

pub returns-in-Misfit : goal.returns-in-Misfit
returns-in-Misfit c = sym (misfit_found (refine_parameters turns c.args.expression.now) c.in-Misfit.at (subst (λ n. fit_of (refine_parameters n c.args.expression.now) ≡ fit.Misfit c.in-Misfit.at) (sym turns_is) (sym c.are_parameters.ensures ∙ c.in-Misfit.is)))

pub returns-in-Fits : goal.returns-in-Fits
returns-in-Fits c = sym (fits_found (refine_parameters turns c.args.expression.now) (subst (λ n. fit_of (refine_parameters n c.args.expression.now) ≡ fit.Fits) (sym turns_is) (sym c.are_parameters.ensures ∙ c.in-Fits.is)))

pub returns-in-TooNested : goal.returns-in-TooNested
returns-in-TooNested c = sym (nested_found (refine_parameters turns c.args.expression.now) (subst (λ n. fit_of (refine_parameters n c.args.expression.now) ≡ fit.TooNested) (sym turns_is) (sym c.are_parameters.ensures ∙ c.in-TooNested.is)))

use Rattle.std.proofs.Common.{◌≡◌, ◌∷◌, ◌∙◌, subst, sym}
use Rattle.es6_refine.specs.declared.fit.Fit.TheVariants as fit
use Rattle.es6_refine.specs.Fitting.{fit_of}
use Rattle.es6_reading.specs.Refine.{parameters_of}
use Rattle.es6_cursor.specs.Readers.{turns}
use Rattle.es6_cursor.proofs.Loops.{turns_is}
use Rattle.es6_trees.proofs.Fitting.{fits_skipped, misfit_skipped, nested_skipped}
use Rattle.es6_trees.proofs.refining.held_parameters.Goals as goal

pub returns-in-Fits : goal.returns-in-Fits
returns-in-Fits c =
    let e : fit_of (parameters_of 67108865 (c.args.first.now ∷ c.args.more.now)) ≡ fit.Fits = sym (c.parameters_fit.ensures) ∙ c.in-Fits.is in
    fits_skipped (parameters_of turns (c.args.first.now ∷ c.args.more.now)) c.args.cursor.now (subst (λ n. fit_of (parameters_of n (c.args.first.now ∷ c.args.more.now)) ≡ fit.Fits) (sym turns_is) e)

pub returns-in-Misfit : goal.returns-in-Misfit
returns-in-Misfit c =
    let e : fit_of (parameters_of 67108865 (c.args.first.now ∷ c.args.more.now)) ≡ fit.Misfit c.in-Misfit.at = sym (c.parameters_fit.ensures) ∙ c.in-Misfit.is in
    misfit_skipped (parameters_of turns (c.args.first.now ∷ c.args.more.now)) c.in-Misfit.at c.args.cursor.now c.refuse.result (subst (λ n. fit_of (parameters_of n (c.args.first.now ∷ c.args.more.now)) ≡ fit.Misfit c.in-Misfit.at) (sym turns_is) e) c.refuse.ensures

pub returns-in-TooNested : goal.returns-in-TooNested
returns-in-TooNested c =
    let e : fit_of (parameters_of 67108865 (c.args.first.now ∷ c.args.more.now)) ≡ fit.TooNested = sym (c.parameters_fit.ensures) ∙ c.in-TooNested.is in
    nested_skipped (parameters_of turns (c.args.first.now ∷ c.args.more.now)) c.args.cursor.now (subst (λ n. fit_of (parameters_of n (c.args.first.now ∷ c.args.more.now)) ≡ fit.TooNested) (sym turns_is) e)

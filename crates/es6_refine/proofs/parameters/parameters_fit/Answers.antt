use Rattle.std.proofs.Common.{sym, ◌∙◌}
use Rattle.es6_refine.proofs.ParameterLists.{first_parameter_fits, first_parameter_misfits}
use Rattle.es6_refine.proofs.parameters.parameters_fit.Goals as goal

pub returns-then-not-fits : goal.returns-then-not-fits
returns-then-not-fits c =
    first_parameter_misfits c.args.depth c.args.first.now c.args.more.now c.part_fit-fit.result c.part_fit-fit.ensures (sym c.fits.ensures ∙ c.if-not-fits.true)

pub returns : goal.returns
returns c =
    c.more_fit.ensures
    ∙ first_parameter_fits c.args.depth c.args.first.now c.args.more.now c.part_fit-fit.result c.part_fit-fit.ensures (sym c.fits.ensures ∙ c.if-not-fits.false)

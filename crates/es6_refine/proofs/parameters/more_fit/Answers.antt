use Rattle.std.proofs.Common.{sym, ◌∙◌}
use Rattle.es6_refine.proofs.ParameterLists.{parameters_no_more, parameters_on}
use Rattle.es6_refine.proofs.parameters.more_fit.Goals as goal

pub returns-then-not-fits : goal.returns-then-not-fits
returns-then-not-fits c =
    parameters_no_more c.args.depth c.args.expressions.now c.loop-expression.expression-index c.expression-item.result c.part_fit-fit.result (c.loop-expression-test.true, c.expression-item.is) c.part_fit-fit.ensures (sym c.fits.ensures ∙ c.if-not-fits.true)
    ∙ c.loop-expression.invariant

pub loop-expression-preserved : goal.loop-expression-preserved
loop-expression-preserved c =
    parameters_on c.args.depth c.args.expressions.now c.loop-expression.expression-index c.expression-item.result c.part_fit-fit.result (c.loop-expression-test.true, c.expression-item.is) c.part_fit-fit.ensures (sym c.fits.ensures ∙ c.if-not-fits.false)
    ∙ c.loop-expression.invariant

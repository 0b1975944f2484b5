use Rattle.std.proofs.Common.{◌≡◌, drop}
use Rattle.es6_reading.specs.Refine.{parameters_of}
use Rattle.es6_refine.specs.Fitting.{fit_of}
use Rattle.es6_refine.proofs.parameters.more_fit.Given as goal

abbrev pub invariant-loop-expression : goal.invariant-loop-expression
invariant-loop-expression l = fit_of (parameters_of l.depth (drop l.expression-index l.expressions)) ≡ fit_of (parameters_of l.depth l.expressions)

use Rattle.lowered_cores_are_lawful.proofs.Fitting.{fit_is}
use Rattle.lowered_cores_are_lawful.proofs.fitting_expressions_are_lowered_to_lawful_ones.Goals as goal

pub returns : goal.returns
returns c = fit_is

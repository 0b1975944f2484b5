use Rattle.writable_passes.proofs.Drawn.{names_will_fit}
use Rattle.writable_passes.proofs.names_fit_behind_passes.Goals as goal

pub returns : goal.returns
returns c = names_will_fit

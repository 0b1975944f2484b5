use Rattle.module_resolution.proofs.Laws.{resolution}
use Rattle.module_resolution.proofs.resolution.outcomes_are_resolutions.Goals as goal

pub returns : goal.returns
returns c = resolution

use Rattle.runs.proofs.Mapped.{mapped_run}
use Rattle.runs.proofs.a_map_suffices.Goals as goal

pub returns : goal.returns
returns g c = λ step1 step2 f h mapped s. mapped_run step1 step2 f h mapped s

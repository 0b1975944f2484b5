use Rattle.runs.proofs.Machines.{lasting}
use Rattle.runs.proofs.a_run_lasts.Goals as goal

pub returns : goal.returns
returns g c = λ step s answers n m h over. lasting step n m s answers h over

use Rattle.runs.proofs.Stands.{answers_wait}
use Rattle.runs.proofs.more_answers_wait.Goals as goal

pub returns : goal.returns
returns g c = λ step s t answers left later n events at. answers_wait step later n s t answers left events at

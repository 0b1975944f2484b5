use Rattle.runs.specs.Laws.{spanned}
use Rattle.runs.proofs.Simulated.{simulated}
use Rattle.runs.proofs.a_simulation_suffices.Goals as goal

pub returns : goal.returns
returns g c = λ step1 step2 left1 right1 left2 right2 rank sim s t rel. simulated step1 step2 (spanned left1 right1) (spanned left2 right2) (λ u v related. rank related.0) sim s t rel

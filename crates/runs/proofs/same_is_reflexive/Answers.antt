use Rattle.runs.proofs.Composed.{same-refl}
use Rattle.runs.proofs.same_is_reflexive.Goals as goal

pub returns : goal.returns
returns g c = λ b. same-refl b

use Rattle.lawful_passes.proofs.Kept.{yields_keep_law}
use Rattle.lawful_passes.proofs.lawful_cores_stay_lawful_without_yields.Goals as goal

pub returns : goal.returns
returns c = yields_keep_law

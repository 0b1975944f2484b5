use Rattle.lawful_passes.proofs.MachineKept.{all_keep_law, machines_keep_law}
use Rattle.lawful_passes.proofs.StatesScoped.{states_stay_few}
use Rattle.lawful_passes.proofs.lawful_cores_stay_lawful_with_machines.Goals as goal

pub returns : goal.returns
returns c = record { machines = machines_keep_law; few = states_stay_few; all = all_keep_law }

use Rattle.writable_passes.proofs.All.{all_keep_writable, ready_may_be_emitted}
use Rattle.writable_passes.proofs.Machines.{machines_keep_writable}
use Rattle.writable_passes.proofs.cores_stay_writable_with_machines.Goals as goal

pub returns : goal.returns
returns c = record { machines = machines_keep_writable; all = all_keep_writable; ready = ready_may_be_emitted }

use Rattle.writable_passes.proofs.All.{yields_leave_room}
use Rattle.writable_passes.proofs.Yields.{yields_keep_writable}
use Rattle.writable_passes.proofs.cores_stay_writable_without_yields.Goals as goal

pub returns : goal.returns
returns c = record { writable = yields_keep_writable; room = yields_leave_room }

use Rattle.writable_passes.proofs.All.{scopes_keep_room}
use Rattle.writable_passes.proofs.Scopes.{scopes_keep_writable}
use Rattle.writable_passes.proofs.cores_stay_writable_without_scopes.Goals as goal

pub returns : goal.returns
returns c = record { writable = scopes_keep_writable; room = scopes_keep_room }

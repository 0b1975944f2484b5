use Rattle.std.proofs.Common.{◌≡◌, Some}
use Rattle.source_moves.specs.Seen.{state_of}
use Rattle.source_modules.specs.Found.{export_of, held_of}
use Rattle.source_modules.proofs.Held.{reads_some}
use Rattle.source_modules.proofs.reads.read_binding.Goals as goal

pub returns-in-Some : goal.returns-in-Some
returns-in-Some g c =
    let before = state_of g.W.PendingWork.seen c.args.st.now in
    let e : Some c.in-Some.held ≡ held_of before c.args.id c.args.key.now = cc (c.in_ok-found.ensures, c.in-Some.is) in
    reads_some g.W.PendingWork.seen c.read_held.result c.read_held.new.st before c.in-Some.held (export_of before c.args.id c.args.key.now) e c.read_held.ensures

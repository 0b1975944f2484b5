use Rattle.source_calls.proofs.Taken.{resumed_some}
use Rattle.source_calls.proofs.resumption.resume_at.Goals as goal

-- where it stood it is resumed as if it still did
pub returns-in-Some : goal.returns-in-Some
returns-in-Some g c =
    let taken = c.in-Some.ensures in
    let same = resumed_some g.W.PendingWork.seen c.args.number c.args.kind c.args.value c.args.st.now c.in-Some.generator _ c.replace.new.self taken.taken taken.put in
    rw same c.resume_taken.ensures

use Rattle.std.proofs.Common.{◌≡◌, ◌∙◌, ◌∷◌, rules}
use Rattle.source_moves.specs.Seen.{state_of}
use Rattle.source_objects.proofs.Following.{member_done, member_ends}
use Rattle.source_objects.proofs.members.members_on.Goals as goal

pub returns-in-Some-2 : goal.returns-in-Some-2
returns-in-Some-2 g c =
    let seen = g.W.PendingWork.seen in
    let left : c.loop-member.left ≡ c.in-Some.member.now ∷ c.in-Some.behind = search rules in
    member_ends c.args.defining.now c.loop-member.left c.in-Some.member.now c.in-Some.behind (state_of seen c.loop-member.st)
    c.in-Some-2.ended (state_of seen c.one_member.new.st) left (rw (c.in-Some-2.is, c.share.ensures) at c.in_ok-ended.ensures)
    ∙ c.loop-member.invariant

pub loop-member-preserved : goal.loop-member-preserved
loop-member-preserved g c =
    let seen = g.W.PendingWork.seen in
    let left : c.loop-member.left ≡ c.in-Some.member.now ∷ c.in-Some.behind = search rules in
    member_done c.args.defining.now c.loop-member.left c.in-Some.member.now c.in-Some.behind (state_of seen c.loop-member.st)
    (state_of seen c.one_member.new.st) left (rw (c.in_default-2.is, c.share.ensures) at c.in_ok-ended.ensures)
    ∙ c.loop-member.invariant

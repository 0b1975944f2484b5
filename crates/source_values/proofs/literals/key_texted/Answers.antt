-- The member that is named is the one that the name is of.
use Rattle.std.proofs.Common.{subst, sym}
use Rattle.source_meaning.specs.Classes.{member_named}
use Rattle.source_meaning.specs.Frames.{key_texted}
use Rattle.source_moves.specs.Moves.{Steps}
use Rattle.source_moves.specs.Seen.{state_of}
use Rattle.source_values.proofs.literals.key_texted.Goals as goal

-- src/literals.rt:22:1
pub returns-in-OfMember : goal.returns-in-OfMember
returns-in-OfMember g c = subst (λ n. Steps g.W.PendingWork.seen c.member_named.result c.member_named.new.st (key_texted c.args.key (state_of g.W.PendingWork.seen c.args.st.now) n)) (sym c.in-OfMember.is) (subst (λ m. Steps g.W.PendingWork.seen c.member_named.result c.member_named.new.st (member_named c.in-OfMember.defining m c.in-OfMember.members c.args.key (state_of g.W.PendingWork.seen c.args.st.now))) c.get-in-OfMember.ensures c.member_named.ensures)

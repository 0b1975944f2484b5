use Rattle.std.proofs.Common.{◌≡◌, ◌∙◌, ◌∷◌, rules}
use Rattle.source_moves.specs.Seen.{state_of}
use Rattle.source_objects.proofs.Going.{property_ends}
use Rattle.source_objects.proofs.literals.properties_on.Goals as goal

pub returns-in-Some-2 : goal.returns-in-Some-2
returns-in-Some-2 g c =
    let seen = g.W.PendingWork.seen in
    let left : c.loop-property.left ≡ c.in-Some.property.now ∷ c.in-Some.rest = search rules in
    property_ends c.args.object c.loop-property.left c.in-Some.property.now c.in-Some.rest (state_of seen c.loop-property.st)
    c.in-Some-2.ended (state_of seen c.one_property.new.st) left (rw (c.in-Some-2.is, c.share.ensures) at c.in_ok-ended.ensures)
    ∙ c.loop-property.invariant

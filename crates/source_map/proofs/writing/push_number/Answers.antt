use Rattle.std.proofs.Common.{refl, arith}
use Rattle.source_map.proofs.Numbers.{IsShort-six, digits_pushed, digits_ended}
use Rattle.source_map.proofs.writing.push_number.Goals as goal

pub loop-rest-init : goal.loop-rest-init
loop-rest-init c = (6, IsShort-six _ (omega arith), refl)

pub loop-rest-preserved : goal.loop-rest-preserved
loop-rest-preserved c =
    let i = c.loop-rest.invariant in
    digits_pushed _ _ _ i.0 _ i.1 c.loop-rest-test.true i.2 c.in_ok-push_letter.ensures

pub returns : goal.returns
returns c =
    let i = c.loop-rest.invariant in
    digits_ended _ _ _ i.0 _ (omega (arith, c.loop-rest-test.false)) i.2 c.in_ok-push_letter-2.ensures

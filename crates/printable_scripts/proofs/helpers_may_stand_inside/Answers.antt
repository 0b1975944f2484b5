use Rattle.printable_scripts.proofs.Ready.{helpers_may_stand_inside, statements_may_stand_inside}
use Rattle.printable_scripts.proofs.helpers_may_stand_inside.Goals as goal

pub returns : goal.returns
returns c = record { statements = statements_may_stand_inside; helpers = helpers_may_stand_inside }

use Rattle.std.proofs.Common.{[], arith}
use Rattle.std.proofs.lemmas.Grind.{common_steps}
use Rattle.first_script.proofs.print.print_script.Goals as goal

pub returns : goal.returns
returns c = grind (arith, common_steps, c.loop-item.invariant [])

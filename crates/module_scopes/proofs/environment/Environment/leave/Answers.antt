use Rattle.std.proofs.Common.{◌<◌, length, arith, ◌∙◌}
use Rattle.module_scopes.proofs.Stacks.{drop-pop}
use Rattle.module_scopes.proofs.environment.Environment.leave.Goals as goal

pub loop-self-preserved : goal.loop-self-preserved
loop-self-preserved c =
    let more : c.args.mark < length c.loop-self.self.known = omega arith in
    let e = drop-pop c.loop-self.self.known c.args.mark more in
    rw c.pop.ensures (record { known = e ∙ c.loop-self.invariant.known; in_object = c.loop-self.invariant.in_object })

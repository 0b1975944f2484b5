use Rattle.std.proofs.Common.{◌<◌, length, arith, ◌∙◌}
use Rattle.es5_early.proofs.Stacks.{drop-pop}
use Rattle.es5_early.proofs.names.Names.truncate.Goals as goal

pub loop-self-preserved : goal.loop-self-preserved
loop-self-preserved c =
    let more : c.args.len < length c.loop-self.self = omega arith in
    let e = drop-pop c.loop-self.self c.args.len more in
    rw c.pop.ensures (e ∙ c.loop-self.invariant)

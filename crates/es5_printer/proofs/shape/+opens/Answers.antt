use Rattle.std.proofs.Common.{arith}
use Rattle.es5_printer.proofs.Starts.{opens_chain}
use Rattle.es5_printer.proofs.shape.+opens.Goals as goal

pub returns-in-Chain : goal.returns-in-Chain
returns-in-Chain t c = λ rest. opens_chain c.args.x.now c.in-Chain.span c.in-Chain.head c.in-Chain.links c.args.least c.opens.result rest c.in-Chain.is (grind arith) (λ r. rw (← c.get.ensures) (c.opens.ensures r))

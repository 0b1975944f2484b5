-- What the laws of the model say of what is read.
use Rattle.es5_text.proofs.Accepted.{accepts}
use Rattle.es5_text.proofs.Answered.{parsed, faults}
use Rattle.es5_text.proofs.parse.parse5.Goals as goal

pub returns-clause-parsed : goal.returns-clause-parsed
returns-clause-parsed c = parsed c.args.bytes.now _ c.read_text.ensures

pub returns-clause-accepted : goal.returns-clause-accepted
returns-clause-accepted c = accepts c.args.bytes.now _ c.read_text.ensures

pub returns-clause-fault : goal.returns-clause-fault
returns-clause-fault c = faults c.args.bytes.now _ c.read_text.ensures

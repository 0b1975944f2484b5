use Rattle.es6_expr.proofs.es6_module.Parsed.{accepts, faults, parsed}
use Rattle.es6_expr.proofs.es6_module.parse.parse_module.Goals as goal

pub returns-clause-parsed : goal.returns-clause-parsed
returns-clause-parsed c = parsed c.args.tokens.now _ c.read_tokens.ensures

pub returns-clause-accepted : goal.returns-clause-accepted
returns-clause-accepted c = accepts c.args.tokens.now _ c.read_tokens.ensures

pub returns-clause-fault : goal.returns-clause-fault
returns-clause-fault c = faults c.args.tokens.now _ c.read_tokens.ensures

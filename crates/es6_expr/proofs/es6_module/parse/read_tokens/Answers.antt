use Rattle.es6_expr.proofs.es6_module.Refused.{refuses}
use Rattle.es6_expr.proofs.es6_module.parse.read_tokens.Goals as goal

pub returns-in-Err-Stopped : goal.returns-in-Err-Stopped
returns-in-Err-Stopped c = refuses c.args.tokens.now c.rest.result.now c.new-cursor.result c.whole_module.new.cursor c.in-Err-Stopped.field-0 c.in-Err-Stopped.stop c.place_of.result c.fault_of.result c.new-cursor.ensures c.in-Err-Stopped.ensures c.in-Err-Stopped.field-0-is c.rest.ensures c.place_of.ensures c.fault_of.ensures

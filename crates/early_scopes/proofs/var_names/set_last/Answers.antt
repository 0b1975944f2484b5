use Rattle.std.proofs.Common.{Some}
use Rattle.early_scopes.proofs.Tables.{get_by-updates}
use Rattle.early_scopes.proofs.var_names.set_last.Goals as goal

pub returns-clause-ok : goal.returns-clause-ok
returns-clause-ok c = λ other. get_by-updates c.args.name.now c.args.last.now c.insert.new.self (Some c.args.index) c.in_ok-insert.ensures.updates other

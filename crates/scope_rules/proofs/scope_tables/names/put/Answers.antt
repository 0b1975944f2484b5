use Rattle.std.proofs.Common.{Some}
use Rattle.scope_rules.proofs.scope_tables.Numbering.{number-put}
use Rattle.scope_rules.proofs.scope_tables.names.put.Goals as goal

pub returns-clause-ok : goal.returns-clause-ok
returns-clause-ok c = λ s n. number-put c.args.numbers.now c.insert.new.self (c.args.scope, c.args.name) (Some c.args.number) c.in_ok-insert.ensures.updates s n

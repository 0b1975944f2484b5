use Rattle.std.specs.Prelude.{◌-◌}
use Rattle.es6_expr.specs.Parsed.{flags_in}
use Rattle.es6_expr.proofs.Laws.{statement-faults, statement-only, statement-shallow, statement-spelled}
use Rattle.es6_expr.proofs.parse.parse_statement.Goals as goal

pub returns-clause-spelled : goal.returns-clause-spelled
returns-clause-spelled c = statement-spelled (256 - c.args.context.depth) (flags_in c.args.context) c.args.tokens.now c.args.from _ c.read_statement.ensures

pub returns-clause-shallow : goal.returns-clause-shallow
returns-clause-shallow c = statement-shallow (256 - c.args.context.depth) (flags_in c.args.context) c.args.tokens.now c.args.from _ c.read_statement.ensures

pub returns-clause-only : goal.returns-clause-only
returns-clause-only c = statement-only (256 - c.args.context.depth) (flags_in c.args.context) c.args.tokens.now c.args.from _ c.read_statement.ensures

pub returns-clause-fault : goal.returns-clause-fault
returns-clause-fault c = statement-faults (256 - c.args.context.depth) (flags_in c.args.context) c.args.tokens.now c.args.from _ c.read_statement.ensures

use Rattle.std.specs.Prelude.{◌-◌}
use Rattle.es6_expr.specs.Parsed.{flags_in}
use Rattle.es6_expr.proofs.Laws.{expression-faults, expression-only, expression-shallow, expression-spelled}
use Rattle.es6_expr.proofs.parse.parse_expression.Goals as goal

pub returns-clause-spelled : goal.returns-clause-spelled
returns-clause-spelled c = expression-spelled (256 - c.args.context.depth) (flags_in c.args.context) c.args.tokens.now c.args.from _ c.read_expression.ensures

pub returns-clause-shallow : goal.returns-clause-shallow
returns-clause-shallow c = expression-shallow (256 - c.args.context.depth) (flags_in c.args.context) c.args.tokens.now c.args.from _ c.read_expression.ensures

pub returns-clause-only : goal.returns-clause-only
returns-clause-only c = expression-only (256 - c.args.context.depth) (flags_in c.args.context) c.args.tokens.now c.args.from _ c.read_expression.ensures

pub returns-clause-fault : goal.returns-clause-fault
returns-clause-fault c = expression-faults (256 - c.args.context.depth) (flags_in c.args.context) c.args.tokens.now c.args.from _ c.read_expression.ensures

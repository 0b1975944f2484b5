use Rattle.es6_reading_laws.proofs.OneExpression.{one-expression}
use Rattle.es6_reading_laws.proofs.derivations_give_one_expression.Goals as goal

pub returns : goal.returns
returns c = one-expression

-- The readers of expressions, by what they read.
use Rattle.es6_ast.specs.declared.settings.Flags.{Flags}
use Rattle.es6_ast.specs.declared.settings.Role.TheVariants.{Among, Heritage, Callee}
use Rattle.es6_reading.specs.Parser.{Inner, Parser, Reading}
use Rattle.es6_reading.specs.Expressions.{sequence, assignment, unary, power, chain, expression_at_limit, operand_at_limit}
use Rattle.es6_reading.specs.Words.{begins_expression, begins_unary}
use Rattle.es6_cursor.specs.declared.nested.Nested.{Nested}
use Rattle.es6_cursor.specs.declared.nested.Nested.TheVariants as nested

-- where constructs may open
unfoldable pub reader_of : Nested → Inner → Flags → Parser Reading
reader_of nested.Sequence i f = sequence i f
reader_of nested.Assignment i f = assignment i f
reader_of nested.Power i f = power i f Among
reader_of nested.Unary i f = unary i f
reader_of nested.Callee i f = chain i f Callee
reader_of nested.Heritage i f = chain i f Heritage

-- where none may open any more
unfoldable pub limit_of : Nested → Flags → Parser Reading
limit_of nested.Sequence f = expression_at_limit (begins_expression f)
limit_of nested.Assignment f = expression_at_limit (begins_expression f)
limit_of nested.Power f = expression_at_limit begins_unary
limit_of nested.Unary f = expression_at_limit begins_unary
limit_of nested.Callee f = operand_at_limit
limit_of nested.Heritage f = operand_at_limit

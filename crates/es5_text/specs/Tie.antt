-- The readers of expressions, by what they read.
use Rattle.std.specs.Prelude.{Bool, false}
use Rattle.es5_reading.specs.Parser.{Inner5, Parser, Read5}
use Rattle.es5_reading.specs.Expressions.{sequence, assignment, unary, chain, expression_at_limit, callee_at_limit}
use Rattle.es5_cursor.specs.declared.nested.Nested.{Nested}
use Rattle.es5_cursor.specs.declared.nested.Nested.TheVariants as nested

-- where constructs may open
unfoldable pub reader_of : Nested → Inner5 → Bool → Parser Read5
reader_of nested.Sequence i no_in = sequence i no_in
reader_of nested.Assignment i no_in = assignment i no_in
reader_of nested.Unary i no_in = unary i
reader_of nested.Callee i no_in = chain i false

-- where none may open any more
unfoldable pub limit_of : Nested → Parser Read5
limit_of nested.Sequence = expression_at_limit
limit_of nested.Assignment = expression_at_limit
limit_of nested.Unary = expression_at_limit
limit_of nested.Callee = callee_at_limit

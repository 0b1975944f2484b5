-- Parts of conditional expressions (ECMA-262, 6th edition, 12.13) and arrow functions (14.2).
use Rattle.std.specs.Prelude.{ℕ, List, false}
use Rattle.es6_lexer.specs.declared.token.Punctuator.TheVariants as marks
use Rattle.es6_ast.specs.declared.tree.Arrow.{roll-Arrow}
use Rattle.es6_ast.specs.declared.tree.ArrowBody.TheVariants.{ValueBody, BlockBody}
use Rattle.es6_ast.specs.declared.tree.Expression.TheVariants as expr
use Rattle.es6_ast.specs.declared.tree.Parameter.{Parameter}
use Rattle.es6_ast.specs.declared.settings.Flags.{Flags}
use Rattle.es6_ast.specs.Grammar.{of_arrow, of_function}
use Rattle.es6_reading.specs.Parser.{Inner, Parser, Reading, ◌>>=◌, made, on, refused, take_as, mark}
use Rattle.es6_reading.specs.Words.{arrow_at}
use Rattle.es6_reading.specs.Expressions.{arrow_body, other}

-- the `:`, and what follows it
unfoldable pub other_branch : Inner → Flags → Parser Reading
other_branch i f = do
  _ ← take_as (mark marks.Colon)
  i.assignment f

-- the `=>` after these parameters, and what follows it
abbrev pub after_parameters : Inner → Flags → ℕ → List Parameter → Parser Reading
after_parameters i f at parameters = on arrow_at (λ _. arrow_body i f at parameters) refused

-- the block that is the body of an arrow function
unfoldable pub arrow_with_block : Inner → ℕ → List Parameter → Parser Reading
arrow_with_block i at parameters = do
  b ← i.block (of_function false)
  made at (λ span. other (expr.Arrow (roll-Arrow (record { span = span; parameters = parameters; body = BlockBody b }))))

-- the expression that is the body of an arrow function
unfoldable pub arrow_with_value : Inner → Flags → ℕ → List Parameter → Parser Reading
arrow_with_value i f at parameters = do
  x ← i.assignment (of_arrow f)
  made at (λ span. other (expr.Arrow (roll-Arrow (record { span = span; parameters = parameters; body = ValueBody x.value }))))

-- Parts of groups (ECMA-262, 6th edition, 12.2.10), and of the parentheses that only an arrow's parameters have (14.2).
use Rattle.std.specs.Prelude.{ℕ, Some}
use Rattle.es6_lexer.specs.declared.token.Punctuator.TheVariants as marks
use Rattle.es6_ast.specs.declared.tree.Expression.{Expression}
use Rattle.es6_ast.specs.declared.tree.Rest.{Rest}
use Rattle.es6_reading.specs.Parser.{Parser, Reading, ◌>>=◌, returns, refused, on, take_as, mark, made}
use Rattle.es6_reading.specs.Parts.{identifier}
use Rattle.es6_reading.specs.Expressions.{covered_rest}

-- the name after the `...` at the place, and the closing parenthesis
unfoldable pub rest_from : ℕ → Parser Rest
rest_from dots = do
  n ← identifier
  rest ← made dots (λ span. record { span = span; name = n })
  _ ← take_as (mark marks.RightParenthesis)
  returns rest

-- the rest that has to stand after these parameters
abbrev pub after_parameters : ℕ → ℕ → Expression → Parser Reading
after_parameters at dots held = on (mark marks.Ellipsis) (λ _. covered_rest at dots (Some held)) refused

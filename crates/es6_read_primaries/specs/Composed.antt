-- Parts of primary expressions (ECMA-262, 6th edition, 12.2).
use Rattle.std.specs.Prelude.{ℕ, true}
use Rattle.es6_lexer.specs.declared.token.Punctuator.TheVariants as marks
use Rattle.es6_ast.specs.declared.tree.Expression.TheVariants as expr
use Rattle.es6_ast.specs.declared.settings.Flags.{Flags}
use Rattle.es6_ast.specs.declared.settings.Role.{Role}
use Rattle.es6_reading.specs.Parser.{Inner, Parser, Reading, returns, ◌>>=◌, on_group, made}
use Rattle.es6_reading.specs.Parts.{class_after_word, function_after_word, on_template}
use Rattle.es6_reading.specs.Expressions.{left, elements, properties, grouped, bracketed}

-- the elements of an array literal that begins at the place (12.2.5)
unfoldable pub array : Inner → Flags → ℕ → Parser Reading
array i f at = do
  l ← elements i f i.fuel
  made at (λ span. left (expr.ArrayList span l.elements l.ends_in_comma))

-- the properties of an object literal that begins at the place (12.2.6)
unfoldable pub object : Inner → Flags → ℕ → Parser Reading
object i f at = do
  xs ← properties i f i.fuel
  made at (λ span. left (expr.ObjectList span xs))

-- what parentheses, brackets and braces hold, and the same or a template (12.2)
unfoldable pub held_or_bracketed : Inner → Flags → Role → ℕ → Parser Reading
held_or_bracketed i f role at = on_group i marks.LeftParenthesis (grouped i f role at) (bracketed i f role at)

unfoldable pub held_or_template : Inner → Flags → Role → ℕ → Parser Reading
held_or_template i f role at = on_template i f at (λ m. returns (left (expr.Template m))) (held_or_bracketed i f role at)

-- what follows `function`, which begins at the place (14.1)
unfoldable pub function_of : Inner → ℕ → Parser Reading
function_of i at = do
  g ← function_after_word i true at
  returns (left (expr.Function g))

-- what follows `class`, which begins at the place (14.5)
unfoldable pub class_of : Inner → Flags → ℕ → Parser Reading
class_of i f at = do
  c ← class_after_word i f true at
  returns (left (expr.Class c))

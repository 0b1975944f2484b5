-- Parts of the patterns that bind and of parameters (ECMA-262, 6th edition, 13.3.3, 14.1).
use Rattle.std.specs.Prelude.{ℕ, List, [], ◌∷◌}
use Rattle.es6_lexer.specs.declared.token.Punctuator.TheVariants as marks
use Rattle.es6_ast.specs.declared.tree.Parameter.{Parameter}
use Rattle.es6_ast.specs.declared.tree.Pattern.{Pattern}
use Rattle.es6_ast.specs.declared.tree.Pattern.TheVariants.{ObjectPattern}
use Rattle.es6_ast.specs.declared.settings.Flags.{Flags}
use Rattle.es6_reading.specs.Parser.{Inner, Parser, returns, ◌>>=◌, made, group}
use Rattle.es6_reading.specs.Parts.{object_parts, rest_parameter}

-- ObjectBindingPattern, which begins at the place
unfoldable pub object_pattern : Inner → Flags → ℕ → Parser Pattern
object_pattern i f at = group i marks.LeftBrace (do
  es ← object_parts i f i.fuel
  made at (λ span. ObjectPattern span es))

-- what follows the `...` of a rest, up to the closing parenthesis, as the last of the parameters
unfoldable pub last_parameter : ℕ → Parser (List Parameter)
last_parameter at = do
  e ← rest_parameter at
  returns (e ∷ [])

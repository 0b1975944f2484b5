-- Parts of the methods that get and set (ECMA-262, 6th edition, 14.3).
use Rattle.std.specs.Prelude.{ℕ, Bool, false, List}
use Rattle.es6_lexer.specs.declared.token.Punctuator.TheVariants as marks
use Rattle.es6_ast.specs.declared.tree.Key.{Key}
use Rattle.es6_ast.specs.declared.tree.Method.{Method}
use Rattle.es6_ast.specs.declared.tree.Parameter.{Parameter}
use Rattle.es6_ast.specs.Grammar.{method_of}
use Rattle.es6_reading.specs.Parser.{Inner, Parser, ◌>>=◌, from, made, group}
use Rattle.es6_reading.specs.Parts.{accessor_kind, accessor_parameters, function_body}

-- the parameters in their parentheses
unfoldable pub enclosed_parameters : Inner → Bool → Parser (List Parameter)
enclosed_parameters i setter = group i marks.LeftParenthesis (accessor_parameters i setter)

-- what follows the name of an accessor
unfoldable pub accessor_after_key : Inner → ℕ → Bool → Key → Parser Method
accessor_after_key i at setter k = from λ from_parameters. do
  es ← enclosed_parameters i setter
  ss ← function_body i false
  c ← made from_parameters (λ span. span)
  made at (λ span. method_of span (accessor_kind setter) k c es ss)

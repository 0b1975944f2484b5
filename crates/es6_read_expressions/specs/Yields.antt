-- Parts of `yield` expressions (ECMA-262, 6th edition, 14.4).
use Rattle.std.specs.Prelude.{ℕ, Some}
use Rattle.es6_ast.specs.declared.tree.Expression.TheVariants as expr
use Rattle.es6_ast.specs.declared.settings.Flags.{Flags}
use Rattle.es6_reading.specs.Parser.{Inner, Parser, Reading, ◌>>=◌, made}
use Rattle.es6_reading.specs.Expressions.{other}

-- what follows the `*` of a `yield` that begins at the place
unfoldable pub delegated : Inner → Flags → ℕ → Parser Reading
delegated i f at = do
  x ← i.assignment f
  made at (λ span. other (expr.Delegate span x.value))

-- the value of a `yield` that begins at the place
unfoldable pub yielded : Inner → Flags → ℕ → Parser Reading
yielded i f at = do
  x ← i.assignment f
  made at (λ span. other (expr.Yield span (Some x.value)))

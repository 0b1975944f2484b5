-- Parts of powers (ECMA-262, 7th edition, 12.6).
use Rattle.std.specs.Prelude.{ℕ}
use Rattle.es6_ast.specs.declared.tree.Expression.TheVariants as expr
use Rattle.es6_ast.specs.declared.settings.Flags.{Flags}
use Rattle.es6_reading.specs.Parser.{Inner, Parser, Reading, ◌>>=◌, made}
use Rattle.es6_reading.specs.Expressions.{other}

-- what follows the `**` after a base that begins at the place
unfoldable pub raised_to : Inner → Flags → ℕ → Reading → Parser Reading
raised_to i f at x = do
  y ← i.power f
  made at (λ span. other (expr.Power span x.value y.value))

-- What begins a statement where no construct may open any more.
use Rattle.std.proofs.Common.{◌≡◌, Bool, ◌&&◌, ◌||◌, true, false, List, [], ◌∷◌, refl}
use Rattle.es6_ast.specs.declared.settings.Flags.{Flags}
use Rattle.es6_ast.specs.declared.settings.Stand.{Stand}
use Rattle.es6_ast.specs.Tokens.{Filled}
use Rattle.es6_reading.specs.Parser.{next_is}
use Rattle.es6_reading.specs.Words.{begins_expression}
use Rattle.es6_reading.specs.Statements.{begins_statement, may_declare}
use Rattle.es6_expr.specs.Limits.{begins_other}

pub begins_next : (f : Flags) (stand : Stand) (ts : List Filled) → next_is (begins_statement f stand) ts ≡ next_is (begins_other f) ts || (next_is (begins_expression f) ts && next_is (may_declare stand) ts)
unfolding begins_statement
begins_next f stand [] = refl
begins_next f stand (t ∷ ts) = refl

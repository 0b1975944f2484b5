-- What a stop of the model is to the caller.
use Rattle.std.specs.Prelude.{ℕ, List, [], ◌∷◌}
use Rattle.es6_ast.specs.declared.settings.Stop.{Stop}
use Rattle.es6_ast.specs.declared.settings.Stop.TheVariants as stops
use Rattle.es6_ast.specs.Tokens.{Filled, end_of}
use Rattle.es6_expr.specs.declared.fault.ParseFault.{ParseFault}
use Rattle.es6_expr.specs.declared.fault.ParseFault.TheVariants.{Syntax, Lexical, Outside, Depth, OutOfMemory}

abbrev pub fault_of : Stop → ℕ → ParseFault
fault_of stops.Syntax at = Syntax at
fault_of (stops.Lexical kind) at = Lexical at kind
fault_of (stops.Outside rule) at = Outside rule at
fault_of stops.Depth at = Depth at
fault_of stops.Endless at = OutOfMemory

-- the begin of the first token that is left, or the end of the last one of all
abbrev pub place_of : List Filled → List Filled → ℕ
place_of all (t ∷ ts) = t.span.begin
place_of all [] = end_of 0 all

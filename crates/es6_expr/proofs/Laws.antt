-- What the laws of the model say of the expression, or the statement or declaration, that is answered.
use Rattle.std.proofs.Common.{◌≡◌, ℕ, suc, true, List, [], ◌∷◌, ◌++◌, drop, map}
use Rattle.std.specs.Prelude.{Result, IfOk, IfErr}
use Rattle.es6_lexer.specs.declared.token.Token.{Token}
use Rattle.es6_ast.specs.declared.tree.Expression.{Expression}
use Rattle.es6_ast.specs.declared.tree.Statement.{Statement}
use Rattle.es6_ast.specs.declared.settings.Flags.{Flags}
use Rattle.es6_ast.specs.declared.settings.Stand.TheVariants.{Listed}
use Rattle.es6_ast.specs.declared.settings.Stop.{Stop}
use Rattle.es6_ast.specs.declared.settings.Stop.TheVariants as stops
use Rattle.es6_ast.specs.Tokens.{read}
use Rattle.es6_ast.specs.Grammar.{level_sequence}
use Rattle.es6_ast.specs.Semicolons.{SpellsExpression, SpellsStatement}
use Rattle.es6_reading.specs.Parser.{Fault, Input, Reading}
use Rattle.es6_reading.specs.Expressions.{sequence}
use Rattle.es6_reading.specs.Statements.{statement}
use Rattle.es6_reading.specs.Modules.{readers}
use Rattle.es6_reading.proofs.Places.{Leaves}
use Rattle.es6_reading.proofs.PlacesOfModules.{placed}
use Rattle.es6_reading_laws.specs.es6_viability.Alive.{BeginsExpression, BeginsStatement}
use Rattle.es6_reading_laws.specs.es6_viability.Fronts.{BeginWithExpression, BeginWithStatement, IsExpressionBefore, IsStatementBefore}
use Rattle.es6_reading_laws.specs.es6_viability.TooDeep.{FewAreOpen, open_in_expression, open_in_statement}
use Rattle.es6_reading_laws.proofs.es6_viability.AliveAlone.{depth-begins-expressions, depth-begins-statements, expressions-begin, statements-begin}
use Rattle.es6_reading_laws.proofs.es6_viability.DeadAlone.{no-expression-goes-on, no-statement-goes-on}
use Rattle.es6_reading_laws.proofs.es6_viability.TooDeep.{expressions-are-too-deep, expressions-pass-none, statements-are-too-deep, statements-pass-none}
use Rattle.es6_reading_laws.proofs.es6_viability.Fronts.{spelled-expressions, spelled-statements}
use Rattle.es6_reading_laws.proofs.es6_viability.ShallowLaws.{expressions-are-shallow, statements-are-shallow}
use Rattle.es6_reading_laws.proofs.es6_viability.SpelledAlone.{expression-spelled as expression-spelled-by, statement-spelled as statement-spelled-by}
use Rattle.es6_reading_laws.proofs.es6_outside_laws.Reported.{expressions-reported, statements-reported}
use Rattle.es6_cursor.specs.Readers.{inner, turns}
use Rattle.es6_expr.specs.declared.fault.ParseFault.{ParseFault}
use Rattle.es6_expr.specs.Parsed.{Answers, IsExpressionFault, IsExpressionIn, IsShallow, IsStatementFault, IsStatementIn, IsStopAt, IsTheOnly, input_at}
use Rattle.es6_expr.proofs.Answered.{faults-in, only-in, shallow-in, spelled-in}

-- ## Expressions

abbrev ExpressionAnswer : ℕ → Flags → List Token → ℕ → Result (Expression × ℕ) ParseFault → Type 0
ExpressionAnswer room f tokens from r = Answers (λ (r : Reading). r.value) tokens (sequence (inner room) f (input_at tokens from)) r

pub expression-spelled : (room : ℕ) (f : Flags) (tokens : List Token) (from : ℕ) (r : Result (Expression × ℕ) ParseFault) → ExpressionAnswer room f tokens from r → IfOk r (IsExpressionIn f tokens from)
expression-spelled room f tokens from = spelled-in (λ (r : Reading). r.value) tokens from (sequence (inner room) f) (λ x ts rest. SpellsExpression f level_sequence ts x rest) (λ x c e. expression-spelled-by turns room f (drop from tokens) x c e)

pub expression-shallow : (room : ℕ) (f : Flags) (tokens : List Token) (from : ℕ) (r : Result (Expression × ℕ) ParseFault) → ExpressionAnswer room f tokens from r → IfOk r (IsShallow room open_in_expression tokens from)
expression-shallow room f tokens from = shallow-in (λ (r : Reading). r.value) tokens from (sequence (inner room) f) room open_in_expression (expressions-are-shallow turns room f)

pub expression-only : (room : ℕ) (f : Flags) (tokens : List Token) (from : ℕ) (r : Result (Expression × ℕ) ParseFault) → ExpressionAnswer room f tokens from r → IfOk r (IsTheOnly (IsExpressionBefore f (drop from tokens)) tokens)
expression-only room f tokens from = only-in (λ (r : Reading). r.value) tokens from (sequence (inner room) f) (IsExpressionBefore f (drop from tokens)) (λ x rest b. spelled-expressions turns room f (drop from tokens) rest x b)

sequence-leaves : (room : ℕ) (f : Flags) (s : Input) → Leaves s.tokens (sequence (inner room) f s)
unfolding readers
sequence-leaves room f s = (placed true turns (suc room)).sequence f s

expression-stops : (room : ℕ) (f : Flags) (front rest : List Token) (stop : Stop) → sequence (inner room) f (record { tokens = map read (front ++ rest); last = 0 }) ≡ Fault stop (map read rest) → IsStopAt room open_in_expression (BeginsExpression f) (BeginWithExpression f) stop front rest
expression-stops room f front rest stops.Endless e = tt
expression-stops room f front [] stops.Depth e = expressions-are-too-deep turns room f front [] e
expression-stops room f front (t ∷ ts) stops.Depth e = (depth-begins-expressions turns room f front ts t e, expressions-are-too-deep turns room f front (t ∷ ts) e)
expression-stops room f front [] stops.Syntax e = no-expression-goes-on turns room f front [] stops.Syntax e tt
expression-stops room f front (t ∷ ts) stops.Syntax e = (no-expression-goes-on turns room f front (t ∷ ts) stops.Syntax e tt, expressions-reported turns room f front ts t stops.Syntax e)
expression-stops room f front [] (stops.Lexical kind) e = no-expression-goes-on turns room f front [] (stops.Lexical kind) e tt
expression-stops room f front (t ∷ ts) (stops.Lexical kind) e = (no-expression-goes-on turns room f front (t ∷ ts) (stops.Lexical kind) e tt, expressions-reported turns room f front ts t (stops.Lexical kind) e)
expression-stops room f front [] (stops.Outside rule) e = no-expression-goes-on turns room f front [] (stops.Outside rule) e tt
expression-stops room f front (t ∷ ts) (stops.Outside rule) e = (no-expression-goes-on turns room f front (t ∷ ts) (stops.Outside rule) e tt, expressions-reported turns room f front ts t (stops.Outside rule) e)

pub expression-faults : (room : ℕ) (f : Flags) (tokens : List Token) (from : ℕ) (r : Result (Expression × ℕ) ParseFault) → ExpressionAnswer room f tokens from r → IfErr r (IsExpressionFault room f tokens from)
expression-faults room f tokens from = faults-in (λ (r : Reading). r.value) (BeginsExpression f) (FewAreOpen room open_in_expression (BeginWithExpression f)) (IsStopAt room open_in_expression (BeginsExpression f) (BeginWithExpression f)) (sequence (inner room) f) (sequence-leaves room f)
    (expressions-begin turns room f) (expressions-pass-none turns room f) (expression-stops room f) tokens from

-- ## Statements

abbrev StatementAnswer : ℕ → Flags → List Token → ℕ → Result (Statement × ℕ) ParseFault → Type 0
StatementAnswer room f tokens from r = Answers (λ (s : Statement). s) tokens (statement (inner room) f Listed (input_at tokens from)) r

pub statement-spelled : (room : ℕ) (f : Flags) (tokens : List Token) (from : ℕ) (r : Result (Statement × ℕ) ParseFault) → StatementAnswer room f tokens from r → IfOk r (IsStatementIn f tokens from)
statement-spelled room f tokens from = spelled-in (λ (s : Statement). s) tokens from (statement (inner room) f Listed) (λ s ts rest. SpellsStatement f ts s rest) (λ x c e. statement-spelled-by turns room f (drop from tokens) x c e)

pub statement-shallow : (room : ℕ) (f : Flags) (tokens : List Token) (from : ℕ) (r : Result (Statement × ℕ) ParseFault) → StatementAnswer room f tokens from r → IfOk r (IsShallow room open_in_statement tokens from)
statement-shallow room f tokens from = shallow-in (λ (s : Statement). s) tokens from (statement (inner room) f Listed) room open_in_statement (statements-are-shallow turns room f Listed)

pub statement-only : (room : ℕ) (f : Flags) (tokens : List Token) (from : ℕ) (r : Result (Statement × ℕ) ParseFault) → StatementAnswer room f tokens from r → IfOk r (IsTheOnly (IsStatementBefore f (drop from tokens)) tokens)
statement-only room f tokens from = only-in (λ (s : Statement). s) tokens from (statement (inner room) f Listed) (IsStatementBefore f (drop from tokens)) (λ x rest b. spelled-statements turns room f (drop from tokens) rest x b)

statement-leaves : (room : ℕ) (f : Flags) (s : Input) → Leaves s.tokens (statement (inner room) f Listed s)
unfolding readers
statement-leaves room f s = (placed true turns (suc room)).statement f Listed s

statement-stops : (room : ℕ) (f : Flags) (front rest : List Token) (stop : Stop) → statement (inner room) f Listed (record { tokens = map read (front ++ rest); last = 0 }) ≡ Fault stop (map read rest) → IsStopAt room open_in_statement (BeginsStatement f) (BeginWithStatement f) stop front rest
statement-stops room f front rest stops.Endless e = tt
statement-stops room f front [] stops.Depth e = statements-are-too-deep turns room f front [] e
statement-stops room f front (t ∷ ts) stops.Depth e = (depth-begins-statements turns room f front ts t e, statements-are-too-deep turns room f front (t ∷ ts) e)
statement-stops room f front [] stops.Syntax e = no-statement-goes-on turns room f front [] stops.Syntax e tt
statement-stops room f front (t ∷ ts) stops.Syntax e = (no-statement-goes-on turns room f front (t ∷ ts) stops.Syntax e tt, statements-reported turns room f front ts t stops.Syntax e)
statement-stops room f front [] (stops.Lexical kind) e = no-statement-goes-on turns room f front [] (stops.Lexical kind) e tt
statement-stops room f front (t ∷ ts) (stops.Lexical kind) e = (no-statement-goes-on turns room f front (t ∷ ts) (stops.Lexical kind) e tt, statements-reported turns room f front ts t (stops.Lexical kind) e)
statement-stops room f front [] (stops.Outside rule) e = no-statement-goes-on turns room f front [] (stops.Outside rule) e tt
statement-stops room f front (t ∷ ts) (stops.Outside rule) e = (no-statement-goes-on turns room f front (t ∷ ts) (stops.Outside rule) e tt, statements-reported turns room f front ts t (stops.Outside rule) e)

pub statement-faults : (room : ℕ) (f : Flags) (tokens : List Token) (from : ℕ) (r : Result (Statement × ℕ) ParseFault) → StatementAnswer room f tokens from r → IfErr r (IsStatementFault room f tokens from)
statement-faults room f tokens from = faults-in (λ (s : Statement). s) (BeginsStatement f) (FewAreOpen room open_in_statement (BeginWithStatement f)) (IsStopAt room open_in_statement (BeginsStatement f) (BeginWithStatement f)) (statement (inner room) f Listed) (statement-leaves room f)
    (statements-begin turns room f) (statements-pass-none turns room f) (statement-stops room f) tokens from

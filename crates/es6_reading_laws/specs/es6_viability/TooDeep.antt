-- What a fault for depth means: more constructs are open at its token than may be.
use Rattle.std.specs.Prelude.{◌≡◌, ℕ, suc, ◌+◌, ◌<◌, ◌≤◌, ◌⊎◌, true, List, [], ◌∷◌, ◌++◌, length, map, codes, count_by}
use Rattle.es_text.specs.declared.Span.{Span}
use Rattle.es6_lexer.specs.declared.token.LexicalKind.{LexicalKind}
use Rattle.es6_lexer.specs.declared.token.Token.{Token}
use Rattle.es6_lexer.specs.declared.token.TokenKind.{TokenKind}
use Rattle.es6_lexer.specs.declared.token.TokenKind.TheVariants.{Word, Punctuator, Number, End}
use Rattle.es6_lexer.specs.declared.token.NumberToken.TheVariants.{TooLarge, Marked}
use Rattle.es6_lexer.specs.declared.token.Punctuator.TheVariants.{Slash, SlashAssign}
use Rattle.es6_ast.specs.declared.module.Module.{Module}
use Rattle.es6_ast.specs.declared.settings.Flags.{Flags}
use Rattle.es6_ast.specs.declared.settings.Stand.{Stand}
use Rattle.es6_ast.specs.declared.settings.Stand.TheVariants.{Listed}
use Rattle.es6_ast.specs.declared.settings.Stop.{Stop}
use Rattle.es6_ast.specs.declared.settings.Stop.TheVariants.{Depth, Endless, Lexical, Syntax}
use Rattle.es6_ast.specs.declared.tree.Expression.{Expression}
use Rattle.es6_ast.specs.declared.tree.Statement.{Statement}
use Rattle.es6_ast.specs.Dead.{AreInOrder, IsDead, IsStop, IsTooDeep, StopsAt}
use Rattle.es6_ast.specs.Depth.{begin_of_last, expression_spans, is_around, open_constructs, open_groups, statement_spans}
use Rattle.es6_ast.specs.Semicolons.{SpellsModule}
use Rattle.es6_ast.specs.Tokens.{Filled, begin_of, read}
use Rattle.es6_reading.specs.Expressions.{sequence}
use Rattle.es6_reading.specs.Laws.{IsFinal}
use Rattle.es6_reading.specs.Modules.{read_module, readers, whole_module}
use Rattle.es6_reading.specs.Parser.{Input, Outcome, Parser, Reading, Took, Fault}
use Rattle.es6_reading.specs.Statements.{statement}
use Rattle.es6_reading_laws.specs.es6_viability.Fronts.{BeginWithExpression, BeginWithStatement}

-- These are tokens as those of a text: one behind the other, of which the last is the end of the text, and none but that is empty.
pub record AreOfText (tokens : List Token) : Type 0 where
  pub before : List Token
  pub last : Token
  pub whole : tokens ≡ before ++ last ∷ []
  pub ends : last.kind ≡ End
  pub placed : AreInOrder tokens

-- how many constructs are open at the last of the tokens, with which what has these spans of constructs begins
abbrev pub open_in : List Token → List Span → ℕ
open_in tokens spans = open_groups 0 tokens + count_by (is_around (begin_of_last tokens)) spans

-- how many constructs are open at the last of the tokens in an expression, a statement or a module that begins with them
abbrev pub open_in_expression : Expression → List Token → ℕ
open_in_expression x tokens = open_in tokens (expression_spans x)

abbrev pub open_in_statement : Statement → List Token → ℕ
open_in_statement s tokens = open_in tokens (statement_spans s)

abbrev pub open_in_module : Module → List Token → ℕ
open_in_module m tokens = open_constructs tokens m

-- More than `room` constructs are open at the token behind the front, in whatever tokens of a text spell that begin with those up to it;
-- where there is none, the front spells nothing.
abbrev pub TooManyOpen : {A : Type 0} → ℕ → (A → List Token → ℕ) → (List Token → A → Type 0) → List Token → List Token → Type 0
TooManyOpen {A = A} room count Spell front [] = AreOfText front → (x : A) → Spell front x → ⊥
TooManyOpen {A = A} room count Spell front (t ∷ ts) = (others : List Token) → AreOfText (front ++ t ∷ others) → (x : A) → Spell (front ++ t ∷ others) x → room < count x (front ++ t ∷ [])

-- A reader stops for depth only at such a token.
abbrev pub StopsWhereTooManyAreOpen : {A B : Type 0} → ℕ → (A → List Token → ℕ) → (List Token → A → Type 0) → Parser B → Type 0
StopsWhereTooManyAreOpen room count Spell p = (front rest : List Token) → p (record { tokens = map read (front ++ rest); last = 0 }) ≡ Fault Depth (map read rest) → TooManyOpen room count Spell front rest

-- So do the readers of an expression, of a statement or declaration, and of a module, of which `room` more constructs may be open.
abbrev pub ExpressionsAreTooDeep : Type 0
ExpressionsAreTooDeep = (fuel room : ℕ) (f : Flags) → StopsWhereTooManyAreOpen room open_in_expression (BeginWithExpression f) (sequence (readers true fuel room) f)

abbrev pub StatementsAreTooDeep : Type 0
StatementsAreTooDeep = (fuel room : ℕ) (f : Flags) → StopsWhereTooManyAreOpen room open_in_statement (BeginWithStatement f) (statement (readers true fuel room) f Listed)

abbrev pub ModulesAreTooDeep : Type 0
ModulesAreTooDeep = (fuel room : ℕ) → StopsWhereTooManyAreOpen room open_in_module SpellsModule (whole_module (readers true fuel room))

-- At each token that a reader takes of tokens of a text, at most `room` constructs are open in what it gives.
abbrev pub IsShallowIn : {A : Type 0} → ℕ → (A → List Token → ℕ) → Parser A → Type 0
IsShallowIn {A = A} room count p = (tokens : List Token) → AreOfText tokens → (x : A) (after : Input) → p (record { tokens = map read tokens; last = 0 }) ≡ Took x after
    → (front behind : List Token) (t : Token) → tokens ≡ front ++ t ∷ behind → length after.tokens ≤ length behind → count x (front ++ t ∷ []) ≤ room

abbrev pub ExpressionsAreShallow : Type 0
ExpressionsAreShallow = (fuel room : ℕ) (f : Flags) → IsShallowIn room (λ (x : Reading). open_in_expression x.value) (sequence (readers true fuel room) f)

abbrev pub StatementsAreShallow : Type 0
StatementsAreShallow = (fuel room : ℕ) (f : Flags) (stand : Stand) → IsShallowIn room open_in_statement (statement (readers true fuel room) f stand)

-- A reader passes a token, behind which so many are left: it takes that one, and what it stops for behind it isn't want of turns.
abbrev pub Passes : {A : Type 0} → ℕ → Outcome A → Type 0
Passes behind (Took x after) = length after.tokens ≤ behind
Passes behind (Fault stop rest) = (stop ≡ Endless → ⊥) × (length rest ≤ behind)

-- At most `room` constructs are open at the token behind the front, in whatever tokens of a text spell that begin with those up to it.
abbrev pub FewAreOpen : {A : Type 0} → ℕ → (A → List Token → ℕ) → (List Token → A → Type 0) → List Token → Token → Type 0
FewAreOpen {A = A} room count Spell front t = (others : List Token) → AreOfText (front ++ t ∷ others) → (x : A) → Spell (front ++ t ∷ others) x → count x (front ++ t ∷ []) ≤ room

-- So it is at each token that a reader passes.
abbrev pub PassesWhereFewAreOpen : {A B : Type 0} → ℕ → (A → List Token → ℕ) → (List Token → A → Type 0) → Parser B → Type 0
PassesWhereFewAreOpen room count Spell p = (front behind : List Token) (t : Token) → Passes (length behind) (p (record { tokens = map read (front ++ t ∷ behind); last = 0 })) → FewAreOpen room count Spell front t

abbrev pub ExpressionsPassNoDeepToken : Type 0
ExpressionsPassNoDeepToken = (fuel room : ℕ) (f : Flags) → PassesWhereFewAreOpen room open_in_expression (BeginWithExpression f) (sequence (readers true fuel room) f)

abbrev pub StatementsPassNoDeepToken : Type 0
StatementsPassNoDeepToken = (fuel room : ℕ) (f : Flags) → PassesWhereFewAreOpen room open_in_statement (BeginWithStatement f) (statement (readers true fuel room) f Listed)

-- So no token that a reader of a module passes is too deep.
abbrev pub NoDeepTokenIsPassed : Type 0
NoDeepTokenIsPassed = (fuel : ℕ) (tokens : List Token) (p behind : ℕ) → p + suc behind ≡ length tokens → Passes behind (read_module fuel (map read tokens)) → IsTooDeep tokens p → ⊥

-- So no token before a fault, but one for want of turns, is one at which a reader is to stop, dead or too deep, and none of a module that
-- is read.
abbrev pub NoStopIsPassed : Type 0
NoStopIsPassed = (fuel : ℕ) (tokens : List Token) (stop : Stop) (rest : List Filled) → read_module fuel (map read tokens) ≡ Fault stop rest → (stop ≡ Endless → ⊥) → (p : ℕ) → p + length rest < length tokens → (IsDead tokens p ⊎ IsTooDeep tokens p) → ⊥

abbrev pub ReadModulesHaveNoStop : Type 0
ReadModulesHaveNoStop = (fuel : ℕ) (tokens : List Token) (m : Module) (after : Input) → read_module fuel (map read tokens) ≡ Took m after → (p : ℕ) → p < length tokens → (IsDead tokens p ⊎ IsTooDeep tokens p) → ⊥

-- So a fault, but one for depth or for want of turns, stands at the first token at which a reader is to stop, and a lexical one is
-- reported there as the definition has it.
abbrev pub FaultsStandAtStops : Type 0
FaultsStandAtStops = (fuel : ℕ) (tokens : List Token) (stop : Stop) (rest : List Filled) → read_module fuel (map read tokens) ≡ Fault stop rest → IsFinal stop → (p : ℕ) → p + length rest ≡ length tokens → p < length tokens → IsStop tokens p

abbrev pub LexicalFaultsAreStops : Type 0
LexicalFaultsAreStops = (fuel : ℕ) (tokens : List Token) (kind : LexicalKind) (rest : List Filled) → read_module fuel (map read tokens) ≡ Fault (Lexical kind) rest → StopsAt tokens (begin_of rest) (Lexical kind)

-- And so does one for depth, of tokens in order, if the token isn't empty, as only the last of a text is.
abbrev pub DepthFaultsAreStops : Type 0
DepthFaultsAreStops = (fuel : ℕ) (front behind : List Token) (t : Token) → read_module fuel (map read (front ++ t ∷ behind)) ≡ Fault Depth (map read (t ∷ behind)) → AreInOrder (front ++ t ∷ behind) → t.span.begin < t.span.end → StopsAt (front ++ t ∷ behind) t.span.begin Depth

abbrev pub DepthFaultsStandBeforeTheEnd : Type 0
DepthFaultsStandBeforeTheEnd = (fuel : ℕ) (front behind : List Token) (t : Token) → read_module fuel (map read (front ++ t ∷ behind)) ≡ Fault Depth (map read (t ∷ behind)) → t.kind ≡ End → ⊥

-- the kinds of tokens of which a construct outside the profile is reported (6th edition, 11.8.3, 11.8.5, 13.7.5, 13.11)
pub data TellsOutside : TokenKind → Type 0 where
  in_ : TellsOutside (Word (codes "in"))
  slash : TellsOutside (Punctuator Slash)
  slash_assign : TellsOutside (Punctuator SlashAssign)
  marked : TellsOutside (Number Marked)
  too_large : TellsOutside (Number TooLarge)
  with_ : TellsOutside (Word (codes "with"))

-- And so does a syntax fault at any other token.
abbrev pub SyntaxFaultsAreStops : Type 0
SyntaxFaultsAreStops = (fuel : ℕ) (front behind : List Token) (t : Token) → read_module fuel (map read (front ++ t ∷ behind)) ≡ Fault Syntax (map read (t ∷ behind)) → (TellsOutside t.kind → ⊥) → StopsAt (front ++ t ∷ behind) t.span.begin Syntax

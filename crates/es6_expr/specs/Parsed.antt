-- What is answered for tokens, by what the model reads of them.
use Rattle.std.specs.Prelude.{◌≡◌, ℕ, ◌+◌, ◌-◌, ◌<◌, ◌≤◌, not, List, [], ◌∷◌, ◌++◌, drop, length, map, Result, Ok, Err}
use Rattle.es6_lexer.specs.declared.token.Token.{Token}
use Rattle.es6_ast.specs.declared.tree.Expression.{Expression}
use Rattle.es6_ast.specs.declared.tree.Statement.{Statement}
use Rattle.es6_ast.specs.declared.settings.Flags.{Flags}
use Rattle.es6_ast.specs.declared.settings.Stop.{Stop}
use Rattle.es6_ast.specs.declared.settings.Stop.TheVariants as stops
use Rattle.es6_ast.specs.Tokens.{Filled, read}
use Rattle.es6_ast.specs.Grammar.{level_sequence}
use Rattle.es6_ast.specs.Semicolons.{SpellsExpression, SpellsStatement}
use Rattle.es6_reading.specs.Parser.{Input, Outcome, Took, Fault}
use Rattle.es6_reading.specs.Laws.{Says}
use Rattle.es6_reading_laws.specs.es6_viability.Alive.{BeginsExpression, BeginsStatement}
use Rattle.es6_reading_laws.specs.es6_viability.Fronts.{BeginWithExpression, BeginWithStatement, NoneGoesOn}
use Rattle.es6_reading_laws.specs.es6_viability.TooDeep.{AreOfText, FewAreOpen, TooManyOpen, open_in_expression, open_in_statement}
use Rattle.es6_reading_laws.specs.es6_outside_laws.Reported.{ReportsIn}
use Rattle.es6_expr.specs.declared.fault.ParseFault.{ParseFault}
use Rattle.es6_expr.specs.declared.fault.ParseFault.TheVariants.{Syntax, Lexical, Outside, Depth, OutOfMemory}
use Rattle.es6_expr.specs.declared.parse.Context.{Context}
use Rattle.es6_expr.specs.Faults.{fault_of, place_of}

abbrev pub flags_in : Context → Flags
flags_in context = record { has_in = not context.no_in; has_yield = context.in_generator; has_return = context.in_function }

-- the tokens from the number on
abbrev pub input_at : List Token → ℕ → Input
input_at tokens from = record { tokens = map read (drop from tokens); last = 0 }

-- the model takes what the value is made of, and as many tokens are left behind it
pub data Gives {A B : Type 0} (made : A → B) (tokens : List Token) (outcome : Outcome A) (x : B) (at : ℕ) : Type 0 where
  took : (y : A) (c : Input) → outcome ≡ Took y c → x ≡ made y → at ≡ length tokens - length c.tokens → Gives made tokens outcome x at

-- Memory that runs out says nothing.
pub data Refuses {A : Type 0} (tokens : List Token) (outcome : Outcome A) (fault : ParseFault) : Type 0 where
  out_of_memory : fault ≡ OutOfMemory → Refuses tokens outcome fault
  stopped : (stop : Stop) (rest : List Filled) → outcome ≡ Fault stop rest → fault ≡ fault_of stop (place_of (map read tokens) rest) → Refuses tokens outcome fault

abbrev pub Answers : {A B : Type 0} → (A → B) → List Token → Outcome A → Result (B × ℕ) ParseFault → Type 0
Answers made tokens outcome (Ok r) = Gives made tokens outcome r.0 r.1
Answers made tokens outcome (Err fault) = Refuses tokens outcome fault

-- The tokens from the one number on, up to the other, are exactly those that spell it.
abbrev pub IsExpressionIn : Flags → List Token → ℕ → Expression × ℕ → Type 0
IsExpressionIn f tokens from r = (r.1 ≤ length tokens) × SpellsExpression f level_sequence (drop from tokens) r.0 (drop r.1 tokens)

abbrev pub IsStatementIn : Flags → List Token → ℕ → Statement × ℕ → Type 0
IsStatementIn f tokens from r = (r.1 ≤ length tokens) × SpellsStatement f (drop from tokens) r.0 (drop r.1 tokens)

-- At each of these tokens, where they are of a text, no more constructs are open in what is answered than may be.
abbrev pub IsShallow : {A : Type 0} → ℕ → (A → List Token → ℕ) → List Token → ℕ → A × ℕ → Type 0
IsShallow room count tokens from r = AreOfText (drop from tokens) → (front behind : List Token) (t : Token) → drop from tokens ≡ front ++ t ∷ behind → from + length front < r.1 → count r.0 (front ++ t ∷ []) ≤ room

-- That one alone is answered, with the number of the token behind it: neither a shorter front of the tokens nor a longer one.
abbrev pub IsTheOnly : {A : Type 0} → (A → List Token → Type 0) → List Token → A × ℕ → Type 0
IsTheOnly {A = A} Begins tokens r = (x : A) (rest : List Token) → Begins x rest → (r.0 ≡ x) × (r.1 ≡ length tokens - length rest)

-- What the stop says of the first of the other tokens: for the depth that something begins with those up to it, and that more than
-- `room` constructs are open there in whatever tokens of a text begin with that begin so; otherwise that nothing goes on with it, and
-- that it is what is reported there, a construct outside the profile or, where there is none, a syntax fault.
abbrev pub IsStopAt : {A : Type 0} → ℕ → (A → List Token → ℕ) → (List Token → Type 0) → (List Token → A → Type 0) → Stop → List Token → List Token → Type 0
IsStopAt room count Begins Spell stops.Endless front rest = Unit {0}
IsStopAt room count Begins Spell stops.Depth front [] = TooManyOpen room count Spell front []
IsStopAt room count Begins Spell stops.Depth front (t ∷ ts) = Begins (front ++ t ∷ []) × TooManyOpen room count Spell front (t ∷ ts)
IsStopAt room count Begins Spell stop front [] = NoneGoesOn Spell front []
IsStopAt room count Begins Spell stop front (t ∷ ts) = NoneGoesOn Spell front (t ∷ ts) × ReportsIn Begins front t stop

-- The place is the begin of a token from the number on, or the end of all. Something begins with the tokens up to there, at each of
-- which few constructs are open, and what is said of those from there on is so.
pub record Stands (Begins : List Token → Type 0) (Few : List Token → Token → Type 0) (Stops : Stop → List Token → List Token → Type 0) (tokens : List Token) (from : ℕ) (stop : Stop) (at : ℕ) : Type 0 where
  pub front : List Token
  pub rest : List Token
  pub parts : drop from tokens ≡ front ++ rest
  pub place : at ≡ place_of (map read tokens) (map read rest)
  pub begins : Begins front
  pub few : (before behind : List Token) (t : Token) → front ≡ before ++ t ∷ behind → Few before t
  pub stops : Stops stop front rest
  pub says : Says stop (map read rest)

-- Memory that runs out says nothing.
abbrev pub IsFaultIn : (List Token → Type 0) → (List Token → Token → Type 0) → (Stop → List Token → List Token → Type 0) → List Token → ℕ → ParseFault → Type 0
IsFaultIn Begins Few Stops tokens from (Syntax at) = Stands Begins Few Stops tokens from stops.Syntax at
IsFaultIn Begins Few Stops tokens from (Lexical at kind) = Stands Begins Few Stops tokens from (stops.Lexical kind) at
IsFaultIn Begins Few Stops tokens from (Outside rule at) = Stands Begins Few Stops tokens from (stops.Outside rule) at
IsFaultIn Begins Few Stops tokens from (Depth at) = Stands Begins Few Stops tokens from stops.Depth at
IsFaultIn Begins Few Stops tokens from OutOfMemory = Unit {0}

-- a fault of an expression, of which `room` more constructs may be open, and of a statement or declaration: no more are open at a
-- token before it, in whatever tokens of a text begin with that begin so
abbrev pub IsExpressionFault : ℕ → Flags → List Token → ℕ → ParseFault → Type 0
IsExpressionFault room f = IsFaultIn (BeginsExpression f) (FewAreOpen room open_in_expression (BeginWithExpression f)) (IsStopAt room open_in_expression (BeginsExpression f) (BeginWithExpression f))

abbrev pub IsStatementFault : ℕ → Flags → List Token → ℕ → ParseFault → Type 0
IsStatementFault room f = IsFaultIn (BeginsStatement f) (FewAreOpen room open_in_statement (BeginWithStatement f)) (IsStopAt room open_in_statement (BeginsStatement f) (BeginWithStatement f))

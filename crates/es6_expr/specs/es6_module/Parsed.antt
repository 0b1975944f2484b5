-- What is answered for the tokens of a text.
use Rattle.std.specs.Prelude.{◌≡◌, ℕ, ◌+◌, ◌<◌, ◌≤◌, ◌⊎◌, List, [], ◌∷◌, ◌++◌, length, map, take, Result, Ok, Err}
use Rattle.es6_lexer.specs.declared.token.Token.{Token}
use Rattle.es6_lexer.specs.declared.token.TokenKind.TheVariants.{End}
use Rattle.es6_ast.specs.declared.module.Module.{Module}
use Rattle.es6_ast.specs.declared.settings.Stop.{Stop}
use Rattle.es6_ast.specs.declared.settings.Stop.TheVariants as stops
use Rattle.es6_ast.specs.Dead.{AreInOrder, IsAlive, IsDead, IsTooDeep, StopsAt}
use Rattle.es6_ast.specs.Depth.{open_constructs}
use Rattle.es6_ast.specs.Semicolons.{SpellsModule}
use Rattle.es6_ast.specs.Tokens.{Filled, read}
use Rattle.es6_reading.specs.Laws.{BeginAlike, Says}
use Rattle.es6_reading.specs.Modules.{most_open, read_module}
use Rattle.es6_reading.specs.Parser.{Input, Outcome, Took, Fault}
use Rattle.es6_reading_laws.specs.es6_viability.TooDeep.{AreOfText, TooManyOpen, open_in_module}
use Rattle.es6_cursor.specs.Readers.{turns}
use Rattle.es6_expr.specs.declared.fault.ParseFault.{ParseFault}
use Rattle.es6_expr.specs.declared.fault.ParseFault.TheVariants.{OutOfMemory, Syntax, Lexical, Outside, Depth}
use Rattle.es6_expr.specs.Faults.{fault_of, place_of}

-- The tokens spell the module, with the semicolons that are inserted. None of them is dead or too deep, whatever else begins so, and
-- where they stand one behind another, at most 256 of its constructs are open at each of them.
pub record IsParsed (tokens : List Token) (tree : Module) : Type 0 where
  pub spelled : SpellsModule tokens tree
  pub no_stop : (p : ℕ) → p < length tokens → (IsDead tokens p ⊎ IsTooDeep tokens p) → ⊥
  pub shallow : AreInOrder tokens → (p : ℕ) → p < length tokens → open_constructs (take (p + 1) tokens) tree ≤ 256

-- a token at which the reader stops for depth
pub record IsDeepAt (front : List Token) (t : Token) (ts : List Token) : Type 0 where
  pub inner : t.kind ≡ End → ⊥
  pub begun : IsAlive (front ++ t ∷ [])
  pub open_ : TooManyOpen most_open open_in_module SpellsModule front (t ∷ ts)
  pub stop : AreInOrder (front ++ t ∷ ts) → t.span.begin < t.span.end → StopsAt (front ++ t ∷ ts) t.span.begin stops.Depth

-- What the stop says of the token at which it stands: it is what the definition has a reader report there. One for the depth is, if the
-- tokens are in order and that one isn't empty; without that, too, it isn't the end of the text, some module begins with the tokens up to
-- it, and more than 256 constructs are open there in whatever module tokens of a text spell that begin so. At the end no module is spelled.
abbrev pub IsStopAt : List Token → List Token → Stop → Type 0
IsStopAt front rest stops.Endless = Unit {0}
IsStopAt front [] stops.Depth = TooManyOpen most_open open_in_module SpellsModule front []
IsStopAt front (t ∷ ts) stops.Depth = IsDeepAt front t ts
IsStopAt front [] stop = (tree : Module) → SpellsModule front tree → ⊥
IsStopAt front (t ∷ ts) stop = StopsAt (front ++ t ∷ ts) t.span.begin stop

-- The reader stops at the first token of the rest, or at the end of the text. Some module begins with the tokens before it, none of
-- which is dead or too deep. What it reports is what stands there, and rests on no later token: it stops there whatever follows.
pub record IsStopped (tokens : List Token) (stop : Stop) (at : ℕ) : Type 0 where
  pub front : List Token
  pub rest : List Token
  pub parts : tokens ≡ front ++ rest
  pub place : at ≡ place_of (map read tokens) (map read rest)
  pub alive : IsAlive front
  pub first : (p : ℕ) → p < length front → (IsDead tokens p ⊎ IsTooDeep tokens p) → ⊥
  pub stops : IsStopAt front rest stop
  pub says : Says stop (map read rest)
  pub stays : (others : List Token) → BeginAlike (map read rest) (map read others) → read_module turns (map read (front ++ others)) ≡ Fault stop (map read others)

-- Memory that runs out says nothing.
abbrev pub IsFault : List Token → ParseFault → Type 0
IsFault tokens (Syntax at) = IsStopped tokens stops.Syntax at
IsFault tokens (Lexical at kind) = IsStopped tokens (stops.Lexical kind) at
IsFault tokens (Outside rule at) = IsStopped tokens (stops.Outside rule) at
IsFault tokens (Depth at) = IsStopped tokens stops.Depth at
IsFault tokens OutOfMemory = Unit {0}

-- There is a token at which more than 256 constructs are open.
abbrev pub IsDeep : List Token → Module → Type 0
IsDeep tokens tree = (p : ℕ) × (p < length tokens) × (most_open < open_constructs (take (p + 1) tokens) tree)

-- A module that the tokens spell is the one that is answered, unless memory runs out, or it is too deep and the tokens are of a text.
abbrev pub Accepts : List Token → Result Module ParseFault → Type 0
Accepts tokens (Ok tree) = (other : Module) → SpellsModule tokens other → other ≡ tree
Accepts tokens (Err OutOfMemory) = Unit {0}
Accepts tokens (Err (Depth at)) = AreOfText tokens → (tree : Module) → SpellsModule tokens tree → IsDeep tokens tree
Accepts tokens (Err fault) = (tree : Module) → SpellsModule tokens tree → ⊥

-- the fault of what the model doesn't read
pub data Refuses (tokens : List Token) (outcome : Outcome Module) (fault : ParseFault) : Type 0 where
  out_of_memory : fault ≡ OutOfMemory → Refuses tokens outcome fault
  stopped : (stop : Stop) (rest : List Filled) → outcome ≡ Fault stop rest → fault ≡ fault_of stop (place_of (map read tokens) rest) → Refuses tokens outcome fault

-- the answer that goes with what the model reads
abbrev pub Answers : List Token → Outcome Module → Result Module ParseFault → Type 0
Answers tokens outcome (Ok tree) = (after : Input) × (outcome ≡ Took tree after)
Answers tokens outcome (Err fault) = Refuses tokens outcome fault

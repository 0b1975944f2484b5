-- That the model that reads modules reads what the standard's rule for semicolons spells (11.9), and stops where no module goes on.
use Rattle.std.specs.Prelude.{◌≡◌, ℕ, ◌+◌, ◌<◌, ◌≤◌, true, List, ◌++◌, length, map, Some, slice_get}
use Rattle.es6_lexer.specs.declared.token.LexicalKind.{LexicalKind}
use Rattle.es6_lexer.specs.declared.token.Token.{Token}
use Rattle.es6_ast.specs.declared.module.Module.{Module}
use Rattle.es6_ast.specs.Dead.{IsDead, IsReported}
use Rattle.es6_ast.specs.Semicolons.{SpellsModule}
use Rattle.es6_ast.specs.Tokens.{Filled, read}
use Rattle.es6_ast.specs.declared.settings.Stop.{Stop}
use Rattle.es6_ast.specs.declared.settings.Stop.TheVariants.{Lexical}
use Rattle.es6_reading.specs.Laws.{BeginAlike, IsFinal}
use Rattle.es6_reading.specs.Modules.{readers, whole_module, read_module}
use Rattle.es6_reading.specs.Parser.{Input, Outcome, Took, Fault}

-- A module that tokens spell is read exactly so, where loops have turns enough and constructs enough may open.
abbrev pub SpelledModulesAreRead : Type 0
SpelledModulesAreRead = (tokens : List Token) (m : Module) → SpellsModule tokens m
    → (bound : ℕ) × ((fuel room : ℕ) → bound ≤ fuel → bound ≤ room → (after : Input) × (whole_module (readers true fuel room) (record { tokens = map read tokens; last = 0 }) ≡ Took m after))

-- A module that is read is spelled so.
abbrev pub ReadModulesAreSpelled : Type 0
ReadModulesAreSpelled = (fuel room : ℕ) (tokens : List Token) (m : Module) (after : Input) → whole_module (readers true fuel room) (record { tokens = map read tokens; last = 0 }) ≡ Took m after → SpellsModule tokens m

-- the module is what is read, or a limit of the reader stops it
abbrev pub IsReadAs : Module → Outcome Module → Type 0
IsReadAs m (Took n after) = n ≡ m
IsReadAs m (Fault stop rest) = IsFinal stop → ⊥

-- So whatever the turns, a module that tokens spell is read, or the reader stops for want of constructs that may open or of turns.
abbrev pub SpelledModulesAreReadOrLimited : Type 0
SpelledModulesAreReadOrLimited = (fuel : ℕ) (tokens : List Token) (m : Module) → SpellsModule tokens m → IsReadAs m (read_module fuel (map read tokens))

-- A fault, but one for want of constructs that may open or of turns, says that no tokens spell a module that are the same up to the
-- one at which it stands, or to the end where it stands there.
abbrev pub NoneIsSpelledPastFaults : Type 0
NoneIsSpelledPastFaults = (fuel : ℕ) (tokens : List Token) (stop : Stop) (rest : List Filled) → read_module fuel (map read tokens) ≡ Fault stop rest → IsFinal stop
    → (front behind : List Token) → tokens ≡ front ++ behind → map read behind ≡ rest → (others : List Token) → BeginAlike rest (map read others) → (m : Module) → SpellsModule (front ++ others) m → ⊥

-- So the token at which it stands is dead.
abbrev pub FaultsAreDead : Type 0
FaultsAreDead = (fuel : ℕ) (tokens : List Token) (stop : Stop) (rest : List Filled) → read_module fuel (map read tokens) ≡ Fault stop rest → IsFinal stop → (p : ℕ) → p + length rest ≡ length tokens → p < length tokens → IsDead tokens p

-- A lexical fault is reported at a token that is one, and dead.
abbrev pub LexicalFaultsAreReported : Type 0
LexicalFaultsAreReported = (fuel : ℕ) (tokens : List Token) (kind : LexicalKind) (rest : List Filled) → read_module fuel (map read tokens) ≡ Fault (Lexical kind) rest
    → (p : ℕ) (t : Token) → p + length rest ≡ length tokens → slice_get tokens p ≡ Some t → IsReported tokens p t (Lexical kind)

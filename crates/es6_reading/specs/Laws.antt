-- What is proved of the model, in the grammar's terms.
use Rattle.std.specs.Prelude.{◌≡◌, ℕ, ◌+◌, ◌<◌, ◌≤◌, ◌⊎◌, Bool, true, false, List, [], ◌∷◌, ◌++◌, length, map, take, codes}
use Rattle.es6_lexer.specs.declared.token.Token.{Token}
use Rattle.es6_lexer.specs.declared.token.TokenKind.TheVariants as kinds
use Rattle.es6_lexer.specs.declared.token.NumberToken.TheVariants.{TooLarge, Marked}
use Rattle.es6_lexer.specs.declared.token.LexicalKind.{LexicalKind}
use Rattle.es6_lexer.specs.declared.token.Punctuator.TheVariants.{Slash, SlashAssign}
use Rattle.es6_lexer.specs.Lexes.{Lexes}
use Rattle.es6_ast.specs.declared.module.Module.{Module}
use Rattle.es6_ast.specs.declared.module.Item.{Item}
use Rattle.es6_ast.specs.declared.module.Item.TheVariants as item
use Rattle.es6_ast.specs.declared.settings.Stop.{Stop}
use Rattle.es6_ast.specs.declared.settings.Stop.TheVariants.{Syntax, Lexical, Outside, Depth, Endless}
use Rattle.es6_ast.specs.Tokens.{Filling, Read, Filled, read}
use Rattle.es6_ast.specs.Modules.{IsItem, IsModule}
use Rattle.es6_ast.specs.Semicolons.{Fills, SpellsModule}
use Rattle.es6_ast.specs.Depth.{open_constructs}
use Rattle.es6_ast.specs.Dead.{AreInOrder}
use Rattle.es6_reading.specs.Parser.{Input, Took, Fault}
use Rattle.es6_reading.specs.Modules.{readers, one_item, whole_module, most_open, read_module}

-- Without inserted semicolons: a module that is read is derived from all of the tokens, with its spans.
abbrev pub IsSound : Type 0
IsSound = (fuel room : ℕ) (tokens : List Filled) (last : ℕ) (m : Module) (after : Input) → whole_module (readers false fuel room) (record { tokens = tokens; last = last }) ≡ Took m after → IsModule tokens m

-- Without inserted semicolons: a module that the grammar derives is read exactly so, where loops have turns enough and constructs
-- enough may open.
abbrev pub IsComplete : Type 0
IsComplete = (tokens : List Filled) (m : Module) → IsModule tokens m
    → (bound : ℕ) × ((fuel room last : ℕ) → bound ≤ fuel → bound ≤ room → (after : Input) × (whole_module (readers false fuel room) (record { tokens = tokens; last = last }) ≡ Took m after))

-- No tokens derive two modules, where every semicolon stands among them.
abbrev pub IsUnambiguous : Type 0
IsUnambiguous = (tokens : List Filled) (m n : Module) → IsModule tokens m → IsModule tokens n → m ≡ n

-- A fault stands at one of the tokens, or at the end.
abbrev pub FaultsAreInside : Type 0
FaultsAreInside = (fuel : ℕ) (tokens : List Filled) (stop : Stop) (rest : List Filled) → read_module fuel tokens ≡ Fault stop rest → (front : List Filled) × (tokens ≡ front ++ rest)

-- the tokens begin with one of the kind
abbrev pub BeginWith : Filling → List Filled → Type 0
BeginWith k [] = ⊥
BeginWith k (t ∷ ts) = t.kind ≡ k

-- The construct outside the profile that begins or is meant with the first of the tokens: for-in, a regular expression, a number
-- with a point or an exponent, a number above 9007199254740991, and `with` (6th edition, 11.8.3, 11.8.5, 13.7.5, 13.11).
pub data IsOutsideAt (rest : List Filled) : ℕ → Type 0 where
  for_in : BeginWith (Read (kinds.Word (codes "in"))) rest → IsOutsideAt rest 1
  regular_expression : BeginWith (Read (kinds.Punctuator Slash)) rest ⊎ BeginWith (Read (kinds.Punctuator SlashAssign)) rest → IsOutsideAt rest 2
  marked_number : BeginWith (Read (kinds.Number Marked)) rest → IsOutsideAt rest 3
  large_number : BeginWith (Read (kinds.Number TooLarge)) rest → IsOutsideAt rest 4
  with : BeginWith (Read (kinds.Word (codes "with"))) rest → IsOutsideAt rest 5

-- What a fault says of the tokens from it on. It is a lexical one of a kind exactly where a lexical fault of this kind stands,
-- unless too many constructs are open or a loop's turns are used up.
abbrev pub Says : Stop → List Filled → Type 0
Says Syntax rest = (kind : LexicalKind) → BeginWith (Read (kinds.Fault kind)) rest → ⊥
Says (Lexical kind) rest = BeginWith (Read (kinds.Fault kind)) rest
Says (Outside rule) rest = (1 ≤ rule) × (rule ≤ 5) × IsOutsideAt rest rule
Says Depth rest = Unit {0}
Says Endless rest = Unit {0}

abbrev pub FaultsSayWhatStandsThere : Type 0
FaultsSayWhatStandsThere = (fuel : ℕ) (tokens : List Filled) (stop : Stop) (rest : List Filled) → read_module fuel tokens ≡ Fault stop rest → Says stop rest

-- A module is read of the tokens without inserting semicolons, with more turns for each loop and more constructs open.
abbrev pub IsReadAlone : ℕ → ℕ → List Filled → Type 0
IsReadAlone fuel room tokens = (more : ℕ) × (m : Module) × (after : Input) × (whole_module (readers false (fuel + more) (room + more)) (record { tokens = tokens; last = 0 }) ≡ Took m after)

-- With inserted semicolons: the module is derived from the tokens with the semicolons put in. One of them stands only before a
-- token with which no module goes on that is read without inserting any.
pub record InsertedReading (fuel : ℕ) (tokens : List Token) (m : Module) : Type 0 where
  pub filled : List Filled
  pub fills : Fills (IsReadAlone fuel most_open) [] tokens filled []
  pub derived : IsModule filled m

abbrev pub IsInserted : Type 0
IsInserted = (fuel : ℕ) (tokens : List Token) (m : Module) (after : Input) → read_module fuel (map read tokens) ≡ Took m after → InsertedReading fuel tokens m

-- With inserted semicolons: a module that is read is spelled by the tokens.
abbrev pub AreSpelled : Type 0
AreSpelled = (fuel : ℕ) (tokens : List Token) (m : Module) (after : Input) → read_module fuel (map read tokens) ≡ Took m after → SpellsModule tokens m

-- The tokens of a text stand one behind the other, and none but the last is empty.
abbrev pub StandInOrder : Type 0
StandInOrder = (text : List ℕ) (tokens : List Token) → Lexes text tokens → AreInOrder tokens

-- At each token of a module that is read, at most 256 of its constructs are open, where the tokens stand one behind another.
abbrev pub AreShallow : Type 0
AreShallow = (fuel : ℕ) (tokens : List Token) (m : Module) (after : Input) → AreInOrder tokens → read_module fuel (map read tokens) ≡ Took m after → (p : ℕ) → p < length tokens → open_constructs (take (p + 1) tokens) m ≤ 256

-- No tokens spell two modules.
abbrev pub IsUnique : Type 0
IsUnique = (tokens : List Token) (m n : Module) → SpellsModule tokens m → SpellsModule tokens n → m ≡ n

-- an import, or an export of names (15.2.2, 15.2.3)
abbrev pub IsLink : Item → Type 0
IsLink (item.Import span default_ names specifier) = Unit {0}
IsLink (item.ExportNames span names specifier) = Unit {0}
IsLink (item.ExportAll span specifier) = Unit {0}
IsLink x = ⊥

-- Without inserted semicolons: such an item that is derived is read exactly so, whatever follows it, where loops have turns enough
-- and constructs enough may open.
abbrev pub LinksAreRead : Type 0
LinksAreRead = (tokens us : List Filled) (x : Item) → IsItem tokens x us → IsLink x
    → (bound : ℕ) × ((fuel room last : ℕ) → bound ≤ fuel → bound ≤ room → (end : ℕ) × (one_item (readers false fuel room) (record { tokens = tokens; last = last }) ≡ Took x (record { tokens = us; last = end })))

-- the tokens begin with the same one, or both have none
abbrev pub BeginAlike : List Filled → List Filled → Type 0
BeginAlike [] us = us ≡ []
BeginAlike (t ∷ ts) us = (rest : List Filled) × (us ≡ t ∷ rest)

-- A fault rests on the tokens up to the one that it stands at, and on none behind it: it stands there whatever follows.
abbrev pub FaultsAreLocal : Type 0
FaultsAreLocal = (inserting : Bool) (fuel room : ℕ) (tokens : List Filled) (last : ℕ) (stop : Stop) (rest : List Filled)
    → whole_module (readers inserting fuel room) (record { tokens = tokens; last = last }) ≡ Fault stop rest
    → (front : List Filled) × (tokens ≡ front ++ rest) × ((others : List Filled) → BeginAlike rest others → whole_module (readers inserting fuel room) (record { tokens = front ++ others; last = last }) ≡ Fault stop others)

-- a fault that isn't for want of constructs that may open, or of turns of a loop
abbrev pub IsFinal : Stop → Type 0
IsFinal Depth = ⊥
IsFinal Endless = ⊥
IsFinal stop = Unit {0}

-- Such a fault stays where more constructs may open and loops have more turns, whatever follows the token that it stands at: no
-- tokens that begin so are read.
abbrev pub FaultsStay : Type 0
FaultsStay = (inserting : Bool) (fuel room : ℕ) (tokens : List Filled) (last : ℕ) (stop : Stop) (rest : List Filled)
    → whole_module (readers inserting fuel room) (record { tokens = tokens; last = last }) ≡ Fault stop rest → IsFinal stop
    → (front : List Filled) × (tokens ≡ front ++ rest) × ((more : ℕ) (others : List Filled) → BeginAlike rest others → whole_module (readers inserting (fuel + more) (room + more)) (record { tokens = front ++ others; last = last }) ≡ Fault stop others)

-- What is read is read so where more constructs may open and loops have more turns.
abbrev pub ReadingsStay : Type 0
ReadingsStay = (inserting : Bool) (fuel room more : ℕ) (tokens : List Filled) (last : ℕ) (m : Module) (after : Input)
    → whole_module (readers inserting fuel room) (record { tokens = tokens; last = last }) ≡ Took m after
    → whole_module (readers inserting (fuel + more) (room + more)) (record { tokens = tokens; last = last }) ≡ Took m after

-- What is read without inserting semicolons is read so by the reader that inserts them.
abbrev pub ReadingsStayInserting : Type 0
ReadingsStayInserting = (fuel room : ℕ) (tokens : List Filled) (last : ℕ) (m : Module) (after : Input)
    → whole_module (readers false fuel room) (record { tokens = tokens; last = last }) ≡ Took m after
    → whole_module (readers true fuel room) (record { tokens = tokens; last = last }) ≡ Took m after

-- With inserted semicolons: a module that the grammar derives, with every semicolon among the tokens, is read exactly so, where loops
-- have turns enough and constructs enough may open.
abbrev pub IsReadInFull : Type 0
IsReadInFull = (tokens : List Filled) (m : Module) → IsModule tokens m
    → (bound : ℕ) × ((fuel room last : ℕ) → bound ≤ fuel → bound ≤ room → (after : Input) × (whole_module (readers true fuel room) (record { tokens = tokens; last = last }) ≡ Took m after))

-- Without inserted semicolons: such a fault stands at a token with which no module goes on after the tokens before it, or at the end
-- of tokens that are no module.
abbrev pub FaultsAreDead : Type 0
FaultsAreDead = (fuel room : ℕ) (tokens : List Filled) (last : ℕ) (stop : Stop) (rest : List Filled)
    → whole_module (readers false fuel room) (record { tokens = tokens; last = last }) ≡ Fault stop rest → IsFinal stop
    → (front : List Filled) × (tokens ≡ front ++ rest) × ((others : List Filled) (m : Module) → BeginAlike rest others → IsModule (front ++ others) m → ⊥)

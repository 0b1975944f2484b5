-- What is proved of the model beyond the laws of es5_reading, in the definitions of es5_ast.
use Rattle.std.specs.Prelude.{◌≡◌, ◌⊎◌, ℕ, ◌+◌, ◌≤◌, Bool, false, List, [], ◌∷◌, ◌++◌, codes}
use Rattle.es5_ast.specs.declared.tree.Stat5.{Stat5}
use Rattle.es5_ast.specs.Lexical.{Word, Punctuator, Token5, Tokens5}
use Rattle.es5_ast.specs.Grammar.{Mode5, Exact, IsProgram}
use Rattle.es5_ast.specs.Within.{ProgramWithin}
use Rattle.es5_ast.specs.Script.{IsStrict}
use Rattle.es5_ast.specs.Depth.{most_open, open_constructs}
use Rattle.es5_ast.specs.Dead.{AreInOrder, IsDirective}
use Rattle.es5_reading.specs.Parser.{Stop5, Syntax, Depth, Outside, Endless, Took, Fault}
use Rattle.es5_reading.specs.Programs.{readers, program, script}

-- The tokens of a text stand one behind the other.
abbrev pub TextsAreInOrder : Type 0
TextsAreInOrder = (text : List ℕ) (tokens : List Token5) → Tokens5 0 false text tokens → AreInOrder tokens

-- At no token are more than so many constructs open.
abbrev pub IsShallow : ℕ → List Token5 → List Stat5 → Type 0
IsShallow most tokens statements = (front rest : List Token5) → tokens ≡ front ++ rest → open_constructs front statements ≤ most

-- Where at no token more than so many constructs are open, no more are open at once in the derivation.
abbrev pub AreWithin : Type 0
AreWithin = (most : ℕ) (tokens : List Token5) (statements : List Stat5) (derived : IsProgram Exact tokens statements) → AreInOrder tokens → IsShallow most tokens statements → ProgramWithin derived most

-- A script among whose tokens every semicolon stands is read exactly so, if at no token more than 2,048 constructs are open, and
-- where loops have turns enough.
abbrev pub ShallowScriptsAreRead : Type 0
ShallowScriptsAreRead = (tokens : List Token5) (statements : List Stat5) → IsProgram Exact tokens statements → IsStrict tokens → AreInOrder tokens → IsShallow most_open tokens statements
    → (bound : ℕ) × ((fuel : ℕ) → bound ≤ fuel → (end : ℕ) × (script fuel tokens ≡ Took statements (record { tokens = []; last = end })))

-- a fault that isn't for want of constructs that may open, or of turns of a loop
abbrev pub IsFinal : Stop5 → Type 0
IsFinal Syntax = Unit {0}
IsFinal Depth = ⊥
IsFinal (Outside rule) = Unit {0}
IsFinal Endless = ⊥

-- What stands where a script stops at a row of table V: no directive of strict code (14.1), `with` (12.10), the `in` of a for-in
-- statement (12.6.4), or a slash, with which no expression begins but a regular expression (7.8.5).
pub data IsRow : ℕ → List Token5 → Type 0 where
  no_token : IsRow 1 []
  no_directive : {t : Token5} {ts : List Token5} → (IsDirective t → ⊥) → IsRow 1 (t ∷ ts)
  with : {t : Token5} {ts : List Token5} → t.kind ≡ Word (codes "with") → IsRow 2 (t ∷ ts)
  for_in : {t : Token5} {ts : List Token5} → t.kind ≡ Word (codes "in") → IsRow 3 (t ∷ ts)
  regular_expression : {t : Token5} {ts : List Token5} → (t.kind ≡ Punctuator (codes "/")) ⊎ (t.kind ≡ Punctuator (codes "/=")) → IsRow 4 (t ∷ ts)

abbrev pub Says : Stop5 → List Token5 → Type 0
Says Syntax rest = Unit {0}
Says Depth rest = Unit {0}
Says (Outside rule) rest = IsRow rule rest
Says Endless rest = Unit {0}

-- A fault for what the profile leaves out names the row that stands there.
abbrev pub FaultsSayWhatStandsThere : Type 0
FaultsSayWhatStandsThere = (fuel : ℕ) (tokens : List Token5) (stop : Stop5) (rest : List Token5) → script fuel tokens ≡ Fault stop rest → Says stop rest

-- the same first token, or none
abbrev pub BeginAlike : List Token5 → List Token5 → Type 0
BeginAlike [] us = us ≡ []
BeginAlike (t ∷ ts) us = (rest : List Token5) × (us ≡ t ∷ rest)

-- Such a fault stays where more constructs may open and loops have more turns, whatever follows the token that it stands at.
abbrev pub FaultsStay : Type 0
FaultsStay = (inserting : Bool) (fuel room : ℕ) (tokens : List Token5) (last : ℕ) (stop : Stop5) (rest : List Token5) → program (readers inserting fuel room) fuel (record { tokens = tokens; last = last }) ≡ Fault stop rest → IsFinal stop
    → (front : List Token5) × (tokens ≡ front ++ rest) × ((more : ℕ) (others : List Token5) → BeginAlike rest others
    → program (readers inserting (fuel + more) (room + more)) (fuel + more) (record { tokens = front ++ others; last = last }) ≡ Fault stop others)

-- What is answered is the same where loops have more turns, unless the reader stops for want of these.
abbrev pub AnswersLast : Type 0
AnswersLast = (inserting : Bool) (fuel room : ℕ) (tokens : List Token5) (last more : ℕ)
    → ((rest : List Token5) × (program (readers inserting fuel room) fuel (record { tokens = tokens; last = last }) ≡ Fault Endless rest))
    ⊎ (program (readers inserting (fuel + more) room) (fuel + more) (record { tokens = tokens; last = last }) ≡ program (readers inserting fuel room) fuel (record { tokens = tokens; last = last }))

-- A fault for neither stands at a token with which no script goes on after the tokens before it, if every semicolon stands among the tokens.
abbrev pub FaultsAreDead : Type 0
FaultsAreDead = (fuel : ℕ) (tokens : List Token5) (stop : Stop5) (rest : List Token5) → script fuel tokens ≡ Fault stop rest → IsFinal stop
    → (front : List Token5) × (tokens ≡ front ++ rest) × ((mode : Mode5) (others : List Token5) (statements : List Stat5) → BeginAlike rest others → IsStrict (front ++ others) → IsProgram mode (front ++ others) statements → ⊥)

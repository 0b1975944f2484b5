-- What is proved of the model, in the grammar's terms.
use Rattle.std.specs.Prelude.{◌≡◌, ℕ, ◌+◌, ◌≤◌, Bool, true, false, List, [], ◌++◌}
use Rattle.es5_ast.specs.declared.tree.Stat5.{Stat5}
use Rattle.es5_ast.specs.Lexical.{Token5}
use Rattle.es5_ast.specs.Grammar.{Mode5, Exact, IsProgram}
use Rattle.es5_ast.specs.Within.{ProgramWithin}
use Rattle.es5_ast.specs.Script.{Fills, IsStrict}
use Rattle.es5_ast.specs.Bare.{bare_statements}
use Rattle.es5_ast.specs.Dead.{SpellsStatements}
use Rattle.es5_reading.specs.Parser.{Input5, Stop5, Took, Fault}
use Rattle.es5_ast.specs.Depth.{most_open}
use Rattle.es5_reading.specs.Programs.{readers, program, script}

-- Without inserted semicolons: statements that are read are derived from all of the tokens, with their spans, and at most
-- `room` constructs are open at once.
abbrev pub IsSound : Type 0
IsSound = (fuel room : ℕ) (tokens : List Token5) (last : ℕ) (statements : List Stat5) (after : Input5)
    → program (readers false fuel room) fuel (record { tokens = tokens; last = last }) ≡ Took statements after
    → (derived : IsProgram Exact tokens statements) × ProgramWithin derived room

-- With inserted semicolons: the tokens with the semicolons put in are such that one stands only before a token that no
-- program has there, and are a program's, with its spans; at most `room` constructs are open at once.
pub record Reading5 (room : ℕ) (tokens : List Token5) (statements : List Stat5) : Type 0 where
  pub filled : List Token5
  pub fills : Fills [] tokens filled
  pub derived : IsProgram Exact filled statements
  pub within : ProgramWithin derived room

abbrev pub IsFilled : Type 0
IsFilled = (fuel room : ℕ) (tokens : List Token5) (statements : List Stat5) (after : Input5)
    → program (readers true fuel room) fuel (record { tokens = tokens; last = 0 }) ≡ Took statements after → Reading5 room tokens statements

-- Whatever the grammar derives, in any mode, is read to its end where loops have turns enough and constructs enough may open,
-- and as what it is but for spans and sites.
abbrev pub IsComplete : Type 0
IsComplete = (mode : Mode5) (tokens : List Token5) (statements : List Stat5) → IsProgram mode tokens statements
    → (bound : ℕ) × ((fuel room last : ℕ) → bound ≤ fuel → bound ≤ room
    → (read : List Stat5) × (end : ℕ) × (program (readers false fuel room) fuel (record { tokens = tokens; last = last }) ≡ Took read (record { tokens = []; last = end })) × (bare_statements read ≡ bare_statements statements))

-- What is derived with exact spans is read exactly so where loops have turns enough and no more constructs are open in the
-- derivation than may.
abbrev pub IsReadExactly : Bool → Type 0
IsReadExactly inserting = (room : ℕ) (tokens : List Token5) (statements : List Stat5) (derived : IsProgram Exact tokens statements) → ProgramWithin derived room
    → (bound : ℕ) × ((fuel last : ℕ) → bound ≤ fuel
    → (end : ℕ) × (program (readers inserting fuel room) fuel (record { tokens = tokens; last = last }) ≡ Took statements (record { tokens = []; last = end })))

-- No tokens derive two programs, where every semicolon stands among them.
abbrev pub IsUnambiguous : Type 0
IsUnambiguous = (tokens : List Token5) (a b : List Stat5) → IsProgram Exact tokens a → IsProgram Exact tokens b → a ≡ b

-- the same for trees of which spans and sites are put aside
abbrev pub AreAlike : Type 0
AreAlike = (mode other : Mode5) (tokens : List Token5) (a b : List Stat5) → IsProgram mode tokens a → IsProgram other tokens b → bare_statements a ≡ bare_statements b

-- No tokens spell the statements of two scripts, whatever semicolons are inserted among them.
abbrev pub IsUnique : Type 0
IsUnique = (tokens : List Token5) (a b : List Stat5) → SpellsStatements tokens a → SpellsStatements tokens b → a ≡ b

-- Nor do semicolons go in among them in two ways, and what they are then, in any mode, is alike.
abbrev pub AreFilledOnce : Type 0
AreFilledOnce = (mode other : Mode5) (tokens filled again : List Token5) (a b : List Stat5) → Fills [] tokens filled → Fills [] tokens again → IsProgram mode filled a → IsProgram other again b
    → (filled ≡ again) × (bare_statements a ≡ bare_statements b)

-- What is read is read so where more constructs may open and loops have more turns.
abbrev pub ReadingsStay : Type 0
ReadingsStay = (inserting : Bool) (fuel room more : ℕ) (tokens : List Token5) (last : ℕ) (statements : List Stat5) (after : Input5)
    → program (readers inserting fuel room) fuel (record { tokens = tokens; last = last }) ≡ Took statements after
    → program (readers inserting (fuel + more) (room + more)) (fuel + more) (record { tokens = tokens; last = last }) ≡ Took statements after

-- What is read without inserting semicolons is read so by the reader that inserts them.
abbrev pub ReadingsStayInserting : Type 0
ReadingsStayInserting = (fuel room : ℕ) (tokens : List Token5) (last : ℕ) (statements : List Stat5) (after : Input5)
    → program (readers false fuel room) fuel (record { tokens = tokens; last = last }) ≡ Took statements after
    → program (readers true fuel room) fuel (record { tokens = tokens; last = last }) ≡ Took statements after

-- With inserted semicolons: whatever the grammar derives, with every semicolon among the tokens, is read to its end, and as
-- what it is but for spans and sites.
abbrev pub IsReadInFull : Type 0
IsReadInFull = (mode : Mode5) (tokens : List Token5) (statements : List Stat5) → IsProgram mode tokens statements
    → (bound : ℕ) × ((fuel room last : ℕ) → bound ≤ fuel → bound ≤ room
    → (read : List Stat5) × (end : ℕ) × (program (readers true fuel room) fuel (record { tokens = tokens; last = last }) ≡ Took read (record { tokens = []; last = end })) × (bare_statements read ≡ bare_statements statements))

-- A script among whose tokens every semicolon stands, and in which at most 2,048 constructs are open at once, is read exactly
-- so where loops have turns enough.
abbrev pub AreAccepted : Type 0
AreAccepted = (tokens : List Token5) (statements : List Stat5) (derived : IsProgram Exact tokens statements) → IsStrict tokens → ProgramWithin derived most_open
    → (bound : ℕ) × ((fuel : ℕ) → bound ≤ fuel → (end : ℕ) × (script fuel tokens ≡ Took statements (record { tokens = []; last = end })))

-- A script that is read: its tokens, with the semicolons put in, begin with the directive of strict code and are its statements,
-- and no construct opens beyond those that may.
pub record ScriptReading5 (tokens : List Token5) (statements : List Stat5) : Type 0 where
  pub filled : List Token5
  pub fills : Fills [] tokens filled
  pub strict : IsStrict filled
  pub derived : IsProgram Exact filled statements
  pub within : ProgramWithin derived most_open

abbrev pub IsScript : Type 0
IsScript = (fuel : ℕ) (tokens : List Token5) (statements : List Stat5) (after : Input5) → script fuel tokens ≡ Took statements after → ScriptReading5 tokens statements

-- A fault stands at one of the tokens, or at the end.
abbrev pub FaultsAreInside : Type 0
FaultsAreInside = (fuel : ℕ) (tokens : List Token5) (stop : Stop5) (rest : List Token5) → script fuel tokens ≡ Fault stop rest → (front : List Token5) × (tokens ≡ front ++ rest)

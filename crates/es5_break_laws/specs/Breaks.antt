-- Texts that leave out a semicolon only where a line ends, or before `}` or the end, and where nothing before it can go on.
use Rattle.std.specs.Prelude.{◌≡◌, ℕ, ◌≤◌, ◌⊎◌, true, false, ◌||◌, List, [], ◌∷◌, ◌++◌, codes}
use Rattle.es5_ast.specs.declared.operators.AssignOperator5.{AssignOperator5}
use Rattle.es5_ast.specs.declared.operators.BinaryOperator5.{BinaryOperator5}
use Rattle.es5_ast.specs.declared.tree.Stat5.{Stat5}
use Rattle.es5_ast.specs.Lexical.{Kind5, Punctuator, Token5}
use Rattle.es5_ast.specs.Grammar.{is_mark, ends, assign_kind, binary_kind, Mode5, Exact, IsProgram}
use Rattle.es5_ast.specs.Script.{inserted, Fills, IsStrict}
use Rattle.es5_ast.specs.Depth.{most_open}
use Rattle.es5_ast.specs.Within.{ProgramWithin}
use Rattle.es5_reading.specs.Parser.{Stop5, Endless, Took, Fault}
use Rattle.es5_reading.specs.Programs.{readers, program, script}
use Rattle.es5_reading_laws.specs.Laws.{BeginAlike, IsFinal}

-- The tokens with which an expression or a statement may go on where it could end (11.2 to 11.14, 12.2, 12.12).
pub data GoesOn : Kind5 → Type 0 where
  operator : (op : BinaryOperator5) → GoesOn (binary_kind op)
  assignment : (op : AssignOperator5) → GoesOn (assign_kind op)
  member : GoesOn (Punctuator (codes "."))
  index : GoesOn (Punctuator (codes "["))
  call : GoesOn (Punctuator (codes "("))
  another : GoesOn (Punctuator (codes ","))
  condition : GoesOn (Punctuator (codes "?"))
  label : GoesOn (Punctuator (codes ":"))

-- the token begins a line or closes a block, is no semicolon, and goes on with nothing
pub record IsBreak (t : Token5) : Type 0 where
  pub line : (t.after_line || is_mark (codes "}") t.kind) ≡ true
  pub no_end : ends t.kind ≡ false
  pub plain : GoesOn t.kind → ⊥

-- The tokens, after those of the first list, with semicolons put in, each of them at a break or at the end.
pub data Breaks : List Token5 → List Token5 → List Token5 → Type 0 where
  at_end : {before : List Token5} → Breaks before [] []
  keeps : {before filled : List Token5} {t : Token5} {ts : List Token5} → Breaks (before ++ t ∷ []) ts filled → Breaks before (t ∷ ts) (t ∷ filled)
  inserts : {before filled : List Token5} {t : Token5} {ts : List Token5} → IsBreak t → Breaks (before ++ inserted before ∷ []) (t ∷ ts) filled → Breaks before (t ∷ ts) (inserted before ∷ filled)
  inserts_at_end : {before filled : List Token5} → Breaks (before ++ inserted before ∷ []) [] filled → Breaks before [] (inserted before ∷ filled)

-- What tokens spell, if semicolons are put in at breaks, is read exactly so, where loops have turns enough and no more constructs are
-- open in the derivation than may.
abbrev pub AreReadAtBreaks : Type 0
AreReadAtBreaks = (room : ℕ) (tokens filled : List Token5) (statements : List Stat5) (derived : IsProgram Exact filled statements) → Breaks [] tokens filled → ProgramWithin derived room
    → (bound : ℕ) × ((fuel : ℕ) → bound ≤ fuel → (end : ℕ) × (program (readers true fuel room) fuel (record { tokens = tokens; last = 0 }) ≡ Took statements (record { tokens = []; last = end })))

-- It is spelled by the standard's rule, too: no program goes on where a semicolon is put in (7.9.1).
abbrev pub BreaksAreInsertions : Type 0
BreaksAreInsertions = (tokens filled : List Token5) (statements : List Stat5) → IsProgram Exact filled statements → Breaks [] tokens filled → (again : List Token5) × Fills [] tokens again × IsProgram Exact again statements

-- A fault, but one for want of constructs that may open or of turns, stands at a token with which no such program goes on after the
-- tokens before it, or at the end of tokens that spell none.
abbrev pub FaultsAreDeadAtBreaks : Type 0
FaultsAreDeadAtBreaks = (fuel room : ℕ) (tokens : List Token5) (stop : Stop5) (rest : List Token5) → program (readers true fuel room) fuel (record { tokens = tokens; last = 0 }) ≡ Fault stop rest → IsFinal stop
    → (front : List Token5) × (tokens ≡ front ++ rest) × ((mode : Mode5) (others filled : List Token5) (statements : List Stat5) → BeginAlike rest others → Breaks [] (front ++ others) filled → IsProgram mode filled statements → ⊥)

-- the statements are read of all the tokens, or loops have too few turns
abbrev pub IsReadOrEndless : ℕ → List Token5 → List Stat5 → Type 0
IsReadOrEndless fuel tokens statements =
    ((end : ℕ) × (script fuel tokens ≡ Took statements (record { tokens = []; last = end }))) ⊎ ((rest : List Token5) × (script fuel tokens ≡ Fault Endless rest))

-- A script that tokens spell so, beginning with the directive (14.1), is read exactly so, if at most 2,048 constructs are open at once
-- in it. With too few turns of loops the reader stops for want of them, and nowhere else.
abbrev pub ScriptsAreReadAtBreaks : Type 0
ScriptsAreReadAtBreaks = (tokens filled : List Token5) (statements : List Stat5) (derived : IsProgram Exact filled statements) → Breaks [] tokens filled → IsStrict filled → ProgramWithin derived most_open
    → (fuel : ℕ) → IsReadOrEndless fuel tokens statements

-- A fault of a script, but one for want of constructs that may open or of turns, stands at a token with which no script that is spelled
-- so goes on after the tokens before it, or at the end of tokens that spell none.
abbrev pub ScriptFaultsAreDeadAtBreaks : Type 0
ScriptFaultsAreDeadAtBreaks = (fuel : ℕ) (tokens : List Token5) (stop : Stop5) (rest : List Token5) → script fuel tokens ≡ Fault stop rest → IsFinal stop
    → (front : List Token5) × (tokens ≡ front ++ rest) × ((mode : Mode5) (others filled : List Token5) (statements : List Stat5) → BeginAlike rest others → Breaks [] (front ++ others) filled → IsStrict filled → IsProgram mode filled statements → ⊥)

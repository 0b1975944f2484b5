-- Which bytes spell a script (ECMA-262, 5.1 edition, 7.9, 14).
use Rattle.std.specs.Prelude.{◌≡◌, ℕ, ◌+◌, true, false, ◌||◌, List, [], ◌∷◌, ◌++◌, codes}
use Rattle.std.specs.Str.{chars, IsUtf8}
use Rattle.es5_ast.specs.declared.tree.Script.{Script}
use Rattle.es5_ast.specs.declared.tree.Stat5.{Stat5}
use Rattle.es5_ast.specs.Lexical.{Text, Inserted, Token5, Tokens5}
use Rattle.es5_ast.specs.Grammar.{is_mark, end_of, IsEnd, Spans, Mode5, Exact, Aside, IsProgram}
use Rattle.es5_ast.specs.Early.{script_pairs}

-- a program has tokens that begin with these, and the tokens are a program
abbrev pub Begins : List Token5 → Type 0
Begins tokens = (rest : List Token5) × (statements : List Stat5) × IsProgram Aside (tokens ++ rest) statements

abbrev pub IsWhole : List Token5 → Type 0
IsWhole tokens = (statements : List Stat5) × IsProgram Aside tokens statements

-- the semicolon that is inserted after these tokens
abbrev pub inserted : List Token5 → Token5
inserted before = record { begin = end_of 0 before; end = end_of 0 before; after_line = false; kind = Inserted }

-- Automatic semicolon insertion (7.9.1): which tokens come of those of the text, after those that came before. A semicolon
-- is inserted before a token that no program has there, if a line terminator precedes it or it is `}`, and at the end
-- where the program isn't whole. The grammar takes none as an empty statement or in a for header.
pub data Fills : List Token5 → List Token5 → List Token5 → Type 0 where
  at_end : {before : List Token5} → Fills before [] []
  keeps : {before filled : List Token5} {t : Token5} {ts : List Token5} → Fills (before ++ t ∷ []) ts filled → Fills before (t ∷ ts) (t ∷ filled)
  inserts : {before filled : List Token5} {t : Token5} {ts : List Token5} → (Begins (before ++ t ∷ []) → ⊥) → (t.after_line || is_mark (codes "}") t.kind) ≡ true → Fills (before ++ inserted before ∷ []) (t ∷ ts) filled → Fills before (t ∷ ts) (inserted before ∷ filled)
  inserts_at_end : {before filled : List Token5} → (IsWhole before → ⊥) → Fills (before ++ inserted before ∷ []) [] filled → Fills before [] (inserted before ∷ filled)

-- Tokens that begin with the directive of strict code (14.1). Its literal has no escape: each would make it longer than
-- its twelve characters.
pub record IsStrict (tokens : List Token5) : Type 0 where
  pub directive : Token5
  pub end : Token5
  pub rest : List Token5
  pub first : tokens ≡ directive ∷ end ∷ rest
  pub text : directive.kind ≡ Text (codes "use strict")
  pub plain : directive.end ≡ directive.begin + 12
  pub ends : IsEnd end

-- The bytes spell the script: they are UTF-8, their tokens, with the semicolons that are inserted, begin with the directive
-- and are the script's statements, and the script has no pair of tables F and V. The mode says what is held of spans
-- and sites.
pub record Spells (mode : Mode5) (bytes : List ℕ) (script : Script) : Type 0 where
  pub utf8 : IsUtf8 bytes
  pub tokens : List Token5
  pub lexed : Tokens5 0 false (chars bytes) tokens
  pub filled : List Token5
  pub fills : Fills [] tokens filled
  pub strict : IsStrict filled
  pub parsed : IsProgram mode filled script.statements
  pub spans : Spans mode tokens [] script.span
  pub legal : script_pairs script.statements ≡ []

abbrev pub Spells5 : List ℕ → Script → Type 0
Spells5 = Spells Exact

-- the same with the spans and sites left open
abbrev pub SpellsAside : List ℕ → Script → Type 0
SpellsAside = Spells Aside

-- the script is, spans and sites aside, the tree of some text
abbrev pub IsTree : Script → Type 0
IsTree script = (bytes : List ℕ) × SpellsAside bytes script

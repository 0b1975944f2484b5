-- Texts that leave out a semicolon only where a line ends, or before `}` or the end, and where nothing before it can go on.
use Rattle.std.specs.Prelude.{◌≡◌, ℕ, ◌≤◌, Bool, true, ◌||◌, List, [], ◌∷◌, ◌++◌, map, codes}
use Rattle.es6_lexer.specs.declared.token.Token.{Token}
use Rattle.es6_lexer.specs.declared.token.TokenKind.{TokenKind}
use Rattle.es6_lexer.specs.declared.token.TokenKind.TheVariants.{Word, Punctuator, Template}
use Rattle.es6_lexer.specs.declared.token.Punctuator.TheVariants as mark
use Rattle.es6_ast.specs.declared.operators.AssignOperator.{AssignOperator}
use Rattle.es6_ast.specs.declared.operators.BinaryOperator.{BinaryOperator}
use Rattle.es6_ast.specs.declared.module.Module.{Module}
use Rattle.es6_ast.specs.Grammar.{assign_kind, binary_kind}
use Rattle.es6_ast.specs.Modules.{IsModule}
use Rattle.es6_ast.specs.Semicolons.{SpellsModule, inserted, ends_group}
use Rattle.es6_ast.specs.Tokens.{Filled, read}
use Rattle.es6_ast.specs.declared.settings.Stop.{Stop}
use Rattle.es6_reading.specs.Laws.{BeginAlike, IsFinal}
use Rattle.es6_reading.specs.Modules.{readers, whole_module, read_module}
use Rattle.es6_reading.specs.Parser.{Input, Took, Fault}

-- The tokens with which an expression, a statement, a declaration, an import or an export may go on where it could end, or which are
-- a semicolon themselves (12.3 to 12.15, 13.3, 13.13, 14.5, 15.2).
pub data GoesOn : TokenKind → Type 0 where
  operator : (op : BinaryOperator) → GoesOn (binary_kind op)
  assignment : (op : AssignOperator) → GoesOn (assign_kind op)
  power : GoesOn (Punctuator mark.StarStar)
  member : GoesOn (Punctuator mark.Dot)
  index : GoesOn (Punctuator mark.LeftBracket)
  call : GoesOn (Punctuator mark.LeftParenthesis)
  tagged : (cooked raw : List ℕ) (last : Bool) → GoesOn (Template cooked raw true last)
  another : GoesOn (Punctuator mark.Comma)
  condition : GoesOn (Punctuator mark.Question)
  label : GoesOn (Punctuator mark.Colon)
  semicolon : GoesOn (Punctuator mark.Semicolon)
  heritage : GoesOn (Word (codes "extends"))
  source : GoesOn (Word (codes "from"))
  renamed : GoesOn (Word (codes "as"))

-- the token begins a line, closes a block or is the end, and goes on with nothing
pub record IsBreak (t : Token) : Type 0 where
  pub ends : (t.newline || ends_group t.kind) ≡ true
  pub plain : GoesOn t.kind → ⊥

-- The tokens that stand after those of the first list and before the last one, with semicolons put in, each of them at a break.
pub data Breaks : List Filled → List Token → List Filled → List Token → Type 0 where
  done : {before : List Filled} {rest : List Token} → Breaks before rest [] rest
  keeps : {before filled : List Filled} {t : Token} {ts rest : List Token} → Breaks (before ++ read t ∷ []) ts filled rest → Breaks before (t ∷ ts) (read t ∷ filled) rest
  inserts : {before filled : List Filled} {t : Token} {ts rest : List Token} (do_while : Bool) → IsBreak t → Breaks (before ++ inserted do_while before ∷ []) (t ∷ ts) filled rest → Breaks before (t ∷ ts) (inserted do_while before ∷ filled) rest

-- the tokens, up to the end of the text, spell the module, if semicolons are put in at breaks
pub record SpellsAtBreaks (tokens : List Token) (m : Module) : Type 0 where
  pub filled : List Filled
  pub breaks : Breaks [] tokens filled []
  pub spelled : IsModule filled m

-- A module that tokens spell so is read exactly so, where loops have turns enough and constructs enough may open.
abbrev pub AreReadAtBreaks : Type 0
AreReadAtBreaks = (tokens : List Token) (m : Module) → SpellsAtBreaks tokens m
    → (bound : ℕ) × ((fuel room : ℕ) → bound ≤ fuel → bound ≤ room → (after : Input) × (whole_module (readers true fuel room) (record { tokens = map read tokens; last = 0 }) ≡ Took m after))

-- It is spelled by the standard's rule, too: no module goes on where a semicolon is put in (11.9).
abbrev pub BreaksAreInsertions : Type 0
BreaksAreInsertions = (tokens : List Token) (m : Module) → SpellsAtBreaks tokens m → SpellsModule tokens m

-- A fault, but one for want of constructs that may open or of turns, stands at a token with which no such module goes on after the
-- tokens before it, or at the end of tokens that spell none.
abbrev pub FaultsAreDeadAtBreaks : Type 0
FaultsAreDeadAtBreaks = (fuel : ℕ) (tokens : List Token) (stop : Stop) (rest : List Filled) → read_module fuel (map read tokens) ≡ Fault stop rest → IsFinal stop
    → (front behind : List Token) → tokens ≡ front ++ behind → map read behind ≡ rest → (others : List Token) → BeginAlike rest (map read others) → (m : Module) → SpellsAtBreaks (front ++ others) m → ⊥

-- Where a reader of modules stops, and at what: the first token with which no module goes on, or at which too many constructs
-- are open.
use Rattle.std.specs.Prelude.{◌≡◌, ℕ, ◌+◌, ◌<◌, ◌≤◌, ◌⊎◌, pos, List, [], ◌∷◌, ◌++◌, length, take, codes, Some, slice_get}
use Rattle.es6_lexer.specs.declared.token.Token.{Token}
use Rattle.es6_lexer.specs.declared.token.TokenKind.{TokenKind}
use Rattle.es6_lexer.specs.declared.token.TokenKind.TheVariants.{Word, Punctuator, Number, Fault}
use Rattle.es6_lexer.specs.declared.token.NumberToken.TheVariants.{Whole, TooLarge, Marked}
use Rattle.es6_lexer.specs.declared.token.LexicalKind.{LexicalKind}
use Rattle.es6_lexer.specs.declared.token.Punctuator.TheVariants.{Slash, SlashAssign, Exclamation}
use Rattle.es6_ast.specs.declared.module.Module.{Module}
use Rattle.es6_ast.specs.declared.settings.Stop.{Stop}
use Rattle.es6_ast.specs.declared.settings.Stop.TheVariants.{Syntax, Lexical, Outside, Depth}
use Rattle.es6_ast.specs.Semicolons.{SpellsModule}
use Rattle.es6_ast.specs.Depth.{open_constructs}

-- some module begins with these tokens
abbrev pub IsAlive : List Token → Type 0
IsAlive tokens = (rest : List Token) × (m : Module) × SpellsModule (tokens ++ rest) m

-- no module begins with the tokens up to this one
abbrev pub IsDead : List Token → ℕ → Type 0
IsDead tokens p = IsAlive (take (p + 1) tokens) → ⊥

-- each token stands behind the one before it, and none but the last is empty, as in a text
abbrev pub IsBefore : Token → List Token → Type 0
IsBefore t [] = Unit {0}
IsBefore t (u ∷ us) = (t.span.begin < t.span.end) × (t.span.end ≤ u.span.begin)

abbrev pub AreInOrder : List Token → Type 0
AreInOrder [] = Unit {0}
AreInOrder (t ∷ ts) = IsBefore t ts × AreInOrder ts

-- some module begins with the tokens up to this one, at which more than 256 of its constructs are open
pub record IsTooDeep (tokens : List Token) (p : ℕ) : Type 0 where
  pub rest : List Token
  pub placed : AreInOrder (take (p + 1) tokens ++ rest)
  pub tree : Module
  pub spelled : SpellsModule (take (p + 1) tokens ++ rest) tree
  pub deep : 256 < open_constructs (take (p + 1) tokens) tree

-- the first token that is dead or too deep
pub record IsStop (tokens : List Token) (p : ℕ) : Type 0 where
  pub inside : p < length tokens
  pub stops : IsDead tokens p ⊎ IsTooDeep tokens p
  pub first : (q : ℕ) → q < p → (IsDead tokens q ⊎ IsTooDeep tokens q) → ⊥

-- in place of this token, after the tokens before it, a token of the kind would be alive
pub record WouldLive (tokens : List Token) (p : ℕ) (t : Token) (kind : TokenKind) : Type 0 where
  pub alive : IsAlive (take p tokens ++ record t { kind = kind } ∷ [])

-- The constructs outside the profile that a reader finds, at a dead token: for-in, a regular expression, a number with a point
-- or an exponent, a number above 9007199254740991, and `with` (6th edition, 11.8.3, 11.8.5, 13.7.5, 13.11).
pub data IsOutside (tokens : List Token) (p : ℕ) (t : Token) : ℕ → Type 0 where
  for_in : t.kind ≡ Word (codes "in") → WouldLive tokens p t (Word (codes "of")) → (WouldLive tokens p t (Word (codes "from")) → ⊥) → IsOutside tokens p t 1
  regular_expression : (t.kind ≡ Punctuator Slash) ⊎ (t.kind ≡ Punctuator SlashAssign) → WouldLive tokens p t (Punctuator Exclamation) → IsOutside tokens p t 2
  marked_number : t.kind ≡ Number Marked → WouldLive tokens p t (Number (Whole (pos 0))) → IsOutside tokens p t 3
  large_number : t.kind ≡ Number TooLarge → WouldLive tokens p t (Number (Whole (pos 0))) → IsOutside tokens p t 4
  with : t.kind ≡ Word (codes "with") → WouldLive tokens p t (Word (codes "debugger")) → IsOutside tokens p t 5

-- What is reported at the stop. No two of these hold: a token with which some module goes on isn't dead, and the others differ in
-- the token's kind.
pub data IsReported (tokens : List Token) (p : ℕ) (t : Token) : Stop → Type 0 where
  too_deep : IsTooDeep tokens p → IsReported tokens p t Depth
  lexical_fault : (kind : LexicalKind) → IsDead tokens p → t.kind ≡ Fault kind → IsReported tokens p t (Lexical kind)
  outside_profile : (rule : ℕ) → IsDead tokens p → IsOutside tokens p t rule → IsReported tokens p t (Outside rule)
  syntax_fault : IsDead tokens p → ((kind : LexicalKind) → t.kind ≡ Fault kind → ⊥) → ((rule : ℕ) → IsOutside tokens p t rule → ⊥) → IsReported tokens p t Syntax

-- a reader of the tokens stops at the offset, with this to report
pub record StopsAt (tokens : List Token) (at : ℕ) (stop : Stop) : Type 0 where
  pub index : ℕ
  pub token : Token
  pub there : slice_get tokens index ≡ Some token
  pub stops : IsStop tokens index
  pub reported : IsReported tokens index token stop
  pub place : at ≡ token.span.begin

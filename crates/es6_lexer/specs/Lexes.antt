-- The tokens of a text (11): the elements that are read one after another.
use Rattle.std.specs.Prelude.{◌≡◌, ℕ, ◌+◌, Bool, true, false, ◌||◌, List, [], ◌∷◌, length, take, drop}
use Rattle.std.specs.Str.{encode_utf8_all}
use Rattle.es_text.specs.declared.Span.{Span}
use Rattle.es6_lexer.specs.declared.token.Token.{Token}
use Rattle.es6_lexer.specs.declared.token.TokenKind.{TokenKind}
use Rattle.es6_lexer.specs.declared.token.TokenKind.TheVariants.{Word, Punctuator, Number, Text, Template, Fault, End}
use Rattle.es6_lexer.specs.declared.token.Punctuator.TheVariants.{LeftBrace, RightBrace}
use Rattle.es6_lexer.specs.declared.token.LexicalKind.{LexicalKind}
use Rattle.es6_lexer.specs.declared.shape.Element.{Element}
use Rattle.es6_lexer.specs.declared.shape.Element.TheVariants.{Finished, Skip, Take, Stop}
use Rattle.es6_lexer.specs.declared.shape.Shape.{Shape}
use Rattle.es6_lexer.specs.Elements.{element}
use Rattle.es6_lexer.specs.Values.{kind_of}

-- whether the innermost open brace is the `${` of a template
abbrev pub closes : List Bool → Bool
closes [] = false
closes (b ∷ bs) = b

-- the open braces behind a token
abbrev pub opened : TokenKind → List Bool → List Bool
opened (Punctuator LeftBrace) braces = false ∷ braces
opened (Punctuator RightBrace) braces = drop 1 braces
opened (Template cooked raw true false) braces = true ∷ braces
opened (Template cooked raw false true) braces = drop 1 braces
opened _ braces = braces

-- the offset behind n characters
abbrev pub offset_after : ℕ → ℕ → List ℕ → ℕ
offset_after offset n rest = offset + length (encode_utf8_all (take n rest))

abbrev pub token_at : TokenKind → ℕ → ℕ → Bool → Token
token_at kind begin end newline = record { kind = kind; span = record { begin = begin; end = end }; newline = newline }

-- the tokens of the rest of a text, which begins at the offset, under the open braces, and a line terminator standing before it or not
pub data LexesFrom : List Bool → Bool → ℕ → List ℕ → List Token → Type 0 where
  finished : (braces : List Bool) (newline : Bool) (offset : ℕ) (rest : List ℕ) → element (closes braces) rest ≡ Finished
      → LexesFrom braces newline offset rest (token_at End offset offset newline ∷ [])
  stopped : (braces : List Bool) (newline : Bool) (offset : ℕ) (rest : List ℕ) (kind : LexicalKind) (at : ℕ) → element (closes braces) rest ≡ Stop kind at
      → LexesFrom braces newline offset rest (token_at (Fault kind) (offset_after offset at rest) (offset_after offset (at + 1) rest) newline ∷ [])
  skipped : (braces : List Bool) (newline : Bool) (offset : ℕ) (rest : List ℕ) (n : ℕ) (line : Bool) (tokens : List Token) → element (closes braces) rest ≡ Skip n line
      → LexesFrom braces (newline || line) (offset_after offset n rest) (drop n rest) tokens
      → LexesFrom braces newline offset rest tokens
  taken : (braces : List Bool) (newline : Bool) (offset : ℕ) (rest : List ℕ) (shape : Shape) (n : ℕ) (tokens : List Token) → element (closes braces) rest ≡ Take shape n
      → LexesFrom (opened (kind_of shape (take n rest)) braces) false (offset_after offset n rest) (drop n rest) tokens
      → LexesFrom braces newline offset rest (token_at (kind_of shape (take n rest)) offset (offset_after offset n rest) newline ∷ tokens)

-- the tokens of a text
abbrev pub Lexes : List ℕ → List Token → Type 0
Lexes text tokens = LexesFrom [] false 0 text tokens

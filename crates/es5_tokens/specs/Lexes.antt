-- The tokens of a text (ECMA-262, 5.1 edition, 7) as they are read: one element after another.
use Rattle.std.specs.Prelude.{◌≡◌, ℕ, ◌+◌, Bool, false, ◌||◌, List, [], ◌∷◌, take, drop, Option, None, Some}
use Rattle.es5_ast.specs.Lexical.{width}
use Rattle.es5_tokens.specs.declared.token.Token.{Token}
use Rattle.es5_tokens.specs.declared.token.TokenKind.{TokenKind}
use Rattle.es5_tokens.specs.declared.token.TokenFault.{TokenFault}
use Rattle.es5_tokens.specs.declared.shape.Element.TheVariants.{Finished, Skip, Take, Stop}
use Rattle.es5_tokens.specs.Elements.{element}

abbrev pub token_at : TokenKind → ℕ → ℕ → Bool → Token
token_at kind begin end line = record { kind = kind; begin = begin; end = end; after_line = line }

-- The tokens of the rest of a text from an offset on, and the offset and the fault with which they end. The mark says
-- whether a line terminator stands between the token before and the rest.
pub data LexesFrom : Bool → ℕ → List ℕ → List Token → ℕ → Option TokenFault → Type 0 where
  finished : (line : Bool) (at : ℕ) (rest : List ℕ) → element rest ≡ Finished → LexesFrom line at rest [] at None
  stopped : (line : Bool) (at : ℕ) (rest : List ℕ) (fault : TokenFault) (n : ℕ) → element rest ≡ Stop fault n → LexesFrom line at rest [] (at + width (take n rest)) (Some fault)
  skipped : (line : Bool) (at : ℕ) (rest : List ℕ) (n : ℕ) (more : Bool) (tokens : List Token) (end : ℕ) (fault : Option TokenFault) → element rest ≡ Skip n more
      → LexesFrom (line || more) (at + width (take n rest)) (drop n rest) tokens end fault
      → LexesFrom line at rest tokens end fault
  taken : (line : Bool) (at : ℕ) (rest : List ℕ) (kind : TokenKind) (n : ℕ) (tokens : List Token) (end : ℕ) (fault : Option TokenFault) → element rest ≡ Take kind n
      → LexesFrom false (at + width (take n rest)) (drop n rest) tokens end fault
      → LexesFrom line at rest (token_at kind at (at + width (take n rest)) line ∷ tokens) end fault

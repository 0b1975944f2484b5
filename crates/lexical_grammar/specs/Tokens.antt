-- The tokens of a text, each by its production (11).
use Rattle.std.specs.Prelude.{◌≡◌, ℕ, ◌+◌, ◌⊎◌, Bool, true, false, ◌||◌, List, [], ◌∷◌, ◌++◌, length, take, drop, slice_index}
use Rattle.std.specs.List.{list_all}
use Rattle.es6_lexer.specs.declared.token.Token.{Token}
use Rattle.es6_lexer.specs.declared.token.TokenKind.TheVariants.{Fault, End}
use Rattle.es6_lexer.specs.declared.token.LexicalKind.{LexicalKind}
use Rattle.es6_lexer.specs.declared.token.LexicalKind.TheVariants.{IdentifierEscape}
use Rattle.es6_lexer.specs.declared.shape.Element.{Element}
use Rattle.es6_lexer.specs.declared.shape.Element.TheVariants.{Finished, Skip, Take, Stop}
use Rattle.es6_lexer.specs.declared.shape.Shape.{Shape}
use Rattle.es6_lexer.specs.Classes.{is_white_space, is_line_terminator, is_not_line_terminator, is_identifier_start, is_decimal_digit, is_quote, goes_on}
use Rattle.es6_lexer.specs.Values.{kind_of}
use Rattle.es6_lexer.specs.Lexes.{closes, opened, offset_after, token_at}
use Rattle.lexical_grammar.specs.Grammar.{IsWordOrFault, IsText, IsTemplate, IsComment, IsPunctuator}
use Rattle.lexical_grammar.specs.Literals.{IsNumber}

-- what begins neither a word, a gap, a number, a text, a template nor an escape
pub record BeginsNoOther (closing : Bool) (rest : List ℕ) : Type 0 where
  pub no_word : is_identifier_start (slice_index rest 0) ≡ false
  pub no_white_space : is_white_space (slice_index rest 0) ≡ false
  pub no_line_terminator : is_line_terminator (slice_index rest 0) ≡ false
  pub no_digit : is_decimal_digit (slice_index rest 0) ≡ false
  pub no_quote : is_quote (slice_index rest 0) ≡ false
  pub no_template : slice_index rest 0 ≡ 96 → ⊥
  pub no_template_part : closing ≡ true → slice_index rest 0 ≡ 125 → ⊥
  pub no_escape : slice_index rest 0 ≡ 92 → ⊥
  pub no_comment : slice_index rest 0 ≡ 47 → ((slice_index rest 1 ≡ 47) ⊎ (slice_index rest 1 ≡ 42)) → ⊥
  pub no_fraction : slice_index rest 0 ≡ 46 → is_decimal_digit (slice_index rest 1) ≡ false

-- what stands in front of a text, where a `}` may close a `${`: one production each
pub data Front (closing : Bool) : List ℕ → Element → Type 0 where
  at_end : Front closing [] Finished
  word : (c : ℕ) (rest : List ℕ) (e : Element) → is_identifier_start c ≡ true → IsWordOrFault rest e → Front closing (c ∷ rest) e
  white_space : (c : ℕ) (rest : List ℕ) → is_white_space c ≡ true → Front closing (c ∷ rest) (Skip 1 false)
  line_terminator : (c : ℕ) (rest : List ℕ) → is_line_terminator c ≡ true → Front closing (c ∷ rest) (Skip 1 true)
  line_comment : (cs after : List ℕ) → list_all is_not_line_terminator cs ≡ true → goes_on is_not_line_terminator after ≡ false → Front closing (47 ∷ 47 ∷ (cs ++ after)) (Skip (2 + length cs) false)
  block_comment : (rest : List ℕ) (e : Element) → IsComment 2 false rest e → Front closing (47 ∷ 42 ∷ rest) e
  number : (rest : List ℕ) (e : Element) → (is_decimal_digit (slice_index rest 0) ≡ true) ⊎ ((slice_index rest 0 ≡ 46) × (is_decimal_digit (slice_index rest 1) ≡ true)) → IsNumber rest e → Front closing rest e
  text : (quote : ℕ) (rest : List ℕ) (e : Element) → is_quote quote ≡ true → IsText quote 1 rest e → Front closing (quote ∷ rest) e
  template : (c : ℕ) (rest : List ℕ) (e : Element) → (c ≡ 96) ⊎ ((closing ≡ true) × (c ≡ 125)) → IsTemplate 1 rest e → Front closing (c ∷ rest) e
  escape_outside : (rest : List ℕ) → Front closing (92 ∷ rest) (Stop IdentifierEscape 0)
  punctuator : (c : ℕ) (rest : List ℕ) (e : Element) → BeginsNoOther closing (c ∷ rest) → IsPunctuator (c ∷ rest) e → Front closing (c ∷ rest) e

-- the tokens of the rest of a text, which begins at the offset, under the open braces, a line terminator standing before it or not
pub data TokensFrom : List Bool → Bool → ℕ → List ℕ → List Token → Type 0 where
  finished : (braces : List Bool) (newline : Bool) (offset : ℕ) (rest : List ℕ) → Front (closes braces) rest Finished
      → TokensFrom braces newline offset rest (token_at End offset offset newline ∷ [])
  stopped : (braces : List Bool) (newline : Bool) (offset : ℕ) (rest : List ℕ) (kind : LexicalKind) (at : ℕ) → Front (closes braces) rest (Stop kind at)
      → TokensFrom braces newline offset rest (token_at (Fault kind) (offset_after offset at rest) (offset_after offset (at + 1) rest) newline ∷ [])
  skipped : (braces : List Bool) (newline : Bool) (offset : ℕ) (rest : List ℕ) (n : ℕ) (line : Bool) (tokens : List Token) → Front (closes braces) rest (Skip n line)
      → TokensFrom braces (newline || line) (offset_after offset n rest) (drop n rest) tokens
      → TokensFrom braces newline offset rest tokens
  taken : (braces : List Bool) (newline : Bool) (offset : ℕ) (rest : List ℕ) (shape : Shape) (n : ℕ) (tokens : List Token) → Front (closes braces) rest (Take shape n)
      → TokensFrom (opened (kind_of shape (take n rest)) braces) false (offset_after offset n rest) (drop n rest) tokens
      → TokensFrom braces newline offset rest (token_at (kind_of shape (take n rest)) offset (offset_after offset n rest) newline ∷ tokens)

-- a text is a row of gaps and tokens, up to its end or its first fault
abbrev pub IsRowOf : List Token → List ℕ → Type 0
IsRowOf tokens cs = TokensFrom [] false 0 cs tokens

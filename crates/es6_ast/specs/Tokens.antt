-- The tokens over which the grammar is defined: those that are read from the text, and the semicolons that are inserted
-- (ECMA-262, 6th edition, 11.9).
use Rattle.std.specs.Prelude.{◌≡◌, ℕ, ◌-◌, Bool, true, false, not, List, [], ◌∷◌, length, take}
use Rattle.std.specs.Str.{bytes_eq}
use Rattle.es_text.specs.declared.Span.{Span}
use Rattle.es_outside.specs.HostNames.{reserved_words, is_among}
use Rattle.es6_lexer.specs.declared.token.Token.{Token}
use Rattle.es6_lexer.specs.declared.token.TokenKind.{TokenKind}
use Rattle.es6_lexer.specs.declared.token.TokenKind.TheVariants.{Word, Punctuator}
use Rattle.es6_lexer.specs.declared.token.Punctuator.{Punctuator as Mark}
use Rattle.es6_lexer.specs.declared.token.Punctuator.TheVariants.{LeftBrace, Star}

-- a token of the text, or a semicolon that is inserted: one that ends a do-while, or another
pub data Filling : Type 0 where
  Read : TokenKind → Filling
  Inserted : Bool → Filling

pub record Filled : Type 0 where
  pub kind : Filling
  pub span : Span
  -- whether a line terminator stands before it
  pub newline : Bool

abbrev pub read : Token → Filled
read t = record { kind = Read t.kind; span = t.span; newline = t.newline }

abbrev pub IsWord : List ℕ → Filled → Type 0
IsWord name t = t.kind ≡ Read (Word name)

abbrev pub IsMark : Mark → Filled → Type 0
IsMark mark t = t.kind ≡ Read (Punctuator mark)

-- [no LineTerminator here], before a token
abbrev pub IsOnLine : Filled → Type 0
IsOnLine t = t.newline ≡ false

-- tests of the first token of a row
abbrev pub is_word : List ℕ → Filling → Bool
is_word name (Read (Word other)) = bytes_eq other name
is_word name _ = false

abbrev pub is_left_brace : Filling → Bool
is_left_brace (Read (Punctuator LeftBrace)) = true
is_left_brace _ = false

abbrev pub is_star : Filling → Bool
is_star (Read (Punctuator Star)) = true
is_star _ = false

abbrev pub begins : (Filling → Bool) → List Filled → Bool
begins test [] = false
begins test (t ∷ ts) = test t.kind

-- the span of the tokens of the first list that stand before the second
abbrev pub begin_of : List Filled → ℕ
begin_of [] = 0
begin_of (t ∷ ts) = t.span.begin

abbrev pub end_of : ℕ → List Filled → ℕ
end_of at [] = at
end_of at (t ∷ ts) = end_of t.span.end ts

abbrev pub across : List Filled → List Filled → Span
across ts us = record { begin = begin_of ts; end = end_of 0 (take (length ts - length us) ts) }

-- Identifier (12.1): an IdentifierName that no reserved word of module code is (11.6.2, 12.1.1)
abbrev pub is_identifier : List ℕ → Bool
is_identifier name = not (is_among reserved_words name)

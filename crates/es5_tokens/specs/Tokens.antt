-- The tokens that are read as those of the definition of scripts.
use Rattle.std.specs.Prelude.{◌≡◌, ℕ, ◌+◌, ◌<◌, ◌⊎◌, true, false, List, ◌++◌, map, length, take, slice_index, Option, None, Some}
use Rattle.std.specs.Char.{is_ascii_digit}
use Rattle.es5_ast.specs.Lexical.{Kind5, Token5, Tokens5, width}
use Rattle.es5_ast.specs.Lexical as lexical
use Rattle.es5_tokens.specs.declared.token.Token.{Token}
use Rattle.es5_tokens.specs.declared.token.TokenKind.{TokenKind}
use Rattle.es5_tokens.specs.declared.token.TokenKind.TheVariants.{Word, Integer, Text, Punctuator}
use Rattle.es5_tokens.specs.declared.token.TokenFault.{TokenFault}
use Rattle.es5_tokens.specs.declared.token.TokenFault.TheVariants.{Lexical, Number}
use Rattle.es5_tokens.specs.Punctuators.{spelling}

abbrev pub kind5 : TokenKind → Kind5
kind5 (Word name) = lexical.Word name
kind5 (Integer value) = lexical.Integer value
kind5 (Text units) = lexical.Text units
kind5 (Punctuator p) = lexical.Punctuator (spelling p)

abbrev pub token5 : Token → Token5
token5 t = record { begin = t.begin; end = t.end; after_line = t.after_line; kind = kind5 t.kind }

-- what a number begins with (7.8.3): a digit, or a point and a digit
abbrev pub BeginsNumber : List ℕ → Type 0
BeginsNumber cs = (is_ascii_digit (slice_index cs 0) ≡ true) ⊎ ((slice_index cs 0 ≡ 46) × (is_ascii_digit (slice_index cs 1) ≡ true))

-- A number that the profile leaves out begins at the rest, or a lexical fault stands at one of its characters.
abbrev pub IsFaultAt : TokenFault → ℕ → List ℕ → Type 0
IsFaultAt Number at rest = (at ≡ 0) × BeginsNumber rest
IsFaultAt Lexical at rest = at < length rest

-- The tokens are those of the text up to its end, or those of a front of it, behind which a fault stands.
abbrev pub Reads : List ℕ → List Token → ℕ → Option TokenFault → Type 0
Reads text tokens end None = (end ≡ width text) × Tokens5 0 false text (map token5 tokens)
Reads text tokens end (Some fault) = (front : List ℕ) × (rest : List ℕ) × (at : ℕ) × (text ≡ front ++ rest) × Tokens5 0 false front (map token5 tokens) × IsFaultAt fault at rest × (end ≡ width front + width (take at rest))

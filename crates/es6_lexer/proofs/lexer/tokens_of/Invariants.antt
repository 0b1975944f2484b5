use Rattle.std.proofs.Common.{◌≡◌, ◌+◌, ◌++◌, List, length}
use Rattle.std.specs.Str.{encode_utf8_all}
use Rattle.es6_lexer.specs.declared.token.Token.{Token}
use Rattle.es6_lexer.specs.Lexes.{Lexes, LexesFrom}
use Rattle.es6_lexer.proofs.lexer.tokens_of.Given as goal

-- the tokens so far, with those of the rest, are those of the text
abbrev pub invariant-loop-tokens : goal.invariant-loop-tokens
invariant-loop-tokens l = record {
  lexes : (tokens : List Token) → LexesFrom l.braces l.newline l.offset l.rest tokens → Lexes l.text (l.tokens.items ++ tokens);
  bytes : l.left ≡ encode_utf8_all l.rest;
  size : l.offset + length l.left ≡ length l.bytes;
}

abbrev pub decreases-loop-tokens : goal.decreases-loop-tokens
decreases-loop-tokens l = length l.rest

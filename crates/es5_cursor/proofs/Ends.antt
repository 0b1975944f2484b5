-- What ends a statement in a text.
use Rattle.std.proofs.Common.{◌≡◌, refl}
use Rattle.std.specs.Prelude.{codes}
use Rattle.es5_ast.specs.Grammar.{ends, is_mark}
use Rattle.es5_tokens.specs.declared.token.TokenKind.{TokenKind}
use Rattle.es5_tokens.specs.declared.token.TokenKind.TheVariants.{Word, Integer, Text, Punctuator}
use Rattle.es5_tokens.specs.Tokens.{kind5}

pub ends_mark : (k : TokenKind) → ends (kind5 k) ≡ is_mark (codes ";") (kind5 k)
ends_mark (Word name) = refl
ends_mark (Integer value) = refl
ends_mark (Text units) = refl
ends_mark (Punctuator p) = refl

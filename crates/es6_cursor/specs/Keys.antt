-- Names of properties where they stand (12.2.6).
use Rattle.std.specs.Prelude.{Option, Some, None}
use Rattle.es_text.specs.declared.Span.{Span}
use Rattle.es6_lexer.specs.declared.token.TokenKind.TheVariants as kinds
use Rattle.es6_lexer.specs.declared.token.NumberToken.TheVariants.{Whole}
use Rattle.es6_ast.specs.declared.tree.Key.{Key}
use Rattle.es6_ast.specs.declared.tree.Key.TheVariants.{WordKey, TextKey, IntegerKey}
use Rattle.es6_cursor.specs.declared.key.KeyToken.{KeyToken}
use Rattle.es6_cursor.specs.declared.key.KeyToken.TheVariants as token
use Rattle.es6_ast.specs.Tokens.{Filling, Read, Filled}

-- the node that such a name is
abbrev pub key_of : KeyToken → Key
key_of (token.Word span name) = WordKey span name
key_of (token.Text span units) = TextKey span units
key_of (token.Integer span value) = IntegerKey span value

abbrev pub placed_key_in : Span → Filling → Option Key
placed_key_in span (Read (kinds.Word name)) = Some (WordKey span name)
placed_key_in span (Read (kinds.Text units)) = Some (TextKey span units)
placed_key_in span (Read (kinds.Number (Whole value))) = Some (IntegerKey span value)
placed_key_in span _ = None

abbrev pub placed_key_at : Filled → Option Key
placed_key_at t = placed_key_in t.span t.kind

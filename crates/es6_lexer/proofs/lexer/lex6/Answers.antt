use Rattle.std.proofs.Common.{sym, ap, ◌∙◌}
use Rattle.std.specs.Str.{encode_utf8_all}
use Rattle.std.proofs.lemmas.Str.{encodes-chars}
use Rattle.es6_lexer.proofs.lexer.lex6.Goals as goal

pub tokens_of-requires-clause-same : goal.tokens_of-requires-clause-same
tokens_of-requires-clause-same c =
    sym (ap encode_utf8_all (c.deref.ensures.value ∙ c.in-Ok.ensures.0) ∙ encodes-chars c.args.bytes.now c.requires.utf8)

use Rattle.std.proofs.Common.{◌∙◌, ap, sym}
use Rattle.es_outside.specs.HostNames.{is_among}
use Rattle.es6_ast.specs.Tokens.{Read}
use Rattle.es6_reading.specs.Statements.{statement_words}
use Rattle.es6_reading.specs.Words.{is_any_word}
use Rattle.es6_expr.proofs.statement_limit.is_statement_word.Goals as goal

pub returns-in-Word : goal.returns-in-Word
unfolding statement_words
returns-in-Word c = c.is_among.ensures ∙ ap (is_among statement_words) c.bytes.ensures ∙ ap (λ k. is_any_word statement_words (Read k)) (sym c.in-Word.is)

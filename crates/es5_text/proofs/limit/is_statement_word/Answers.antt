use Rattle.std.proofs.Common.{ap, sym, ◌∙◌}
use Rattle.es5_ast.specs.Lexical.{is_one_of}
use Rattle.es5_reading.specs.Statements.{statement_words, is_any_word}
use Rattle.es5_tokens.specs.Tokens.{kind5}
use Rattle.es5_text.proofs.limit.is_statement_word.Goals as goal

pub returns-in-Word : goal.returns-in-Word
unfolding statement_words
returns-in-Word c = c.is_one_of.ensures ∙ ap (λ name. is_one_of name statement_words) c.bytes.ensures ∙ ap (λ k. is_any_word statement_words (kind5 k)) (sym c.in-Word.is)

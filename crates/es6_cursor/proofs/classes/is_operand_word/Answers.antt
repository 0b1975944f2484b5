use Rattle.std.proofs.Common.{◌∙◌, ap, sym}
use Rattle.es_outside.specs.HostNames.{is_among}
use Rattle.es6_ast.specs.Tokens.{Read}
use Rattle.es6_reading.specs.Words.{is_any_word, operand_words}
use Rattle.es6_cursor.proofs.classes.is_operand_word.Goals as goal

pub returns-in-Word : goal.returns-in-Word
unfolding operand_words
returns-in-Word c = c.is_among.ensures ∙ ap (is_among operand_words) c.bytes.ensures ∙ ap (λ k. is_any_word operand_words (Read k)) (sym c.in-Word.is)

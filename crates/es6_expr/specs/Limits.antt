-- Statements where no construct may open any more.
use Rattle.std.specs.Prelude.{Bool, ◌&&◌, ◌||◌, codes}
use Rattle.es6_lexer.specs.declared.token.Punctuator.TheVariants as marks
use Rattle.es6_ast.specs.declared.settings.Flags.{Flags}
use Rattle.es6_ast.specs.Tokens.{Filled, is_word}
use Rattle.es6_reading.specs.Words.{is_any_word}
use Rattle.es6_reading.specs.Parser.{is_mark}
use Rattle.es6_reading.specs.Statements.{statement_words}

-- whether the token begins a statement that begins with no expression and no declaration
abbrev pub begins_other : Flags → Filled → Bool
begins_other f t = is_mark marks.LeftBrace t.kind || is_mark marks.Semicolon t.kind || is_any_word statement_words t.kind || (f.has_return && is_word (codes "return") t.kind)

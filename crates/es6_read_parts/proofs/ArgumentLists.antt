-- One turn of the list of arguments (ECMA-262, 6th edition, 12.3).
use Rattle.std.proofs.Common.{◌≡◌, true, ℕ, ◌+◌, ◌-◌, ◌<◌, List, [], ◌∷◌, ◌++◌, ap, ◌∙◌}
use Rattle.es6_lexer.specs.declared.token.Punctuator.TheVariants as marks
use Rattle.es6_ast.specs.declared.tree.Argument.{Argument}
use Rattle.es6_ast.specs.declared.settings.Flags.{Flags}
use Rattle.es6_reading.specs.Parser.{Input, Inner, Took, after, returns, on, take_as, mark, next_mark}
use Rattle.es6_reading.specs.Expressions.{argument, more_arguments}
use Rattle.es6_cursor.specs.Readers.{turns, before}
use Rattle.es6_cursor.specs.Takes.{Takes}
use Rattle.es6_cursor.proofs.Choices.{on_mark}
use Rattle.es6_cursor.proofs.Loops.{turn, one_before, then}

pub arguments_turn : (i : Inner) (f : Flags) (n : ℕ) (c : Input) → n < turns → more_arguments i f (turns - n) c ≡ after (argument i f c) (λ a. on (mark marks.Comma) (λ _ d. after (more_arguments i f (turns - (n + 1)) d) (λ xs. returns (a ∷ xs))) (λ d. after (take_as (mark marks.RightParenthesis) d) (λ _. returns (a ∷ []))))
unfolding more_arguments
arguments_turn i f n c h = ap (λ m. more_arguments i f m c) (turn n h)

pub arguments_more : (i : Inner) (f : Flags) (n : ℕ) (front : List Argument) (c d e : Input) (a : Argument) → n < turns → argument i f c ≡ Took a d → Takes (next_mark marks.Comma) d true e → before front (more_arguments i f (turns - n) c) ≡ before (front ++ a ∷ []) (more_arguments i f (turns - (n + 1)) e)
arguments_more i f n front c d e a lt read taken = ap (before front) (arguments_turn i f n c lt ∙ then _ read ∙ on_mark marks.Comma _ _ d e taken) ∙ one_before front a (more_arguments i f (turns - (n + 1)) e)

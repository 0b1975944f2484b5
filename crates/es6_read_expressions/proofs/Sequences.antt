-- One turn of the list of the parts of an expression with commas (ECMA-262, 6th edition, 12.15).
use Rattle.std.proofs.Common.{◌≡◌, true, ℕ, ◌+◌, ◌-◌, ◌<◌, List, [], ◌∷◌, ◌++◌, ap, ◌∙◌}
use Rattle.es6_lexer.specs.declared.token.Punctuator.TheVariants as marks
use Rattle.es6_ast.specs.declared.tree.Expression.{Expression}
use Rattle.es6_ast.specs.declared.settings.Flags.{Flags}
use Rattle.es6_reading.specs.Parser.{Input, Inner, Reading, Took, after, returns, on, mark, next_mark}
use Rattle.es6_reading.specs.Expressions.{parts, assignment}
use Rattle.es6_cursor.specs.Readers.{turns, before}
use Rattle.es6_cursor.specs.Takes.{Takes}
use Rattle.es6_cursor.proofs.Choices.{on_mark}
use Rattle.es6_cursor.proofs.Loops.{turn, one_before, then}

pub parts_turn : (i : Inner) (f : Flags) (n : ℕ) (c : Input) → n < turns → parts i f (turns - n) c ≡ after (assignment i f c) (λ x. on (mark marks.Comma) (λ _ d. after (parts i f (turns - (n + 1)) d) (λ xs. returns (x.value ∷ xs))) (returns (x.value ∷ [])))
unfolding parts
parts_turn i f n c h = ap (λ m. parts i f m c) (turn n h)

pub parts_more : (i : Inner) (f : Flags) (n : ℕ) (front : List Expression) (c d e : Input) (x : Reading) → n < turns → assignment i f c ≡ Took x d → Takes (next_mark marks.Comma) d true e → before front (parts i f (turns - n) c) ≡ before (front ++ x.value ∷ []) (parts i f (turns - (n + 1)) e)
parts_more i f n front c d e x lt read taken = ap (before front) (parts_turn i f n c lt ∙ then _ read ∙ on_mark marks.Comma _ _ d e taken) ∙ one_before front x.value (parts i f (turns - (n + 1)) e)

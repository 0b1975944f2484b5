-- One turn of a list of variables (ECMA-262, 6th edition, 13.3).
use Rattle.std.proofs.Common.{◌≡◌, Bool, true, false, ℕ, ◌+◌, ◌-◌, ◌<◌, List, [], ◌∷◌, ◌++◌, ap, ◌∙◌}
use Rattle.es6_lexer.specs.declared.token.Punctuator.TheVariants as marks
use Rattle.es6_ast.specs.declared.tree.Part.{Part}
use Rattle.es6_reading.specs.Parser.{Input, Took, Parser, after, returns, on, mark, next_mark}
use Rattle.es6_reading.specs.Statements.{one_variable, variables}
use Rattle.es6_cursor.specs.Readers.{turns, before}
use Rattle.es6_cursor.specs.Takes.{Takes}
use Rattle.es6_cursor.proofs.Choices.{on_mark, off_mark}
use Rattle.es6_cursor.proofs.Loops.{turn, one_before, then}

pub variables_turn : (one : Parser Part) (n : ℕ) (c : Input) → n < turns → variables one (turns - n) c
    ≡ after (one_variable one c) (λ q. on (mark marks.Comma) (λ _ d. after (variables one (turns - (n + 1)) d) (λ qs. returns (q ∷ qs))) (returns (q ∷ [])))
unfolding variables
variables_turn one n c h = ap (λ m. variables one m c) (turn n h)

pub variables_more : (one : Parser Part) (n : ℕ) (front : List Part) (c d e : Input) (q : Part) → n < turns → one_variable one c ≡ Took q d → Takes (next_mark marks.Comma) d true e
    → before front (variables one (turns - n) c) ≡ before (front ++ q ∷ []) (variables one (turns - (n + 1)) e)
variables_more one n front c d e q lt read taken = ap (before front) (variables_turn one n c lt ∙ then _ read ∙ on_mark marks.Comma (λ x. after (variables one (turns - (n + 1)) x) (λ qs. returns (q ∷ qs))) _ d e taken) ∙ one_before front q (variables one (turns - (n + 1)) e)

pub variables_last : (one : Parser Part) (n : ℕ) (front : List Part) (c d e : Input) (q : Part) → n < turns → one_variable one c ≡ Took q d → Takes (next_mark marks.Comma) d false e
    → before front (variables one (turns - n) c) ≡ Took (front ++ q ∷ []) e
variables_last one n front c d e q lt read none = ap (before front) (variables_turn one n c lt ∙ then _ read ∙ off_mark marks.Comma (λ x. after (variables one (turns - (n + 1)) x) (λ qs. returns (q ∷ qs))) _ d e none)

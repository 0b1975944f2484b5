-- One turn of a list of parameters.
use Rattle.std.proofs.Common.{◌≡◌, true, ℕ, ◌+◌, ◌-◌, ◌<◌, List, [], ◌∷◌, ◌++◌, ap, ◌∙◌}
use Rattle.std.specs.Prelude.{codes}
use Rattle.es5_ast.specs.declared.tree.Identifier5.{Identifier5}
use Rattle.es5_reading.specs.Parser.{Input5, Took, after, returns, on, take_as, mark, next_mark}
use Rattle.es5_reading.specs.Expressions.{identifier, more_parameters}
use Rattle.es5_cursor.specs.Readers.{turns, before}
use Rattle.es5_cursor.specs.Takes.{Takes}
use Rattle.es5_cursor.proofs.Loops.{turn, one_before, then}
use Rattle.es5_cursor.proofs.Choices.{on_mark}

pub parameters_turn : (n : ℕ) (c : Input5) → n < turns → more_parameters (turns - n) c ≡ after (identifier c) (λ x. on (mark (codes ",")) (λ _ d. after (more_parameters (turns - (n + 1)) d) (λ xs. returns (x ∷ xs))) (λ d. after (take_as (mark (codes ")")) d) (λ _. returns (x ∷ []))))
unfolding more_parameters
parameters_turn n c h = ap (λ m. more_parameters m c) (turn n h)

pub parameters_more : (n : ℕ) (front : List Identifier5) (c d e : Input5) (x : Identifier5) → n < turns → identifier c ≡ Took x d → Takes (next_mark (codes ",")) d true e → before front (more_parameters (turns - n) c) ≡ before (front ++ x ∷ []) (more_parameters (turns - (n + 1)) e)
parameters_more n front c d e x lt read taken = ap (before front) (parameters_turn n c lt ∙ then _ read ∙ on_mark _ _ _ d e taken) ∙ one_before front x (more_parameters (turns - (n + 1)) e)

-- One turn of the list of a script's statements, and its end (ECMA-262, 5.1 edition, 14).
use Rattle.std.proofs.Common.{◌≡◌, ℕ, true, false, ◌+◌, ◌-◌, ◌<◌, List, [], ◌∷◌, ◌++◌, ap, ◌∙◌}
use Rattle.es5_ast.specs.declared.tree.Stat5.{Stat5}
use Rattle.es5_reading.specs.Parser.{Input5, Inner5, Took, after, returns, if_next, next_is}
use Rattle.es5_reading.specs.Programs.{program}
use Rattle.es5_reading.specs.Statements as s
use Rattle.es5_cursor.specs.Readers.{turns, before}
use Rattle.es5_cursor.proofs.Choices.{chose, passed_by}
use Rattle.es5_cursor.proofs.Loops.{turn, one_before, then, ended}

pub program_turn : (i : Inner5) (n : ℕ) (c : Input5) → n < turns → program i (turns - n) c ≡ if_next (λ t. true) (λ d. after (s.statement i false true d) (λ x e. after (program i (turns - (n + 1)) e) (λ xs. returns (x ∷ xs)))) (returns []) c
unfolding program
program_turn i n c h = ap (λ m. program i m c) (turn n h)

pub program_more : (i : Inner5) (n : ℕ) (front : List Stat5) (c d : Input5) (x : Stat5) → n < turns → next_is (λ t. true) c.tokens ≡ true → s.statement i false true c ≡ Took x d
    → before front (program i (turns - n) c) ≡ before (front ++ x ∷ []) (program i (turns - (n + 1)) d)
program_more i n front c d x lt found read = ap (before front) (program_turn i n c lt ∙ chose _ _ _ c found ∙ then _ read) ∙ one_before front x (program i (turns - (n + 1)) d)

pub program_end : (i : Inner5) (n : ℕ) (front : List Stat5) (c : Input5) → n < turns → next_is (λ t. true) c.tokens ≡ false → before front (program i (turns - n) c) ≡ Took front c
program_end i n front c lt h = ended front (program_turn i n c lt ∙ passed_by _ _ _ c h)

-- How each list of statements and their parts ends.
use Rattle.std.proofs.Common.{◌≡◌, ℕ, Bool, true, false, ◌-◌, ◌<◌, List, [], ◌∷◌, ◌++◌, ap, ◌∙◌}
use Rattle.std.specs.Prelude.{codes}
use Rattle.es5_ast.specs.declared.tree.Declared5.{Declared5}
use Rattle.es5_ast.specs.declared.tree.Case5.{Case5}
use Rattle.es5_ast.specs.declared.tree.Stat5.{Stat5}
use Rattle.es5_reading.specs.Parser.{Input5, Inner5, Took, Fault, Endless, Parser, next_is, next_mark}
use Rattle.es5_reading.specs.Statements.{declared_list, ends_case, in_case, cases}
use Rattle.es5_cursor.specs.Takes.{Takes}
use Rattle.es5_cursor.proofs.Choices.{on_mark, chose, passed_by}
use Rattle.es5_cursor.specs.Readers.{turns, before}
use Rattle.es5_cursor.proofs.Loops.{ended}
use Rattle.es5_read_statements.proofs.StatementLists.{in_case_turn, cases_turn}

pub declared_endless : (one : Parser Declared5) (n : ℕ) (front : List Declared5) (c : Input5) → turns - n ≡ 0 → before front (declared_list one (turns - n) c) ≡ Fault Endless c.tokens
unfolding declared_list
declared_endless one n front c h = ap (λ m. before front (declared_list one m c)) h

pub in_case_end : (i : Inner5) (inside : Bool) (n : ℕ) (front : List Stat5) (c : Input5) → n < turns → next_is ends_case c.tokens ≡ true → before front (in_case i inside (turns - n) c) ≡ Took front c
in_case_end i inside n front c lt h = ended front (in_case_turn i inside n c lt ∙ chose _ _ _ c h)

pub cases_end : (i : Inner5) (inside may : Bool) (n : ℕ) (front : List Case5) (c d : Input5) → n < turns → Takes (next_mark (codes "}")) c true d → before front (cases i inside may (turns - n) c) ≡ Took front d
cases_end i inside may n front c d lt h = ended front (cases_turn i inside may n c lt ∙ on_mark _ _ _ c d h)

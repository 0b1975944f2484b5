-- The model's readers as the code sets them.
use Rattle.std.specs.Prelude.{ℕ, true, List, [], ◌++◌, codes}
use Rattle.es5_reading.specs.Parser.{Inner5, Parser, Outcome5, Took, Fault, returns, on, mark}
use Rattle.es5_reading.specs.Expressions.{more_parameters}
use Rattle.es5_reading.specs.Programs.{readers}
use Rattle.es5_ast.specs.declared.tree.Identifier5.{Identifier5}

-- how many turns a loop has: more than a text of the allowed length has tokens
unfoldable pub turns : ℕ
turns = 67108865

-- where so many constructs may still open
abbrev pub inner : ℕ → Inner5
inner room = readers true turns room

-- what was read before, and then what comes of the rest of a list
abbrev pub before : {A : Type 0} → List A → Outcome5 (List A) → Outcome5 (List A)
before front (Took xs c) = Took (front ++ xs) c
before front (Fault stop tokens) = Fault stop tokens

-- the parameters of a function after the opening parenthesis, wherever it stands (13)
unfoldable pub all_parameters : Parser (List Identifier5)
all_parameters = on (mark (codes ")")) (λ _. returns []) (more_parameters turns)

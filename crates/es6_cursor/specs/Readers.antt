-- The model's readers as the code sets them.
use Rattle.std.specs.Prelude.{ℕ, true, false, List, ◌++◌}
use Rattle.es6_reading.specs.Parser.{Inner, Parser, Outcome, Took, Fault, returns, on, ending, inserts, inserts_anywhere}
use Rattle.es6_reading.specs.Modules.{readers}

-- how many turns a loop has: more than a text of the allowed length has tokens
unfoldable pub turns : ℕ
turns = 67108865

-- where so many constructs may still open
abbrev pub inner : ℕ → Inner
inner room = readers true turns room

-- what was read before, and then what comes of the rest of a list
abbrev pub before : {A : Type 0} → List A → Outcome (List A) → Outcome (List A)
before front (Took xs c) = Took (front ++ xs) c
before front (Fault stop tokens) = Fault stop tokens

-- takes a semicolon, or nothing where one is inserted (11.9)
unfoldable pub ended : Parser (Unit {0})
ended = on (ending false) (λ t. returns (tt {0})) inserts

-- the same at the end of a do-while
unfoldable pub ended_do_while : Parser (Unit {0})
ended_do_while = on (ending true) (λ t. returns (tt {0})) inserts_anywhere

-- How a script begins (ECMA-262, 5.1 edition, 14.1).
use Rattle.std.specs.Prelude.{◌≡◌, Bool, false, List, [], ◌∷◌, Some, None, Result, Ok, Err}
use Rattle.es5_ast.specs.Lexical.{Token5}
use Rattle.es5_reading.specs.Parser.{Input5, next_is}
use Rattle.es5_reading.specs.Programs.{continues, directive_fault}
use Rattle.es5_cursor.specs.declared.halt.Halt.{Halt}
use Rattle.es5_cursor.specs.declared.halt.Halt.TheVariants.{Stopped, OutOfMemory}
use Rattle.es5_cursor.specs.Reads.{stop5}

-- whether the second token goes on with the expression of the first
abbrev pub continues_behind : List Token5 → Bool
continues_behind [] = false
continues_behind (t ∷ ts) = next_is continues ts

-- the script stops where the model says, or goes on with its statements from the first token
abbrev pub Stops : Input5 → Halt → Input5 → Type 0
Stops c (Stopped stop) d = directive_fault c.tokens ≡ Some (stop5 stop, d.tokens)
Stops c OutOfMemory d = Unit {0}

abbrev pub Begins : Input5 → Result (Unit {0}) Halt → Input5 → Type 0
Begins c (Ok x) d = (directive_fault c.tokens ≡ None) × (d ≡ c)
Begins c (Err halt) d = Stops c halt d

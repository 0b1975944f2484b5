-- What a reader's answer says in the terms of the model.
use Rattle.std.specs.Prelude.{◌≡◌, List, Result, Ok, Err}
use Rattle.es6_ast.specs.Tokens.{Filled}
use Rattle.es6_reading.specs.Parser.{Input, Outcome, Took, Fault}
use Rattle.es6_cursor.specs.declared.halt.Halt.{Halt}
use Rattle.es6_cursor.specs.declared.halt.Halt.TheVariants.{Stopped, OutOfMemory}

-- Memory that runs out says nothing; else the fault is the model's, and the cursor stands at it.
abbrev pub Halts : {A : Type 0} → Outcome A → Halt → List Filled → Type 0
Halts outcome (Stopped stop) tokens = outcome ≡ Fault stop tokens
Halts outcome OutOfMemory tokens = Unit {0}

-- what a reader that answers so says of the model's outcome, where the cursor stands at the input afterwards
abbrev pub Reads : {A : Type 0} → Outcome A → Result A Halt → Input → Type 0
Reads outcome (Ok x) c = outcome ≡ Took x c
Reads outcome (Err halt) c = Halts outcome halt c.tokens

-- the same where the model has what is made of the answer
abbrev pub ReadsAs : {A B : Type 0} → (A → B) → Outcome B → Result A Halt → Input → Type 0
ReadsAs made outcome (Ok x) c = outcome ≡ Took (made x) c
ReadsAs made outcome (Err halt) c = Halts outcome halt c.tokens

-- the same where nothing is kept of what was read
abbrev pub Skips : {A : Type 0} → Outcome A → Result (Unit {0}) Halt → Input → Type 0
Skips {A = A} outcome (Ok x) c = (y : A) × (outcome ≡ Took y c)
Skips outcome (Err halt) c = Halts outcome halt c.tokens

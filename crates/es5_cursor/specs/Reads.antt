-- What a reader's answer says in the terms of the model.
use Rattle.std.specs.Prelude.{◌≡◌, List, Result, Ok, Err}
use Rattle.es5_ast.specs.Lexical.{Token5}
use Rattle.es5_reading.specs.Parser.{Input5, Stop5, Syntax, Depth, Outside, Endless, Outcome5, Took, Fault}
use Rattle.es5_cursor.specs.declared.halt.Stop.{Stop}
use Rattle.es5_cursor.specs.declared.halt.Stop.TheVariants as stop
use Rattle.es5_cursor.specs.declared.halt.Halt.{Halt}
use Rattle.es5_cursor.specs.declared.halt.Halt.TheVariants.{Stopped, OutOfMemory}

abbrev pub stop5 : Stop → Stop5
stop5 stop.Syntax = Syntax
stop5 stop.Depth = Depth
stop5 (stop.Outside rule) = Outside rule
stop5 stop.Endless = Endless

-- Memory that runs out says nothing; else the fault is the model's, and the cursor stands at it.
abbrev pub Halts : {A : Type 0} → Outcome5 A → Halt → List Token5 → Type 0
Halts outcome (Stopped stop) tokens = outcome ≡ Fault (stop5 stop) tokens
Halts outcome OutOfMemory tokens = Unit {0}

-- what a reader that answers so says of the model's outcome, where the cursor stands at the input afterwards
abbrev pub Reads : {A : Type 0} → Outcome5 A → Result A Halt → Input5 → Type 0
Reads outcome (Ok x) c = outcome ≡ Took x c
Reads outcome (Err halt) c = Halts outcome halt c.tokens

-- the same where nothing is kept of what was read
abbrev pub Skips : {A : Type 0} → Outcome5 A → Result (Unit {0}) Halt → Input5 → Type 0
Skips {A = A} outcome (Ok x) c = (y : A) × (outcome ≡ Took y c)
Skips outcome (Err halt) c = Halts outcome halt c.tokens

-- the same where the model has what is made of the answer
abbrev pub ReadsAs : {A B : Type 0} → (A → B) → Outcome5 B → Result A Halt → Input5 → Type 0
ReadsAs made outcome (Ok x) c = outcome ≡ Took (made x) c
ReadsAs made outcome (Err halt) c = Halts outcome halt c.tokens

-- the same of a reader that puts what it reads into a list
abbrev pub ReadsInto : {A : Type 0} → Outcome5 (List A) → Result (Unit {0}) Halt → List A → Input5 → Type 0
ReadsInto outcome (Ok x) list c = outcome ≡ Took list c
ReadsInto outcome (Err halt) list c = Halts outcome halt c.tokens

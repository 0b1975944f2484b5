-- The state of a script's run: the environment records, whose bindings all have values, and the stack of execution
-- contexts (ECMA-262, 5.1 edition, 10.2 and 10.3). The events so far and the answers left belong to the run itself.
use Rattle.std.specs.Prelude.{ℕ, zero, suc, if◌then◌else◌, List, [], ◌∷◌, Option, Some, None}
use Rattle.std.specs.Str.{bytes_eq}
use Rattle.es_outside.specs.declared.primitive.Primitive.{Primitive}
use Rattle.es_outside.specs.declared.events.Seen.{Seen}
use Rattle.first_target.specs.declared.Stat5.{Stat5}
use Rattle.first_target.specs.declared.Call5.{Call5}
use Rattle.first_target.specs.declared.Sum5.{Sum5}
use Rattle.first_target.specs.declared.Term5.{Term5}

-- The value of a binding: a primitive, or a host function, which is the one kind of object that there is today.
pub data Value5 : Type 0 where
  PrimitiveValue : Primitive → Value5
  HostFunction : ℕ → Value5

pub record Entry5 : Type 0 where
  pub name : List ℕ
  pub value : Value5

-- the bindings of a scope (10.2.1): the first entry of a name is its binding
pub record EnvironmentRecord5 : Type 0 where
  pub entries : List Entry5

abbrev pub value_in : List Entry5 → List ℕ → Option Value5
value_in [] name = None
value_in (e ∷ es) name = if bytes_eq e.name name then Some e.value else value_in es name

-- What a name refers to (10.2.2.1): a value, a global of the built-ins that the profile keeps or leaves out, or nothing.
pub data Reference5 : Type 0 where
  Bound : Value5 → Reference5
  KeptGlobal : Reference5
  LeftOutGlobal : Reference5
  Unresolvable : Reference5

-- What begins: a statement, a call, a sum or an operand.
pub data Node5 : Type 0 where
  StatNode : Stat5 → Node5
  CallNode : Call5 → Node5
  SumNode : Sum5 → Node5
  TermNode : Term5 → Node5

-- How a node completes (8.9): with no value, with a value, or by a throw.
pub data Completion5 : Type 0 where
  Empty : Completion5
  Normal : Primitive → Completion5
  Throw : Seen → Completion5

-- What a context does next: it begins a node, or hands a completion to its top frame.
pub data Control5 : Type 0 where
  Begin : Node5 → Control5
  Hand : Completion5 → Control5

-- what a callee is: a host function by its number, or a value that can't be called
pub data Callee5 : Type 0 where
  Host : ℕ → Callee5
  NotCallable : Callee5

-- What is pending in a context, with what a completion is handed to: the statements that follow; the variable that is
-- assigned; a sum's operands that follow its value so far; the value so far of a sum whose next operand is being
-- evaluated, and the operands after it; a call's values so far, and the arguments after the one that is being evaluated.
-- A number is the place of the sum or the call.
pub data Frame5 : Type 0 where
  StatsRest : List Stat5 → Frame5
  AssignVar : List ℕ → Frame5
  OperandsRest : ℕ → List Term5 → Frame5
  OperandRight : ℕ → Primitive → List Term5 → Frame5
  ArgumentsRest : Callee5 → ℕ → List Primitive → List Sum5 → Frame5

-- an execution context (10.3): the number of its environment record, what is pending, and its control
pub record Context5 : Type 0 where
  pub environment : ℕ
  pub frames : List Frame5
  pub control : Control5

-- the scripts that aren't entered yet
pub record State5 : Type 0 where
  pub records : List EnvironmentRecord5
  pub stack : List Context5
  pub pending : List (List Stat5)

-- the entries of a record by its number
abbrev pub entries_of5 : List EnvironmentRecord5 → ℕ → List Entry5
entries_of5 [] n = []
entries_of5 (r ∷ rs) zero = r.entries
entries_of5 (r ∷ rs) (suc n) = entries_of5 rs n

-- the records, where one has a new entry
abbrev pub with_entry5 : List EnvironmentRecord5 → ℕ → Entry5 → List EnvironmentRecord5
with_entry5 [] n e = []
with_entry5 (r ∷ rs) zero e = record { entries = e ∷ r.entries } ∷ rs
with_entry5 (r ∷ rs) (suc n) e = r ∷ with_entry5 rs n e

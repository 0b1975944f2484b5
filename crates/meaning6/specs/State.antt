-- The state of a source run: the environment records, the stack of execution contexts and the modules still to be
-- evaluated (ECMA-262, 6th edition, 8.1 and 8.3). The events so far and the answers left belong to the run itself.
use Rattle.std.specs.Prelude.{ℕ, zero, suc, Bool, true, false, if◌then◌else◌, List, [], ◌∷◌, ◌++◌, Option, Some, None, map}
use Rattle.std.specs.Str.{bytes_eq}
use Rattle.es_outside.specs.declared.primitive.Primitive.{Primitive}
use Rattle.es_outside.specs.declared.events.Seen.{Seen}
use Rattle.first_trees.specs.declared.Module.{Module}
use Rattle.first_trees.specs.declared.Item.{Item}
use Rattle.first_trees.specs.declared.Item.TheVariants as item
use Rattle.first_trees.specs.declared.DeclarationKind.{DeclarationKind}
use Rattle.first_trees.specs.declared.Call.{Call}
use Rattle.first_trees.specs.declared.Sum.{Sum}
use Rattle.first_trees.specs.declared.Term.{Term}

-- A binding is uninitialized, or a value with a mark whether it can be assigned, or an imported host function.
pub data Binding : Type 0 where
  Uninitialized : Binding
  Initialized : Primitive → Bool → Binding
  HostFunction : ℕ → Binding

pub record Entry : Type 0 where
  pub name : List ℕ
  pub binding : Binding

-- the bindings of a scope (8.1.1): the first entry of a name is its binding
pub record EnvironmentRecord : Type 0 where
  pub entries : List Entry

abbrev pub binding_in : List Entry → List ℕ → Option Binding
binding_in [] name = None
binding_in (e ∷ es) name = if bytes_eq e.name name then Some e.binding else binding_in es name

-- What begins: an item, a call, a sum or an operand.
pub data Node : Type 0 where
  ItemNode : Item → Node
  CallNode : Call → Node
  SumNode : Sum → Node
  TermNode : Term → Node

-- How a node completes (6.2.2): with no value, with a value, or by a throw.
pub data Completion : Type 0 where
  Empty : Completion
  Value : Primitive → Completion
  Throw : Seen → Completion

-- What a context does next: it begins a node, or hands a completion to its top frame.
pub data Control : Type 0 where
  Begin : Node → Control
  Hand : Completion → Control

-- what a callee names: a host by its number, or a value that can't be called
pub data Callee : Type 0 where
  Host : ℕ → Callee
  NotCallable : Callee

-- What is pending in a context, with what a completion is handed to:
-- the items that follow; the declared name; a sum's operands that follow its value so far; the value so far of a sum
-- whose next operand is being evaluated, and the operands after it; a call's values so far, and the arguments after
-- the one that is being evaluated. A number is the place of the sum or the call.
pub data Frame : Type 0 where
  ItemsRest : List Item → Frame
  Initialize : DeclarationKind → List ℕ → Frame
  OperandsRest : ℕ → List Term → Frame
  OperandRight : ℕ → Primitive → List Term → Frame
  ArgumentsRest : Callee → ℕ → List Primitive → List Sum → Frame

-- an execution context (8.3): the number of its environment record, what is pending, and its control
pub record Context : Type 0 where
  pub environment : ℕ
  pub frames : List Frame
  pub control : Control

-- a module that isn't evaluated yet, and the number of its environment record
pub record Pending : Type 0 where
  pub environment : ℕ
  pub items : List Item

pub record State : Type 0 where
  pub records : List EnvironmentRecord
  pub stack : List Context
  pub pending : List Pending

-- the entries of a record by its number
abbrev pub entries_of : List EnvironmentRecord → ℕ → List Entry
entries_of [] n = []
entries_of (r ∷ rs) zero = r.entries
entries_of (r ∷ rs) (suc n) = entries_of rs n

-- the records, where one has a new entry
abbrev pub with_entry : List EnvironmentRecord → ℕ → Entry → List EnvironmentRecord
with_entry [] n e = []
with_entry (r ∷ rs) zero e = record { entries = e ∷ r.entries } ∷ rs
with_entry (r ∷ rs) (suc n) e = r ∷ with_entry rs n e

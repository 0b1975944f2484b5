-- The steps of a source run. A step begins a node, or hands a completion to the top frame.
use Rattle.std.specs.Prelude.{ℕ, Bool, true, false, List, [], ◌∷◌, ◌++◌, Option, Some, None, pos, map}
use Rattle.std.specs.Str.{bytes_eq}
use Rattle.std.specs.List.{position_from}
use Rattle.runs.specs.Run.{Step, Goes, Asks, Ends, Leaves, run}
use Rattle.shared_meaning.specs.Addition.{added}
use Rattle.shared_meaning.specs.Ending.{Finish, Ended, Threw, Exit, ProgramBehaviour}
use Rattle.es_outside.specs.declared.primitive.Primitive.{Primitive}
use Rattle.es_outside.specs.declared.primitive.Primitive.TheVariants as prim
use Rattle.es_outside.specs.declared.events.Seen.{Seen}
use Rattle.es_outside.specs.declared.events.Seen.TheVariants as seen
use Rattle.es_outside.specs.declared.events.Event.{Event}
use Rattle.es_outside.specs.declared.events.Site.{Site}
use Rattle.es_outside.specs.declared.host.Reply.{Reply}
use Rattle.es_outside.specs.declared.host.Reply.TheVariants as reply
use Rattle.first_trees.specs.declared.Module.{Module}
use Rattle.first_trees.specs.declared.Item.{Item}
use Rattle.first_trees.specs.declared.Item.TheVariants as item
use Rattle.first_trees.specs.declared.DeclarationKind.{DeclarationKind}
use Rattle.first_trees.specs.declared.DeclarationKind.TheVariants as kind
use Rattle.first_trees.specs.declared.Expression.{Expression}
use Rattle.first_trees.specs.declared.Expression.TheVariants as expression
use Rattle.first_trees.specs.declared.Call.{Call}
use Rattle.first_trees.specs.declared.Sum.{Sum}
use Rattle.first_trees.specs.declared.Term.{Term}
use Rattle.first_trees.specs.declared.Term.TheVariants as term
use Rattle.meaning6.specs.State.{Binding, Uninitialized, Initialized, HostFunction, Entry, EnvironmentRecord, binding_in, Node, ItemNode, CallNode, SumNode, TermNode, Completion, Empty, Value, Throw, Control, Begin, Hand, Callee, Host, NotCallable, Frame, ItemsRest, Initialize, OperandsRest, OperandRight, ArgumentsRest, Context, Pending, State, entries_of, with_entry}

abbrev pub Next : Type 0
Next = Step State Event Reply Finish Exit

-- a place of the one module
abbrev pub site_at : ℕ → Site
site_at place = record { «module» = 0; at = place }

-- The running context, what it needs of the state, and the contexts below it.
pub record Running : Type 0 where
  pub state : State
  pub environment : ℕ
  pub below : List Context

-- the context goes on with these frames and this control
abbrev pub then : Running → List Frame → Control → State
then r frames control =
    record r.state { stack = record { environment = r.environment; frames = frames; control = control } ∷ r.below }

abbrev pub goes : Running → List Frame → Control → Next
goes r frames control = Goes (then r frames control)

abbrev pub lookup : Running → List ℕ → Option Binding
lookup r name = binding_in (entries_of r.state.records r.environment) name

-- GetValue of a name (6.2.3.1, 8.1.1.1.6): a name that has no value yet, or that nothing declares, throws. The
-- profile has no values for host functions.
abbrev pub value_of : Option Binding → Completion
value_of (Some (Initialized value mutable)) = Value value
value_of (Some Uninitialized) = Throw seen.ReferenceError
value_of (Some (HostFunction host)) = Throw seen.TypeError
value_of None = Throw seen.ReferenceError

-- Begin an operand (12.1.6, 12.2.4).
abbrev pub begin_term : Running → List Frame → Term → Next
begin_term r frames (term.Integer at value) = goes r frames (Hand (Value (prim.Number (pos value))))
begin_term r frames (term.Text at units) = goes r frames (Hand (Value (prim.Text units)))
begin_term r frames (term.Name at name) = goes r frames (Hand (value_of (lookup r name)))

-- Begin a sum (12.7.3): its first operand.
abbrev pub begin_sum : Running → List Frame → Sum → Next
begin_sum r frames sum = goes r (OperandsRest sum.at sum.rest ∷ frames) (Begin (TermNode sum.first))

-- What a host's answer completes the call with.
abbrev pub completion_of : Reply → Completion
completion_of (reply.Give value) = Value value
completion_of (reply.Throw value) = Throw (seen.Prim value)

-- The call itself (12.3.4.2, 7.3.12): the event, and what follows the answer.
abbrev pub call : Running → List Frame → Callee → ℕ → List Primitive → Next
call r frames (Host host) at values =
    Asks (record { host = host; args = values; site = site_at at }) (λ answer. then r frames (Hand (completion_of answer)))
call r frames NotCallable at values = goes r frames (Hand (Throw seen.TypeError))

-- The next argument, or the call where none is left (12.3.6.1).
abbrev pub next_argument : Running → List Frame → Callee → ℕ → List Primitive → List Sum → Next
next_argument r frames callee at values [] = call r frames callee at values
next_argument r frames callee at values (sum ∷ sums) = goes r (ArgumentsRest callee at values sums ∷ frames) (Begin (SumNode sum))

-- Begin a call (12.3.4.1): the callee's value, and then the first argument.
abbrev pub begin_call : Running → List Frame → Call → Option Binding → Next
begin_call r frames c (Some (HostFunction host)) = next_argument r frames (Host host) c.at [] c.args
begin_call r frames c (Some (Initialized value mutable)) = next_argument r frames NotCallable c.at [] c.args
begin_call r frames c (Some Uninitialized) = goes r frames (Hand (Throw seen.ReferenceError))
begin_call r frames c None = goes r frames (Hand (Throw seen.ReferenceError))

abbrev pub node_of : Expression → Node
node_of (expression.Sum sum) = SumNode sum
node_of (expression.Call call) = CallNode call

-- Begin an item: an import does nothing when it is evaluated (15.2.1.16.5), a declaration its initializer (13.3.1.4), a
-- call as a statement the call (13.5.1).
abbrev pub begin_item : Running → List Frame → Item → Next
begin_item r frames (item.Import names) = goes r frames (Hand Empty)
begin_item r frames (item.Declaration kind name init) = goes r (Initialize kind name ∷ frames) (Begin (node_of init))
begin_item r frames (item.Expression c) = goes r frames (Begin (CallNode c))

abbrev pub begin : Running → List Frame → Node → Next
begin r frames (ItemNode i) = begin_item r frames i
begin r frames (CallNode c) = begin_call r frames c (lookup r c.callee)
begin r frames (SumNode sum) = begin_sum r frames sum
begin r frames (TermNode t) = begin_term r frames t

-- A completion that is no throw, handed to the items that follow (15.2.1.20).
abbrev pub next_item : Running → List Frame → List Item → Next
next_item r frames [] = goes r frames (Hand Empty)
next_item r frames (i ∷ items) = goes r (ItemsRest items ∷ frames) (Begin (ItemNode i))

-- let can be assigned, const can't
abbrev pub is_mutable : DeclarationKind → Bool
is_mutable kind.Let = true
is_mutable kind.Const = false

-- InitializeReferencedBinding (6.2.3.4)
abbrev pub initialize : Running → List Frame → DeclarationKind → List ℕ → Primitive → Next
initialize r frames kind name value =
    let entry : Entry = record { name = name; binding = Initialized value (is_mutable kind) } in
    goes (record r { state = record r.state { records = with_entry r.state.records r.environment entry } }) frames (Hand Empty)

-- The value of a sum so far, or the exit where it isn't a number of the profile.
abbrev pub sum_so_far : Running → List Frame → ℕ → List Term → Option Primitive → Next
sum_so_far r frames at terms None = Leaves (record { number = 1; site = site_at at })
sum_so_far r frames at terms (Some value) = goes r (OperandsRest at terms ∷ frames) (Hand (Value value))

abbrev pub next_operand : Running → List Frame → ℕ → Primitive → List Term → Next
next_operand r frames at value [] = goes r frames (Hand (Value value))
next_operand r frames at value (t ∷ terms) = goes r (OperandRight at value terms ∷ frames) (Begin (TermNode t))

-- A value handed to a frame.
abbrev pub hand_value : Running → List Frame → Primitive → Frame → Next
hand_value r frames value (ItemsRest items) = next_item r frames items
hand_value r frames value (Initialize kind name) = initialize r frames kind name value
hand_value r frames value (OperandsRest at terms) = next_operand r frames at value terms
hand_value r frames value (OperandRight at left terms) = sum_so_far r frames at terms (added left value)
hand_value r frames value (ArgumentsRest callee at values sums) = next_argument r frames callee at (values ++ value ∷ []) sums

-- No value handed to a frame: only the items that follow take it.
abbrev pub hand_empty : Running → List Frame → Frame → Next
hand_empty r frames (ItemsRest items) = next_item r frames items
hand_empty r frames _ = goes r frames (Hand Empty)

-- A throw passes every frame.
abbrev pub hand : Running → Completion → List Frame → Next
hand r (Throw error) [] = Ends (Threw error)
hand r completion [] = Goes (record r.state { stack = r.below })
hand r (Throw error) (f ∷ frames) = goes r frames (Hand (Throw error))
hand r (Value value) (f ∷ frames) = hand_value r frames value f
hand r Empty (f ∷ frames) = hand_empty r frames f

abbrev pub on_control : Running → List Frame → Control → Next
on_control r frames (Begin node) = begin r frames node
on_control r frames (Hand completion) = hand r completion frames

-- The next module begins (15.2.1.16.5), or the run ends.
abbrev pub next_module : State → List Pending → Next
next_module s [] = Ends Ended
next_module s (m ∷ ms) =
    Goes (record s { stack = record { environment = m.environment; frames = ItemsRest m.items ∷ []; control = Hand Empty } ∷ []; pending = ms })

abbrev pub on_stack : State → List Context → Next
on_stack s [] = next_module s s.pending
on_stack s (c ∷ below) = on_control (record { state = s; environment = c.environment; below = below }) c.frames c.control

-- one step
abbrev pub step6 : State → Next
step6 s = on_stack s s.stack

-- The entries of a module's record when it is instantiated (15.2.1.16.4): its imports are bound to their hosts, and
-- what it declares is uninitialized.
abbrev pub import_binding : Option ℕ → Binding
import_binding (Some host) = HostFunction host
import_binding None = Uninitialized

abbrev pub import_entry : List (List ℕ) → List ℕ → Entry
import_entry hosts name = record { name = name; binding = import_binding (position_from (λ host. bytes_eq host name) 0 hosts) }

abbrev pub item_entries : List (List ℕ) → Item → List Entry
item_entries hosts (item.Import names) = map (import_entry hosts) names
item_entries hosts (item.Declaration kind name init) = record { name = name; binding = Uninitialized } ∷ []
item_entries hosts (item.Expression c) = []

abbrev pub module_entries : List (List ℕ) → List Item → List Entry
module_entries hosts [] = []
module_entries hosts (i ∷ items) = item_entries hosts i ++ module_entries hosts items

-- the state in which the module is instantiated and not evaluated
abbrev pub start6 : List (List ℕ) → Module → State
start6 hosts m = record {
  records = record { entries = module_entries hosts m.items } ∷ [];
  stack = [];
  pending = record { environment = 0; items = m.items } ∷ [];
}

-- what a module means where the program has these hosts
abbrev pub run6 : List (List ℕ) → Module → ProgramBehaviour
run6 hosts m = run step6 (start6 hosts m)

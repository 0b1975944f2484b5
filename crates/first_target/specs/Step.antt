-- The steps of a script's run. A step begins a node, or hands a completion to the top frame.
use Rattle.std.specs.Prelude.{ℕ, ◌+◌, Bool, true, false, ◌||◌, if◌then◌else◌, List, [], ◌∷◌, ◌++◌, Option, Some, None, pos, codes}
use Rattle.std.specs.Str.{bytes_eq}
use Rattle.runs.specs.Run.{Step, Goes, Asks, Ends, Leaves, run}
use Rattle.shared_meaning.specs.Addition.{added}
use Rattle.shared_meaning.specs.Ending.{Finish, Ended, Threw, Exit, ProgramBehaviour}
use Rattle.es_outside.specs.declared.primitive.Primitive.{Primitive}
use Rattle.es_outside.specs.declared.primitive.Primitive.TheVariants as prim
use Rattle.es_outside.specs.declared.events.Seen.TheVariants as seen
use Rattle.es_outside.specs.declared.events.Event.{Event}
use Rattle.es_outside.specs.declared.events.Site.{Site}
use Rattle.es_outside.specs.declared.host.Reply.{Reply}
use Rattle.es_outside.specs.declared.host.Reply.TheVariants as reply
use Rattle.first_target.specs.declared.Script.{Script}
use Rattle.first_target.specs.declared.Stat5.{Stat5}
use Rattle.first_target.specs.declared.Stat5.TheVariants as stat
use Rattle.first_target.specs.declared.Expr5.{Expr5}
use Rattle.first_target.specs.declared.Expr5.TheVariants as expr
use Rattle.first_target.specs.declared.Call5.{Call5}
use Rattle.first_target.specs.declared.Sum5.{Sum5}
use Rattle.first_target.specs.declared.Term5.{Term5}
use Rattle.first_target.specs.declared.Term5.TheVariants as term
use Rattle.first_target.specs.Names.{is_one_of, kept_globals, left_out_globals, known_globals}
use Rattle.first_target.specs.State.{Value5, PrimitiveValue, HostFunction, Entry5, EnvironmentRecord5, value_in, Reference5, Bound, KeptGlobal, LeftOutGlobal, Unresolvable, Node5, StatNode, CallNode, SumNode, TermNode, Completion5, Empty, Normal, Throw, Control5, Begin, Hand, Callee5, Host, NotCallable, Frame5, StatsRest, AssignVar, OperandsRest, OperandRight, ArgumentsRest, Context5, State5, entries_of5, with_entry5}

abbrev pub Next5 : Type 0
Next5 = Step State5 Event Reply Finish Exit

-- a place of the script
abbrev pub site_at5 : ℕ → Site
site_at5 place = record { «module» = 0; at = place }

-- The running context, what it needs of the state, and the contexts below it.
pub record Running5 : Type 0 where
  pub state : State5
  pub environment : ℕ
  pub below : List Context5

-- the context goes on with these frames and this control
abbrev pub then5 : Running5 → List Frame5 → Control5 → State5
then5 r frames control =
    record r.state { stack = record { environment = r.environment; frames = frames; control = control } ∷ r.below }

abbrev pub goes5 : Running5 → List Frame5 → Control5 → Next5
goes5 r frames control = Goes (then5 r frames control)

-- what a name that has no binding refers to: `undefined` is undefined (15.1.1.3)
abbrev pub global5 : List ℕ → Reference5
global5 name =
    if bytes_eq name (codes "undefined") then Bound (PrimitiveValue prim.Undefined)
    else (if is_one_of name kept_globals then KeptGlobal else (if is_one_of name left_out_globals then LeftOutGlobal else Unresolvable))

abbrev pub reference5 : List ℕ → Option Value5 → Reference5
reference5 name (Some value) = Bound value
reference5 name None = global5 name

abbrev pub lookup5 : Running5 → List ℕ → Reference5
lookup5 r name = reference5 name (value_in (entries_of5 r.state.records r.environment) name)

-- Where this meaning goes no further: by number 1 where a sum is no number of the profile, by number 7 at a global that it
-- leaves out, and by number 0 at an object as a value, since all that it has of objects is a call of a host's function by
-- its name.
abbrev pub leaves5 : ℕ → ℕ → Next5
leaves5 number at = Leaves (record { number = number; site = site_at5 at })

-- GetValue of an identifier (8.7.1): an unresolvable one throws.
abbrev pub hand_reference5 : Running5 → List Frame5 → ℕ → Reference5 → Next5
hand_reference5 r frames at (Bound (PrimitiveValue value)) = goes5 r frames (Hand (Normal value))
hand_reference5 r frames at (Bound (HostFunction host)) = leaves5 0 at
hand_reference5 r frames at KeptGlobal = leaves5 0 at
hand_reference5 r frames at LeftOutGlobal = leaves5 7 at
hand_reference5 r frames at Unresolvable = goes5 r frames (Hand (Throw seen.ReferenceError))

-- Begin an operand (11.1.2, 11.1.3).
abbrev pub begin_term5 : Running5 → List Frame5 → Term5 → Next5
begin_term5 r frames (term.Integer value) = goes5 r frames (Hand (Normal (prim.Number (pos value))))
begin_term5 r frames (term.Text units) = goes5 r frames (Hand (Normal (prim.Text units)))
begin_term5 r frames (term.Name at name) = hand_reference5 r frames at (lookup5 r name)

-- Begin a sum (11.6.1): its first operand.
abbrev pub begin_sum5 : Running5 → List Frame5 → Sum5 → Next5
begin_sum5 r frames sum = goes5 r (OperandsRest sum.at sum.rest ∷ frames) (Begin (TermNode sum.first))

-- What a host's answer completes the call with.
abbrev pub completion_of5 : Reply → Completion5
completion_of5 (reply.Give value) = Normal value
completion_of5 (reply.Throw value) = Throw (seen.Prim value)

-- The call itself (11.2.3): the event, and what follows the answer.
abbrev pub call5 : Running5 → List Frame5 → Callee5 → ℕ → List Primitive → Next5
call5 r frames (Host host) at values =
    Asks (record { host = host; args = values; site = site_at5 at }) (λ answer. then5 r frames (Hand (completion_of5 answer)))
call5 r frames NotCallable at values = goes5 r frames (Hand (Throw seen.TypeError))

-- The next argument, or the call where none is left (11.2.4).
abbrev pub next_argument5 : Running5 → List Frame5 → Callee5 → ℕ → List Primitive → List Sum5 → Next5
next_argument5 r frames callee at values [] = call5 r frames callee at values
next_argument5 r frames callee at values (sum ∷ sums) = goes5 r (ArgumentsRest callee at values sums ∷ frames) (Begin (SumNode sum))

-- Begin a call (11.2.3): the callee's value, and then the first argument.
abbrev pub begin_call5 : Running5 → List Frame5 → Call5 → Reference5 → Next5
begin_call5 r frames c (Bound (HostFunction host)) = next_argument5 r frames (Host host) c.at [] c.args
begin_call5 r frames c (Bound (PrimitiveValue value)) = next_argument5 r frames NotCallable c.at [] c.args
begin_call5 r frames c KeptGlobal = leaves5 0 c.at
begin_call5 r frames c LeftOutGlobal = leaves5 7 c.at
begin_call5 r frames c Unresolvable = goes5 r frames (Hand (Throw seen.ReferenceError))

abbrev pub node_of5 : Expr5 → Node5
node_of5 (expr.Sum sum) = SumNode sum
node_of5 (expr.Call call) = CallNode call

-- Begin a statement: a variable statement begins its initializer (12.2), an expression statement its expression (12.4).
abbrev pub begin_stat5 : Running5 → List Frame5 → Stat5 → Next5
begin_stat5 r frames (stat.Var at name init) = goes5 r (AssignVar name ∷ frames) (Begin (node_of5 init))
begin_stat5 r frames (stat.Expression e) = goes5 r frames (Begin (node_of5 e))

abbrev pub begin5 : Running5 → List Frame5 → Node5 → Next5
begin5 r frames (StatNode s) = begin_stat5 r frames s
begin5 r frames (CallNode c) = begin_call5 r frames c (lookup5 r c.callee)
begin5 r frames (SumNode sum) = begin_sum5 r frames sum
begin5 r frames (TermNode t) = begin_term5 r frames t

-- A completion that is no throw, handed to the statements that follow (14).
abbrev pub next_stat5 : Running5 → List Frame5 → List Stat5 → Next5
next_stat5 r frames [] = goes5 r frames (Hand Empty)
next_stat5 r frames (s ∷ stats) = goes5 r (StatsRest stats ∷ frames) (Begin (StatNode s))

-- PutValue to a variable (8.7.2)
abbrev pub assign5 : Running5 → List Frame5 → List ℕ → Primitive → Next5
assign5 r frames name value =
    let entry : Entry5 = record { name = name; value = PrimitiveValue value } in
    goes5 (record r { state = record r.state { records = with_entry5 r.state.records r.environment entry } }) frames (Hand Empty)

-- The value of a sum so far, or the exit where it isn't a number of the profile.
abbrev pub sum_so_far5 : Running5 → List Frame5 → ℕ → List Term5 → Option Primitive → Next5
sum_so_far5 r frames at terms None = leaves5 1 at
sum_so_far5 r frames at terms (Some value) = goes5 r (OperandsRest at terms ∷ frames) (Hand (Normal value))

abbrev pub next_operand5 : Running5 → List Frame5 → ℕ → Primitive → List Term5 → Next5
next_operand5 r frames at value [] = goes5 r frames (Hand (Normal value))
next_operand5 r frames at value (t ∷ terms) = goes5 r (OperandRight at value terms ∷ frames) (Begin (TermNode t))

-- A value handed to a frame.
abbrev pub hand_value5 : Running5 → List Frame5 → Primitive → Frame5 → Next5
hand_value5 r frames value (StatsRest stats) = next_stat5 r frames stats
hand_value5 r frames value (AssignVar name) = assign5 r frames name value
hand_value5 r frames value (OperandsRest at terms) = next_operand5 r frames at value terms
hand_value5 r frames value (OperandRight at left terms) = sum_so_far5 r frames at terms (added left value)
hand_value5 r frames value (ArgumentsRest callee at values sums) = next_argument5 r frames callee at (values ++ value ∷ []) sums

-- No value handed to a frame: only the statements that follow take it.
abbrev pub hand_empty5 : Running5 → List Frame5 → Frame5 → Next5
hand_empty5 r frames (StatsRest stats) = next_stat5 r frames stats
hand_empty5 r frames _ = goes5 r frames (Hand Empty)

-- A throw passes every frame.
abbrev pub hand5 : Running5 → Completion5 → List Frame5 → Next5
hand5 r (Throw error) [] = Ends (Threw error)
hand5 r completion [] = Goes (record r.state { stack = r.below })
hand5 r (Throw error) (f ∷ frames) = goes5 r frames (Hand (Throw error))
hand5 r (Normal value) (f ∷ frames) = hand_value5 r frames value f
hand5 r Empty (f ∷ frames) = hand_empty5 r frames f

abbrev pub on_control5 : Running5 → List Frame5 → Control5 → Next5
on_control5 r frames (Begin node) = begin5 r frames node
on_control5 r frames (Hand completion) = hand5 r completion frames

-- the names that a script declares
abbrev pub var_names : List Stat5 → List (List ℕ)
var_names [] = []
var_names (stat.Var at name init ∷ stats) = name ∷ var_names stats
var_names (stat.Expression e ∷ stats) = var_names stats

-- Declaration binding instantiation (10.5, step 8): a declared name that has no binding begins with undefined.
abbrev pub with_var : List Entry5 → List ℕ → Option Value5 → List Entry5
with_var entries name (Some value) = entries
with_var entries name None = record { name = name; value = PrimitiveValue prim.Undefined } ∷ entries

abbrev pub with_vars : List Entry5 → List (List ℕ) → List Entry5
with_vars entries [] = entries
with_vars entries (name ∷ names) = with_vars (with_var entries name (value_in entries name)) names

abbrev pub declare : List EnvironmentRecord5 → List (List ℕ) → List EnvironmentRecord5
declare [] names = []
declare (r ∷ rs) names = record { entries = with_vars r.entries names } ∷ rs

-- A script that declares the name of a host or of a known global leaves the profile, at the first such declaration.
abbrev pub is_host : Option Value5 → Bool
is_host (Some (HostFunction host)) = true
is_host (Some (PrimitiveValue value)) = false
is_host None = false

abbrev pub clashes : List Entry5 → List ℕ → Bool
clashes entries name = is_one_of name known_globals || is_host (value_in entries name)

abbrev pub first_clash : List Entry5 → List Stat5 → Option ℕ
first_clash entries [] = None
first_clash entries (stat.Var at name init ∷ stats) = if clashes entries name then Some at else first_clash entries stats
first_clash entries (stat.Expression e ∷ stats) = first_clash entries stats

abbrev pub enter_script : State5 → List (List Stat5) → List Stat5 → Option ℕ → Next5
enter_script s rest stats (Some at) = leaves5 7 at
enter_script s rest stats None =
    Goes (record { records = declare s.records (var_names stats); stack = record { environment = 0; frames = StatsRest stats ∷ []; control = Hand Empty } ∷ []; pending = rest })

-- The next script is entered (10.4.1), or the run ends.
abbrev pub next_script : State5 → List (List Stat5) → Next5
next_script s [] = Ends Ended
next_script s (stats ∷ rest) = enter_script s rest stats (first_clash (entries_of5 s.records 0) stats)

abbrev pub on_stack5 : State5 → List Context5 → Next5
on_stack5 s [] = next_script s s.pending
on_stack5 s (c ∷ below) = on_control5 (record { state = s; environment = c.environment; below = below }) c.frames c.control

-- one step
abbrev pub step5 : State5 → Next5
step5 s = on_stack5 s s.stack

-- the global functions of the fresh realm: one for each host
abbrev pub host_entries : ℕ → List (List ℕ) → List Entry5
host_entries number [] = []
host_entries number (name ∷ names) = record { name = name; value = HostFunction number } ∷ host_entries (number + 1) names

-- the fresh realm, in which the script isn't entered yet
abbrev pub start5 : List (List ℕ) → Script → State5
start5 hosts script = record {
  records = record { entries = host_entries 0 hosts } ∷ [];
  stack = [];
  pending = script.statements ∷ [];
}

-- what a script means where the realm has these hosts
abbrev pub run5 : List (List ℕ) → Script → ProgramBehaviour
run5 hosts script = run step5 (start5 hosts script)

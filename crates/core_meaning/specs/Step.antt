-- The steps. A step begins a node, goes one link on, makes one turn of an operation, or hands one completion to the top frame.
use Rattle.std.specs.Prelude.{List, None, Option, Some, [], false, if◌then◌else◌, true, ◌++◌, ◌∷◌}
use Rattle.runs.specs.Run.{Ends}
use Rattle.shared_meaning.specs.Ending.{Ended, Threw}
use Rattle.es_outside.specs.declared.events.Site.{Site}
use Rattle.es_value.specs.declared.value.Value.{Value}
use Rattle.es_value.specs.declared.value.Value.TheVariants as value
use Rattle.es_heap.specs.declared.key.Key.{Key}
use Rattle.es_heap.specs.declared.key.Key.TheVariants.{Text}
use Rattle.es_operators.specs.Primitives.{truth_of}
use Rattle.es_operators.specs.Seen.{seen_of}
use Rattle.es_calls.specs.Calls.{arg}
use Rattle.es_calls.specs.declared.call.BuiltinCall.{BuiltinCall}
use Rattle.es_calls.specs.declared.call.BuiltinStep.{BuiltinStep}
use Rattle.es_calls.specs.declared.call.BuiltinStep.TheVariants as answer
use Rattle.es_operations.specs.Numbers.{get_number}
use Rattle.es_operations.specs.Steps.{asks_presence, drops_throw, operation, step_operation}
use Rattle.es_operations.specs.Turning.{key_operand}
use Rattle.core_ast.specs.declared.parts.CoreOp.{CoreOp}
use Rattle.core_ast.specs.declared.parts.CoreOp.TheVariants as op
use Rattle.core_ast.specs.declared.parts.When.{When}
use Rattle.core_ast.specs.declared.parts.When.TheVariants as when
use Rattle.core_ast.specs.declared.tree.CoreCase.{CoreCase}
use Rattle.core_ast.specs.declared.tree.CoreExpr.{CoreExpr}
use Rattle.core_ast.specs.declared.tree.CoreLink.{CoreLink, out-CoreLink}
use Rattle.core_ast.specs.declared.tree.CoreLink.TheOpen as layer
use Rattle.core_ast.specs.declared.tree.CoreLink.TheOpen.{CoreLink-F}
use Rattle.core_ast.specs.declared.tree.CoreStat.{CoreStat}
use Rattle.core_ast.specs.declared.whole.Core.{Core}
use Rattle.core_meaning.specs.Calls.{call, call_value, call_with, construct, constructed, due, making}
use Rattle.core_meaning.specs.Expressions.{begin, initialize, operate_one, operator, sequence, set, step_name, with_all, with_current, with_step}
use Rattle.core_meaning.specs.Names.{write}
use Rattle.core_meaning.specs.Properties.{accessor, define, delete, element, hole, index, key_units, member, put, puts, reads, step_at, update}
use Rattle.core_meaning.specs.Rows.{Next, Rows, begins, calls, controls, goes, hands, has, leaves, pushed, raises, runs, unlawful, with_frames, with_heap, with_user, within}
use Rattle.core_meaning.specs.State.{After, Begin, Behind, Calls, Catching, Choice, Completion, Configuration, Context, Control, CoreValue, Current, Done, Fetch, Finishing, Frame, Gives, Go, Hand, Has, Jumps, Keyed, LoopBody, LoopTest, LoopUpdate, Made, Making, Matching, Method, Old, Operation, Part, Pending, Reference, Rest, Restore, Returning, Returns, Run, Sorts, State, StepAt, StepName, Store, Strict, Subject, Target, Throwing, Throws, Turn, User, Work}
use Rattle.core_meaning.specs.Statements.{catch, choose, finish, loop, loop_jumped, loop_on, loop_tested, match_next, matched, run_stats, target_jumped}

-- ---- strict links

unfoldable pub act_by : {s : Sorts} {S : Type 0} → Rows s S → Core → Strict s.Mark → State s S → CoreOp → Next s S
act_by rows core p st (op.Member k) = member rows (key_units k) p st
act_by rows core p st op.Index = index p st
act_by rows core p st op.Call = call p st
act_by rows core p st op.CallWith = with_all p st (call_with p st)
act_by rows core p st op.New = construct rows p st
act_by rows core p st op.Put = put p st p.current
act_by rows core p st op.Delete = delete p st p.current
act_by rows core p st (op.Update b) = update b p st p.current
act_by rows core p st (op.Step u) = step_at u p st p.current
act_by rows core p st (op.Operator b) = operator b p st
act_by rows core p st (op.Unary u) = with_current p.current st (λ v. operate_one p.links u v st)
act_by rows core p st op.Then = sequence p st
act_by rows core p st (op.Set x) = set rows x p st p.current
act_by rows core p st (op.Init x) = initialize x p st p.current
act_by rows core p st (op.StepVariable u x) = step_name u x p st
act_by rows core p st op.Element = element rows p st p.current
act_by rows core p st op.Hole = hole rows p st p.current
act_by rows core p st (op.Define k) = define rows (key_units k) p st
act_by rows core p st (op.Getter k) = accessor rows (key_units k) false p st
act_by rows core p st (op.Setter k) = accessor rows (key_units k) true p st
act_by rows core p st o = rows.act p st

abbrev pub act : {s : Sorts} {S : Type 0} → Rows s S → Core → Strict s.Mark → State s S → Next s S
act rows core p st = act_by rows core p st p.op

-- the parts that are left, from left to right, and then the operation
abbrev pub parts_by : {s : Sorts} {S : Type 0} → Rows s S → Core → Strict s.Mark → State s S → List CoreExpr → Next s S
parts_by rows core p st [] = act rows core p st
parts_by rows core p st (x ∷ xs) = begins (Part (record p { parts = xs })) x st

abbrev pub parts : {s : Sorts} {S : Type 0} → Rows s S → Core → Strict s.Mark → State s S → Next s S
parts rows core p st = parts_by rows core p st p.parts

abbrev pub part_given : {s : Sorts} {S : Type 0} → Rows s S → Core → Strict s.Mark → State s S → CoreValue s.Mark → Next s S
part_given rows core p st v = parts rows core (record p { values = p.values ++ v ∷ [] }) st

-- ---- a reference: a write or `delete` takes it as it is; a call, an update and a step read it before their parts are evaluated
-- and keep its base; all else takes its value (6.2.3.1, 12.3.4.1, 12.14.4)

pub data Taking : Type 0 where
  AsPlace : Taking
  WithValue : Taking
  AsValue : Taking

abbrev pub taking : CoreOp → Taking
taking op.Put = AsPlace
taking op.Delete = AsPlace
taking op.Call = WithValue
taking (op.Update b) = WithValue
taking (op.Step u) = WithValue
taking o = AsValue

-- what was read is the method of a call, or the old value
abbrev pub fetched : {M : Type 0} → Value → Key → CoreOp → Value → Current M
fetched base k op.Call v = Method v base
fetched base k o v = Old base k v

abbrev pub fetch_given : {s : Sorts} {S : Type 0} → Rows s S → Core → Value → Key → Strict s.Mark → State s S → Value → Next s S
fetch_given rows core base k p st v = parts rows core (record p { current = fetched base k p.op v }) st

abbrev pub strict_of : {M : Type 0} → CoreOp → Option Site → Current M → List CoreExpr → List CoreLink → Strict M
strict_of o site c xs links = record { op = o; site = site; current = c; values = []; parts = xs; links = links }

abbrev pub take : {s : Sorts} {S : Type 0} → Rows s S → Core → Value → Key → Strict s.Mark → CoreLink → State s S → Taking → Next s S
take rows core base k p l st AsPlace = parts rows core p st
take rows core base k p l st WithValue = reads (Fetch base k p) base k st
take rows core base k p l st AsValue = reads (After (l ∷ p.links)) base k st

abbrev pub go_reference : {s : Sorts} {S : Type 0} → Rows s S → Core → Value → Key → CoreLink → List CoreLink → State s S → CoreLink-F CoreLink CoreStat CoreCase CoreExpr → Next s S
go_reference rows core base k l ls st (layer.Strict o xs site) =
    take rows core base k (strict_of o site (Reference base k) xs ls) l st (taking o)
go_reference rows core base k l ls st other = reads (After (l ∷ ls)) base k st

-- ---- lazy links (12.12, 12.13)

abbrev pub otherwise : {s : Sorts} {S : Type 0} → Option CoreExpr → List CoreLink → State s S → Next s S
otherwise None links st = has value.Undefined links st
otherwise (Some other) links st = begins (After links) other st

abbrev pub lazy : {s : Sorts} {S : Type 0} → CoreExpr → Option CoreExpr → List CoreLink → State s S → Value → When → Next s S
lazy taken other links st v when.Truthy = if truth_of v then begins (After links) taken st else has v links st
lazy taken other links st v when.Falsy = if truth_of v then has v links st else begins (After links) taken st
lazy taken other links st v when.Choice = if truth_of v then begins (After links) taken st else otherwise other links st

abbrev pub go_value : {s : Sorts} {S : Type 0} → Rows s S → Core → Current s.Mark → List CoreLink → State s S → CoreLink-F CoreLink CoreStat CoreCase CoreExpr → Next s S
go_value rows core c ls st (layer.Strict o xs site) = parts rows core (strict_of o site c xs ls) st
go_value rows core c ls st (layer.Lazy w taken other) = with_current c st (λ v. lazy taken other ls st v w)
go_value rows core c ls st (layer.Run body) = runs (After ls) body st

-- ---- one link further; at the end the value is handed on

abbrev pub go_end : {s : Sorts} {S : Type 0} → State s S → Current s.Mark → Next s S
go_end st (Has v) = hands (Gives v) st
go_end st (Reference base k) = controls (Turn None (operation get_number base (key_operand k ∷ []))) st
go_end st c = unlawful st

abbrev pub go_link : {s : Sorts} {S : Type 0} → Rows s S → Core → CoreLink → List CoreLink → State s S → Current s.Mark → Next s S
go_link rows core l ls st (Reference base k) = go_reference rows core base k l ls st (out-CoreLink l)
go_link rows core l ls st c = go_value rows core c ls st (out-CoreLink l)

unfoldable pub go : {s : Sorts} {S : Type 0} → Rows s S → Core → Current s.Mark → List CoreLink → State s S → Next s S
go rows core c [] st = go_end st c
go rows core c (l ∷ ls) st = go_link rows core l ls st c

-- ---- a turn of an operation or of a function of the library

abbrev pub after_turn : {s : Sorts} {S : Type 0} → Rows s S → Option Site → BuiltinCall → State s S → BuiltinStep → Next s S
after_turn rows site c st answer.Running = controls (Turn site c) st
after_turn rows site c st (answer.CallOut f receiver args) = calls (Operation site c) (due f receiver args site) st
after_turn rows site c st (answer.ReadOut id k) = rows.read_out (asks_presence c) id k (pushed (Operation site c) st)
after_turn rows site c st (answer.Resume kind) = rows.resume kind c.this_value (arg c 0) st
after_turn rows site c st (answer.Done v) = hands (Gives (User v)) st
after_turn rows site c st (answer.Throws e) = raises e st
after_turn rows site c st (answer.Leaves x) = leaves x (pushed (Operation site c) st)
after_turn rows site c st other = unlawful st

unfoldable pub turn : {s : Sorts} {S : Type 0} → Rows s S → Option Site → BuiltinCall → State s S → Next s S
turn rows site c st =
    let t = step_operation rows.edition st.heap c in
    after_turn rows site t.call (with_heap t.heap st) t.step

abbrev pub received : BuiltinCall → Value → BuiltinCall
received c v = record c { input = v }

-- ---- completions: the value of an expression

abbrev pub keyed : {s : Sorts} {S : Type 0} → Value → List CoreLink → State s S → Value → Next s S
keyed base links st (value.Text us) = goes (Reference base (Text us)) links st
keyed base links st v = unlawful st

unfoldable pub given : {s : Sorts} {S : Type 0} → Rows s S → Core → CoreValue s.Mark → State s S → Frame s.Mark s.Work → Next s S
given rows core v st (Part p) = part_given rows core p st v
given rows core v st (Fetch base k p) = with_user v st (fetch_given rows core base k p st)
given rows core v st (After links) = goes (Has v) links st
given rows core v st (Behind w links) = goes (Has w) links st
given rows core v st (Keyed base links) = with_user v st (keyed base links st)
given rows core v st (Store base k links) = with_user v st (λ w. puts w base k w links st)
given rows core v st (StepAt u base k links) = with_user v st (λ w. with_step u w st (λ n result. puts result base k n links st))
given rows core v st (StepName u x links) = with_user v st (λ w. with_step u w st (λ n result. write rows x (User n) (User result) links st))
given rows core v st (Operation site c) = with_user v st (λ w. controls (Turn site (received c w)) st)
given rows core v st (Making f args target) = with_user v st (making f args target st)
given rows core v st (Made o) = with_user v st (λ w. hands (Gives (User (constructed o w))) st)
given rows core v st (Rest stats) = controls (Run stats) st
given rows core v st (Choice body cases) = with_user v st (λ w. if truth_of w then controls (Run body) st else choose cases st)
given rows core v st (Subject cases) = with_user v st (λ w. match_next w cases cases st)
given rows core v st (Matching w cases all) = with_user v st (matched w cases all st)
given rows core v st (LoopTest l) = with_user v st (loop_tested l st)
given rows core v st (LoopUpdate l) = loop l st
given rows core v st Returning = hands (Returns v) st
given rows core v st Throwing = with_user v st (λ w. hands (Throws w) st)
given rows core v st (Work w) = rows.work w (Gives v) st
given rows core v st f = unlawful st

-- the end of statements
unfoldable pub done : {s : Sorts} {S : Type 0} → Rows s S → State s S → Frame s.Mark s.Work → Next s S
done rows st (After links) = has value.Undefined links st
done rows st (Rest stats) = controls (Run stats) st
done rows st (LoopBody l) = loop_on l st
done rows st (Target label) = hands Done st
done rows st (Catching x names handler) = hands Done st
done rows st (Finishing last) = finish last Done st
done rows st (Pending completion) = hands completion st
done rows st (Restore e) = hands Done (within e st)
done rows st (Work w) = rows.work w Done st
done rows st f = unlawful st

-- a throw, a return or a jump: what isn't named here is dropped
abbrev pub thrown_out : {s : Sorts} {S : Type 0} → Option Site → BuiltinCall → Value → State s S → Next s S
thrown_out site c v st =
    if drops_throw c then controls (Turn site (received c value.Undefined)) st else hands (Throws v) st

unfoldable pub abrupt : {s : Sorts} {S : Type 0} → Rows s S → State s S → Frame s.Mark s.Work → Completion s.Mark → Next s S
abrupt rows st (Operation site c) (Throws v) = thrown_out site c v st
abrupt rows st (LoopBody l) (Jumps goes_on label) = loop_jumped l st goes_on label
abrupt rows st (Target target) (Jumps goes_on label) = target_jumped target st goes_on label
abrupt rows st (Catching x names handler) (Throws v) = catch rows x names handler st v
abrupt rows st (Finishing last) completion = finish last completion st
abrupt rows st (Restore e) completion = hands completion (within e st)
abrupt rows st (Work w) completion = rows.work w completion st
abrupt rows st f completion = hands completion st

abbrev pub handed : {s : Sorts} {S : Type 0} → Rows s S → Core → Frame s.Mark s.Work → State s S → Completion s.Mark → Next s S
handed rows core f st (Gives v) = given rows core v st f
handed rows core f st Done = done rows st f
handed rows core f st completion = abrupt rows st f completion

-- ---- the end of a context: a call gives what was returned, or undefined (9.2.1, 6 to 9), and at the end of the outermost one
-- the next body runs, if there is one

abbrev pub result_of : {s : Sorts} {S : Type 0} → State s S → Completion s.Mark → Next s S
result_of st (Returns v) = hands (Gives v) st
result_of st (Throws v) = hands (Throws v) st
result_of st (Jumps goes_on label) = unlawful st
result_of st completion = hands (Gives (User value.Undefined)) st

abbrev pub next_body : {s : Sorts} {S : Type 0} → State s S → List (List CoreStat) → Next s S
next_body st [] = Ends Ended
next_body st (b ∷ bs) = controls (Run b) (record st { ahead = bs })

abbrev pub outermost : {s : Sorts} {S : Type 0} → State s S → Completion s.Mark → Next s S
outermost st (Throws v) = Ends (Threw (seen_of st.heap v))
outermost st Done = next_body st st.ahead
outermost st completion = unlawful st

abbrev pub returned : {s : Sorts} {S : Type 0} → State s S → Completion s.Mark → List (Context s.Mark s.Own s.Work) → Next s S
returned st completion [] = outermost st completion
returned st completion (k ∷ ks) = result_of (record st { context = k; callers = ks }) completion

unfoldable pub hand : {s : Sorts} {S : Type 0} → Rows s S → Core → State s S → Completion s.Mark → List (Frame s.Mark s.Work) → Next s S
hand rows core st completion [] = returned st completion st.callers
hand rows core st completion (f ∷ fs) = handed rows core f (with_frames fs st) completion

-- ---- a step

abbrev pub step_by : {s : Sorts} {S : Type 0} → Rows s S → Core → State s S → Control s.Mark → Next s S
step_by rows core st (Begin x) = begin rows core x st
step_by rows core st (Go c links) = go rows core c links st
step_by rows core st (Run stats) = run_stats rows stats st
step_by rows core st (Turn site c) = turn rows site c st
step_by rows core st (Calls c) = call_value rows core c st c.function
step_by rows core st (Hand completion) = hand rows core st completion st.context.frames

unfoldable pub step : {s : Sorts} {S : Type 0} → Rows s S → Core → Configuration s S → Next s S
step rows core now = step_by rows core now.state now.control

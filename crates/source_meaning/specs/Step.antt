-- The steps of a run of modules, and what a graph means. A step begins a node, takes one turn of an operation, calls a function, or
-- hands one completion to the top frame.
use Rattle.std.specs.Prelude.{List, None, [], ◌∷◌}
use Rattle.runs.specs.Run.{Ends, run}
use Rattle.shared_meaning.specs.Ending.{Ended, ProgramBehaviour, Threw}
use Rattle.es_value.specs.declared.value.Value.TheVariants as value
use Rattle.es_operators.specs.Seen.{seen_of}
use Rattle.es_realm.specs.declared.edition.Edition.TheVariants.{Sixth}
use Rattle.es_calls.specs.Calls.{arg}
use Rattle.es_calls.specs.declared.call.BuiltinCall.{BuiltinCall}
use Rattle.es_calls.specs.declared.call.BuiltinStep.{BuiltinStep}
use Rattle.es_calls.specs.declared.call.BuiltinStep.TheVariants as answer
use Rattle.es_operations.specs.Steps.{asks_presence, step_operation}
use Rattle.es6_ast.specs.declared.graph.Graph.{Graph}
use Rattle.es6_ast.specs.declared.tree.Pattern.{out-Pattern}
use Rattle.source_meaning.specs.Calls.{call_value}
use Rattle.source_meaning.specs.Frames.{handed}
use Rattle.source_meaning.specs.Generators.{resume}
use Rattle.source_meaning.specs.Modules.{read_out, start, within_module}
use Rattle.source_meaning.specs.Nodes.{begin, refer, run_items, run_statements, start_statement}
use Rattle.source_meaning.specs.Patterns.{destructure}
use Rattle.source_meaning.specs.State.{Begin, Calls, Completion, Configuration, Context, Control, Destructure, Done, Due, Frame, Hand, Operation, Refer, Returns, Run, RunItems, Start, State, Throws, Turn}
use Rattle.source_meaning.specs.Steps.{Next, at_place, calls, controls, due, gives, hands, impossible, leaves, pushed, raises, with_frames, with_heap}

-- ---- a turn of an operation or of a function of the library

abbrev pub after_turn : BuiltinCall → State → BuiltinStep → Next
after_turn c st answer.Running = controls (Turn c) st
after_turn c st (answer.CallOut f receiver args) = calls (Operation c) (due f receiver args None) st
after_turn c st (answer.ReadOut id k) = read_out (asks_presence c) id k (pushed (Operation c) st)
after_turn c st (answer.Resume kind) = resume kind c.this_value (arg c 0) st
after_turn c st (answer.Done v) = gives v st
after_turn c st (answer.Throws e) = raises e st
after_turn c st (answer.Leaves x) = leaves x st
after_turn c st other = impossible st

unfoldable pub turn : BuiltinCall → State → Next
turn c st =
    let t = step_operation Sixth st.heap c in
    after_turn t.call (with_heap t.heap st) t.step

-- ---- the end of a context: a call gives what was returned, or undefined (9.2.1, steps 6 to 9). At the end of the outermost one the
-- next module is evaluated, if there is one; a throw ends the run (15.2.1.16.5)

abbrev pub result_of : State → Completion → Next
result_of st (Returns v) = gives v st
result_of st (Throws v) = hands (Throws v) st
result_of st c = gives value.Undefined st

abbrev pub next_module : State → List Due → Next
next_module st [] = Ends Ended
next_module st (m ∷ ms) = controls (RunItems m.items) (within_module m.home (record st { due = ms }))

abbrev pub outermost : State → Completion → Next
outermost st (Throws v) = Ends (Threw (seen_of st.heap v))
outermost st Done = next_module st st.due
outermost st c = impossible st

abbrev pub returned : State → Completion → List Context → Next
returned st c [] = outermost st c
returned st c (k ∷ ks) = result_of (record st { context = k; callers = ks }) c

unfoldable pub hand : State → Completion → List Frame → Next
hand st c [] = returned st c st.callers
hand st c (f ∷ fs) = handed f.work (at_place f.place (with_frames fs st)) c

-- ---- a step

abbrev pub step_by : State → Control → Next
step_by st (Begin x) = begin x st
step_by st (Refer x) = refer x st
step_by st (Run ss) = run_statements ss st
step_by st (RunItems items) = run_items items st
step_by st (Start labels s) = start_statement labels s st
step_by st (Destructure b p v) = destructure b v st (out-Pattern p)
step_by st (Turn c) = turn c st
step_by st (Calls c) = call_value c st c.function
step_by st (Hand c) = hand st c st.context.frames

unfoldable pub step : Configuration → Next
step c = step_by c.state c.control

-- what a linked graph does under the answers of hosts
abbrev pub run6 : Graph → ProgramBehaviour
run6 g = run step (start g)

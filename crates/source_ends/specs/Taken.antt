-- What is done with a completion, by what takes it: the rows of taken, over, resumed and given (crates/source_meaning, specs/Frames.antt).
use Rattle.std.specs.Prelude.{[]}
use Rattle.source_meaning.specs.State.{Completion, Done, Gives, Refers, Resumes, Run, RunItems, Start, State, Turn}
use Rattle.source_meaning.specs.Steps.{Next, controls, gives, hands, impossible, within}
use Rattle.es_calls.specs.declared.call.Resumption.{Resumption}
use Rattle.es_value.specs.declared.value.Value.{Value}
use Rattle.source_meaning.specs.Generators.{arrives, delegate_turn, generated, starts}
use Rattle.source_meaning.specs.Expressions.{assign_referred, deleted, update_referred}
use Rattle.source_meaning.specs.Patterns.{element_referred, elements_rest, member_referred, members_on, put_referred, rest_referred}
use Rattle.source_meaning.specs.Statements.{finish, run_block, variables_on}
use Rattle.source_meaning.specs.Loops.{for_of_step, loop_begun, loop_on}
use Rattle.source_meaning.specs.Lists.{linked}
use Rattle.source_meaning.specs.Calls.{parameters_bound, parameters_rest}
use Rattle.source_meaning.specs.Frames.{received}
use Rattle.source_takers.specs.Rows.{body_left, caller_left, scope_left, slot_left}
use Rattle.source_takers.specs.declared.takers.TargetTaker.{TargetTaker}
use Rattle.source_takers.specs.declared.takers.TargetTaker.TheVariants as target
use Rattle.source_takers.specs.declared.takers.SlotTaker.{SlotTaker}
use Rattle.source_takers.specs.declared.takers.SlotTaker.TheVariants as slot
use Rattle.source_takers.specs.declared.takers.EndTaker.{EndTaker}
use Rattle.source_takers.specs.declared.takers.EndTaker.TheVariants as end
use Rattle.source_takers.specs.declared.takers.ResumptionTaker.{ResumptionTaker}
use Rattle.source_takers.specs.declared.takers.ResumptionTaker.TheVariants as waiting
use Rattle.source_takers.specs.declared.takers.ScopeTaker.{ScopeTaker}
use Rattle.source_takers.specs.declared.takers.ScopeTaker.TheVariants as scope
use Rattle.source_takers.specs.declared.takers.CallerTaker.{CallerTaker}
use Rattle.source_takers.specs.declared.takers.CallerTaker.TheVariants as caller
use Rattle.source_takers.specs.declared.takers.BodyTaker.{BodyTaker}
use Rattle.source_takers.specs.declared.takers.BodyTaker.TheVariants as body

-- ---- what a target is

abbrev pub target_taken : TargetTaker → State → Completion → Next
target_taken (target.Links wanted ls) st c = linked wanted ls st c
target_taken (target.UpdateReference u) st c = update_referred u st c
target_taken target.Deleting st c = deleted st c
target_taken (target.AssignReference o x) st c = assign_referred o x st c
target_taken (target.PutTo v) st c = put_referred v st c
target_taken (target.MemberTarget v k default ps) st c = member_referred v k default ps st c

abbrev pub slot_taken : SlotTaker → State → Completion → Next
slot_taken (slot.ElementTarget done p default t) st c = element_referred done default t st c
slot_taken (slot.RestTarget done t) st c = rest_referred done t st c

-- ---- an end

abbrev pub end_over : EndTaker → State → Next
end_over (end.MembersRest b v ps) st = members_on b v ps st
end_over (end.StatementsRest ss) st = controls (Run ss) st
end_over (end.VariablesRest k ps) st = variables_on k ps st
end_over (end.CatchBlock b) st = run_block b st
end_over (end.Pending completion) st = hands completion st
end_over (end.ForOfBound body) st = controls (Start [] body) st
end_over (end.ParametersRest ps vs) st = parameters_rest ps vs st
end_over (end.ParametersBound code) st = parameters_bound code st
end_over (end.ItemsRest items) st = controls (RunItems items) st

abbrev pub scope_over : ScopeTaker → State → Next
scope_over (scope.Behind v) st = gives v st
scope_over (scope.Restore e) st = hands Done (within e st)
scope_over (scope.LoopBegin l) st = loop_begun l st

abbrev pub body_over : BodyTaker → State → Next
body_over body.SwitchBody st = hands Done st
body_over (body.Labelling l) st = hands Done st
body_over (body.Catching c) st = hands Done st
body_over (body.Finishing last) st = finish last Done st
body_over (body.LoopBody l) st = loop_on l st
body_over (body.ForOfBody l iterator) st = for_of_step l st iterator
body_over (body.ElementsRest done t) st = elements_rest done t st

-- ---- what a generator is resumed with

abbrev pub waiting_resumed : ResumptionTaker → State → Resumption → Value → Next
waiting_resumed (waiting.GeneratorStart body) st kind v = starts body st
waiting_resumed waiting.Yielded st kind v = arrives st kind v
waiting_resumed (waiting.Delegated iterator) st kind v = delegate_turn iterator st kind v

-- ---- a value

abbrev pub scope_given : ScopeTaker → State → Value → Next
scope_given (scope.Behind other) st v = gives other st
scope_given (scope.Restore e) st v = gives v (within e st)
scope_given (scope.LoopBegin l) st v = loop_begun l st

abbrev pub caller_given : CallerTaker → State → Value → Next
caller_given (caller.Operation c) st v = controls (Turn (received c v)) st
caller_given (caller.Generates n) st v = generated n st (Gives v)

-- ---- a completion

abbrev pub target_done : TargetTaker → State → Completion → Next
target_done t st (Gives v) = target_taken t st (Gives v)
target_done t st (Refers r) = target_taken t st (Refers r)
target_done t st Done = impossible st
target_done t st (Resumes kind v) = impossible st
target_done t st c = hands c st

abbrev pub slot_done : SlotTaker → State → Completion → Next
slot_done t st (Gives v) = slot_taken t st (Gives v)
slot_done t st (Refers r) = slot_taken t st (Refers r)
slot_done t st Done = impossible st
slot_done t st (Resumes kind v) = impossible st
slot_done t st c = slot_left t st c

abbrev pub end_done : EndTaker → State → Completion → Next
end_done t st (Gives v) = impossible st
end_done t st (Refers r) = impossible st
end_done t st Done = end_over t st
end_done t st (Resumes kind v) = impossible st
end_done t st c = hands c st

abbrev pub waiting_done : ResumptionTaker → State → Completion → Next
waiting_done t st (Gives v) = impossible st
waiting_done t st (Refers r) = impossible st
waiting_done t st Done = impossible st
waiting_done t st (Resumes kind v) = waiting_resumed t st kind v
waiting_done t st c = hands c st

abbrev pub scope_done : ScopeTaker → State → Completion → Next
scope_done t st (Gives v) = scope_given t st v
scope_done t st (Refers r) = impossible st
scope_done t st Done = scope_over t st
scope_done t st (Resumes kind v) = impossible st
scope_done t st c = scope_left t st c

abbrev pub caller_done : CallerTaker → State → Completion → Next
caller_done t st (Gives v) = caller_given t st v
caller_done t st (Refers r) = impossible st
caller_done t st Done = impossible st
caller_done t st (Resumes kind v) = impossible st
caller_done t st c = caller_left t st c

abbrev pub body_done : BodyTaker → State → Completion → Next
body_done t st (Gives v) = impossible st
body_done t st (Refers r) = impossible st
body_done t st Done = body_over t st
body_done t st (Resumes kind v) = impossible st
body_done t st c = body_left t st c

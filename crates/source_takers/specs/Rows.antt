-- What is done with a completion that is handed to pending work, by what the work takes. What isn't taken comes to no accepted program, or
-- passes on where it leaves a statement (crates/source_meaning, specs/Frames.antt).
use Rattle.std.specs.Prelude.{List, ℕ}
use Rattle.es_calls.specs.declared.call.BuiltinCall.{BuiltinCall}
use Rattle.es6_ast.specs.declared.tree.Catch.{Catch}
use Rattle.source_meaning.specs.Frames.{given, over, resumed, taken, thrown_out}
use Rattle.source_meaning.specs.Generators.{generated}
use Rattle.source_meaning.specs.Loops.{for_of_jumped, loop_continued}
use Rattle.source_meaning.specs.Patterns.{closes_unless}
use Rattle.source_meaning.specs.State.{Breaks, Completion, Continues, Done, Gives, Loop, Refers, Resumes, State, Throws, Work}
use Rattle.source_meaning.specs.Statements.{broken, broken_at, catches, finish}
use Rattle.source_meaning.specs.Steps.{Next, hands, impossible, within}
use Rattle.source_takers.specs.Takers.{body_work, caller_work, end_work, resumption_work, scope_work, slot_work, target_work, value_work}
use Rattle.source_takers.specs.declared.takers.BodyTaker.{BodyTaker}
use Rattle.source_takers.specs.declared.takers.BodyTaker.TheVariants as body
use Rattle.source_takers.specs.declared.takers.CallerTaker.{CallerTaker}
use Rattle.source_takers.specs.declared.takers.CallerTaker.TheVariants as caller
use Rattle.source_takers.specs.declared.takers.EndTaker.{EndTaker}
use Rattle.source_takers.specs.declared.takers.ResumptionTaker.{ResumptionTaker}
use Rattle.source_takers.specs.declared.takers.ScopeTaker.{ScopeTaker}
use Rattle.source_takers.specs.declared.takers.ScopeTaker.TheVariants as scope
use Rattle.source_takers.specs.declared.takers.SlotTaker.{SlotTaker}
use Rattle.source_takers.specs.declared.takers.SlotTaker.TheVariants as slot
use Rattle.source_takers.specs.declared.takers.TargetTaker.{TargetTaker}
use Rattle.source_takers.specs.declared.values.ValueTaker.{ValueTaker}

-- ---- a value alone, what a target is, an end alone, what a generator is resumed with

abbrev pub value_row : ValueTaker → State → Completion → Next
value_row t st (Gives v) = given st v (value_work t)
value_row t st (Refers r) = impossible st
value_row t st Done = impossible st
value_row t st (Resumes kind v) = impossible st
value_row t st c = hands c st

-- a reference, or a value
abbrev pub referred : State → Completion → Work → Next
referred st c w = taken st c (λ other. impossible st) w

abbrev pub target_row : TargetTaker → State → Completion → Next
target_row t st (Gives v) = referred st (Gives v) (target_work t)
target_row t st (Refers r) = referred st (Refers r) (target_work t)
target_row t st Done = impossible st
target_row t st (Resumes kind v) = impossible st
target_row t st c = hands c st

abbrev pub end_row : EndTaker → State → Completion → Next
end_row t st (Gives v) = impossible st
end_row t st (Refers r) = impossible st
end_row t st Done = over st (end_work t)
end_row t st (Resumes kind v) = impossible st
end_row t st c = hands c st

abbrev pub resumption_row : ResumptionTaker → State → Completion → Next
resumption_row t st (Gives v) = impossible st
resumption_row t st (Refers r) = impossible st
resumption_row t st Done = impossible st
resumption_row t st (Resumes kind v) = resumed st kind v (resumption_work t)
resumption_row t st c = hands c st

-- ---- a value or an end

abbrev pub scope_left : ScopeTaker → State → Completion → Next
scope_left (scope.Restore e) st c = hands c (within e st)
scope_left t st c = hands c st

abbrev pub scope_row : ScopeTaker → State → Completion → Next
scope_row t st (Gives v) = given st v (scope_work t)
scope_row t st (Refers r) = impossible st
scope_row t st Done = over st (scope_work t)
scope_row t st (Resumes kind v) = impossible st
scope_row t st c = scope_left t st c

-- ---- a value, where a call ends

abbrev pub operation_left : BuiltinCall → State → Completion → Next
operation_left call st (Throws v) = thrown_out call v st
operation_left call st c = hands c st

abbrev pub caller_left : CallerTaker → State → Completion → Next
caller_left (caller.Operation call) st c = operation_left call st c
caller_left (caller.Generates n) st c = generated n st c

abbrev pub caller_row : CallerTaker → State → Completion → Next
caller_row t st (Gives v) = given st v (caller_work t)
caller_row t st (Refers r) = impossible st
caller_row t st Done = impossible st
caller_row t st (Resumes kind v) = impossible st
caller_row t st c = caller_left t st c

-- ---- an end, where a body is left

abbrev pub switch_left : State → Completion → Next
switch_left st (Breaks label) = broken st label
switch_left st c = hands c st

abbrev pub label_left : List ℕ → State → Completion → Next
label_left l st (Breaks label) = broken_at l st label
label_left l st c = hands c st

abbrev pub block_left : Catch → State → Completion → Next
block_left caught st (Throws v) = catches caught st v
block_left caught st c = hands c st

abbrev pub loop_left : Loop → State → Completion → Next
loop_left l st (Breaks label) = broken st label
loop_left l st (Continues label) = loop_continued l st label
loop_left l st c = hands c st

abbrev pub body_left : BodyTaker → State → Completion → Next
body_left body.SwitchBody st c = switch_left st c
body_left (body.Labelling l) st c = label_left l st c
body_left (body.Catching caught) st c = block_left caught st c
body_left (body.Finishing last) st c = finish last c st
body_left (body.LoopBody l) st c = loop_left l st c
body_left (body.ForOfBody l iterator) st c = for_of_jumped l iterator st c
body_left (body.ElementsRest done t) st c = closes_unless done t.iterator c st

abbrev pub body_row : BodyTaker → State → Completion → Next
body_row t st (Gives v) = impossible st
body_row t st (Refers r) = impossible st
body_row t st Done = over st (body_work t)
body_row t st (Resumes kind v) = impossible st
body_row t st c = body_left t st c

-- ---- what a target is, where an iterator is left

abbrev pub slot_left : SlotTaker → State → Completion → Next
slot_left (slot.ElementTarget done p default t) st c = closes_unless done t.iterator c st
slot_left (slot.RestTarget done t) st c = closes_unless done t.iterator c st

abbrev pub slot_row : SlotTaker → State → Completion → Next
slot_row t st (Gives v) = referred st (Gives v) (slot_work t)
slot_row t st (Refers r) = referred st (Refers r) (slot_work t)
slot_row t st Done = impossible st
slot_row t st (Resumes kind v) = impossible st
slot_row t st c = slot_left t st c

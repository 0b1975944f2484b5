-- What is left by a throw, a return or a jump, as code finds it.
use Rattle.std.specs.Prelude.{List, Option}
use Rattle.es_outside.specs.declared.events.Site.{Site}
use Rattle.es_calls.specs.declared.call.BuiltinCall.{BuiltinCall}
use Rattle.core_ast.specs.declared.parts.Label.{Label}
use Rattle.core_ast.specs.declared.parts.ScopedName.{ScopedName}
use Rattle.core_ast.specs.declared.parts.Var.{Var}
use Rattle.core_ast.specs.declared.tree.CoreStat.{CoreStat}
use Rattle.core_meaning.specs.Rows.{Next, Rows, hands}
use Rattle.core_meaning.specs.State.{Completion, Jumps, Loop, Sorts, State, Throws}
use Rattle.core_meaning.specs.Statements.{catch, loop_jumped, target_jumped}
use Rattle.core_meaning.specs.Step.{thrown_out}

abbrev pub operation_left : {s : Sorts} {S : Type 0} → Option Site → BuiltinCall → State s S → Completion s.Mark → Next s S
operation_left site c st (Throws v) = thrown_out site c v st
operation_left site c st completion = hands completion st

abbrev pub loop_left : {s : Sorts} {S : Type 0} → Loop → State s S → Completion s.Mark → Next s S
loop_left l st (Jumps goes_on label) = loop_jumped l st goes_on label
loop_left l st completion = hands completion st

abbrev pub target_left : {s : Sorts} {S : Type 0} → Option Label → State s S → Completion s.Mark → Next s S
target_left target st (Jumps goes_on label) = target_jumped target st goes_on label
target_left target st completion = hands completion st

abbrev pub block_left : {s : Sorts} {S : Type 0} → Rows s S → Var → List ScopedName → List CoreStat → State s S → Completion s.Mark → Next s S
block_left rows x names handler st (Throws v) = catch rows x names handler st v
block_left rows x names handler st completion = hands completion st

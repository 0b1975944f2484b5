-- The work of the definitions that is meant.
use Rattle.source_state.specs.declared.work.Work.{Work}
use Rattle.source_state.specs.declared.work.Work.TheVariants as work
use Rattle.source_takers.specs.declared.values.ListTaker.{ListTaker}
use Rattle.source_takers.specs.declared.values.ListTaker.TheVariants as list
use Rattle.source_takers.specs.declared.values.ClassTaker.{ClassTaker}
use Rattle.source_takers.specs.declared.values.ClassTaker.TheVariants as class
use Rattle.source_takers.specs.declared.values.LiteralTaker.{LiteralTaker}
use Rattle.source_takers.specs.declared.values.LiteralTaker.TheVariants as literal
use Rattle.source_takers.specs.declared.values.OperatorTaker.{OperatorTaker}
use Rattle.source_takers.specs.declared.values.OperatorTaker.TheVariants as operator
use Rattle.source_takers.specs.declared.values.AssignTaker.{AssignTaker}
use Rattle.source_takers.specs.declared.values.AssignTaker.TheVariants as assign
use Rattle.source_takers.specs.declared.values.PatternTaker.{PatternTaker}
use Rattle.source_takers.specs.declared.values.PatternTaker.TheVariants as pattern
use Rattle.source_takers.specs.declared.values.StatementTaker.{StatementTaker}
use Rattle.source_takers.specs.declared.values.StatementTaker.TheVariants as statement
use Rattle.source_takers.specs.declared.values.LoopTaker.{LoopTaker}
use Rattle.source_takers.specs.declared.values.LoopTaker.TheVariants as loop
use Rattle.source_takers.specs.declared.values.CallTaker.{CallTaker}
use Rattle.source_takers.specs.declared.values.CallTaker.TheVariants as call
use Rattle.source_takers.specs.declared.values.GeneratorTaker.{GeneratorTaker}
use Rattle.source_takers.specs.declared.values.GeneratorTaker.TheVariants as generator
use Rattle.source_takers.specs.declared.values.ValueTaker.{ValueTaker}
use Rattle.source_takers.specs.declared.values.ValueTaker.TheVariants as value
use Rattle.source_takers.specs.declared.takers.TargetTaker.{TargetTaker}
use Rattle.source_takers.specs.declared.takers.TargetTaker.TheVariants as target
use Rattle.source_takers.specs.declared.takers.EndTaker.{EndTaker}
use Rattle.source_takers.specs.declared.takers.EndTaker.TheVariants as end
use Rattle.source_takers.specs.declared.takers.ResumptionTaker.{ResumptionTaker}
use Rattle.source_takers.specs.declared.takers.ResumptionTaker.TheVariants as resumption
use Rattle.source_takers.specs.declared.takers.ScopeTaker.{ScopeTaker}
use Rattle.source_takers.specs.declared.takers.ScopeTaker.TheVariants as scope
use Rattle.source_takers.specs.declared.takers.CallerTaker.{CallerTaker}
use Rattle.source_takers.specs.declared.takers.CallerTaker.TheVariants as caller
use Rattle.source_takers.specs.declared.takers.BodyTaker.{BodyTaker}
use Rattle.source_takers.specs.declared.takers.BodyTaker.TheVariants as body
use Rattle.source_takers.specs.declared.takers.SlotTaker.{SlotTaker}
use Rattle.source_takers.specs.declared.takers.SlotTaker.TheVariants as slot
use Rattle.source_takers.specs.declared.takers.Taker.{Taker}
use Rattle.source_takers.specs.declared.takers.Taker.TheVariants as taker

unfoldable pub list_work : ListTaker → Work
list_work (list.LinkIndex a b c) = work.LinkIndex a b c
list_work (list.LinkKey a b c) = work.LinkKey a b c
list_work (list.LinkMethod a b c d) = work.LinkMethod a b c d
list_work (list.ListValue a) = work.ListValue a
list_work (list.SpreadPart a) = work.SpreadPart a
list_work (list.SpreadIterator a) = work.SpreadIterator a
list_work (list.SpreadStep a b) = work.SpreadStep a b
list_work (list.SpreadValue a b) = work.SpreadValue a b
list_work (list.NewCallee a) = work.NewCallee a

unfoldable pub class_work : ClassTaker → Work
class_work (class.SuperKey a) = work.SuperKey a
class_work (class.SuperKeyed a) = work.SuperKeyed a
class_work class.SuperMade = work.SuperMade
class_work (class.Heritage a) = work.Heritage a
class_work (class.HeritagePrototype a b) = work.HeritagePrototype a b

unfoldable pub literal_work : LiteralTaker → Work
literal_work (literal.TemplateValue a b c) = work.TemplateValue a b c
literal_work (literal.TemplateText a b c) = work.TemplateText a b c
literal_work (literal.PropertyValue a b c) = work.PropertyValue a b c
literal_work (literal.KeyValue a) = work.KeyValue a
literal_work (literal.KeyText a) = work.KeyText a

unfoldable pub operator_work : OperatorTaker → Work
operator_work (operator.UnaryValue a) = work.UnaryValue a
operator_work (operator.PowerBase a) = work.PowerBase a
operator_work (operator.PowerExponent a) = work.PowerExponent a
operator_work (operator.Operands a) = work.Operands a
operator_work (operator.OperandRight a b c) = work.OperandRight a b c
operator_work (operator.Branches a b) = work.Branches a b
operator_work (operator.SequenceRest a) = work.SequenceRest a

unfoldable pub assign_work : AssignTaker → Work
assign_work (assign.UpdateOld a b) = work.UpdateOld a b
assign_work (assign.UpdateNumber a b) = work.UpdateNumber a b
assign_work (assign.AssignOld a b c) = work.AssignOld a b c
assign_work (assign.AssignRight a b c) = work.AssignRight a b c
assign_work (assign.AssignValue a) = work.AssignValue a
assign_work (assign.AssignPattern a) = work.AssignPattern a

unfoldable pub pattern_work : PatternTaker → Work
pattern_work (pattern.PatternIterator a b) = work.PatternIterator a b
pattern_work (pattern.ElementStep a b c) = work.ElementStep a b c
pattern_work (pattern.ElementValue a b c) = work.ElementValue a b c
pattern_work (pattern.SkipStep a) = work.SkipStep a
pattern_work (pattern.RestStep a b c) = work.RestStep a b c
pattern_work (pattern.RestValue a b c) = work.RestValue a b c
pattern_work (pattern.MemberValue a b c d e) = work.MemberValue a b c d e
pattern_work (pattern.Defaulted a b) = work.Defaulted a b

unfoldable pub statement_work : StatementTaker → Work
statement_work (statement.VariableValue a b c) = work.VariableValue a b c
statement_work (statement.Chosen a b c) = work.Chosen a b c
statement_work statement.Returning = work.Returning
statement_work statement.Throwing = work.Throwing
statement_work (statement.Subject a) = work.Subject a
statement_work (statement.Matching a b c) = work.Matching a b c
statement_work (statement.NameGiven a) = work.NameGiven a

unfoldable pub loop_work : LoopTaker → Work
loop_work (loop.LoopTest a) = work.LoopTest a
loop_work (loop.LoopUpdate a) = work.LoopUpdate a
loop_work (loop.ForOfSubject a) = work.ForOfSubject a
loop_work (loop.ForOfIterator a) = work.ForOfIterator a
loop_work (loop.ForOfStep a b) = work.ForOfStep a b
loop_work (loop.ForOfValue a b) = work.ForOfValue a b

unfoldable pub call_work : CallTaker → Work
call_work call.Ignoring = work.Ignoring
call_work (call.Closing a) = work.Closing a
call_work (call.ParameterDefault a b c) = work.ParameterDefault a b c
call_work (call.Making a b c) = work.Making a b c
call_work (call.Made a) = work.Made a
call_work (call.Derived a) = work.Derived a

unfoldable pub generator_work : GeneratorTaker → Work
generator_work (generator.GeneratorPrototype a) = work.GeneratorPrototype a
generator_work generator.YieldValue = work.YieldValue
generator_work generator.Delegating = work.Delegating
generator_work generator.DelegateIterator = work.DelegateIterator
generator_work (generator.DelegateResult a b c) = work.DelegateResult a b c
generator_work (generator.DelegateDone a b c) = work.DelegateDone a b c
generator_work (generator.DelegateValue a) = work.DelegateValue a

unfoldable pub value_work : ValueTaker → Work
value_work (value.List t) = list_work t
value_work (value.Class t) = class_work t
value_work (value.Literal t) = literal_work t
value_work (value.Operator t) = operator_work t
value_work (value.Assign t) = assign_work t
value_work (value.Pattern t) = pattern_work t
value_work (value.Statement t) = statement_work t
value_work (value.Loop t) = loop_work t
value_work (value.Call t) = call_work t
value_work (value.Generator t) = generator_work t

unfoldable pub target_work : TargetTaker → Work
target_work (target.Links a b) = work.Links a b
target_work (target.UpdateReference a) = work.UpdateReference a
target_work target.Deleting = work.Deleting
target_work (target.AssignReference a b) = work.AssignReference a b
target_work (target.PutTo a) = work.PutTo a
target_work (target.MemberTarget a b c d) = work.MemberTarget a b c d

unfoldable pub end_work : EndTaker → Work
end_work (end.MembersRest a b c) = work.MembersRest a b c
end_work (end.StatementsRest a) = work.StatementsRest a
end_work (end.VariablesRest a b) = work.VariablesRest a b
end_work (end.CatchBlock a) = work.CatchBlock a
end_work (end.Pending a) = work.Pending a
end_work (end.ForOfBound a) = work.ForOfBound a
end_work (end.ParametersRest a b) = work.ParametersRest a b
end_work (end.ParametersBound a) = work.ParametersBound a
end_work (end.ItemsRest a) = work.ItemsRest a

unfoldable pub resumption_work : ResumptionTaker → Work
resumption_work (resumption.GeneratorStart a) = work.GeneratorStart a
resumption_work resumption.Yielded = work.Yielded
resumption_work (resumption.Delegated a) = work.Delegated a

unfoldable pub scope_work : ScopeTaker → Work
scope_work (scope.Behind a) = work.Behind a
scope_work (scope.Restore a) = work.Restore a
scope_work (scope.LoopBegin a) = work.LoopBegin a

unfoldable pub caller_work : CallerTaker → Work
caller_work (caller.Operation a) = work.Operation a
caller_work (caller.Generates a) = work.Generates a

unfoldable pub body_work : BodyTaker → Work
body_work body.SwitchBody = work.SwitchBody
body_work (body.Labelling a) = work.Labelling a
body_work (body.Catching a) = work.Catching a
body_work (body.Finishing a) = work.Finishing a
body_work (body.LoopBody a) = work.LoopBody a
body_work (body.ForOfBody a b) = work.ForOfBody a b
body_work (body.ElementsRest a b) = work.ElementsRest a b

unfoldable pub slot_work : SlotTaker → Work
slot_work (slot.ElementTarget a b c d) = work.ElementTarget a b c d
slot_work (slot.RestTarget a b) = work.RestTarget a b

unfoldable pub work_of : Taker → Work
work_of (taker.Value t) = value_work t
work_of (taker.Target t) = target_work t
work_of (taker.End t) = end_work t
work_of (taker.Resumption t) = resumption_work t
work_of (taker.Scope t) = scope_work t
work_of (taker.Caller t) = caller_work t
work_of (taker.Body t) = body_work t
work_of (taker.Slot t) = slot_work t

-- The work of the definitions that is a generator's caller is the taker of that name alone: each case.
use Rattle.std.proofs.Common.{◌≡◌, None, refl}
use Rattle.source_calls.specs.Yields.{generator_in}
use Rattle.source_takers.specs.Takers.{assign_work, body_work, call_work, caller_work, class_work, end_work, generator_work, list_work, literal_work, loop_work, operator_work, pattern_work, resumption_work, scope_work, slot_work, statement_work, target_work, value_work, work_of}
use Rattle.source_takers.specs.declared.values.ListTaker.TheVariants as list
use Rattle.source_takers.specs.declared.values.ClassTaker.TheVariants as class
use Rattle.source_takers.specs.declared.values.LiteralTaker.TheVariants as literal
use Rattle.source_takers.specs.declared.values.OperatorTaker.TheVariants as operator
use Rattle.source_takers.specs.declared.values.AssignTaker.TheVariants as assign
use Rattle.source_takers.specs.declared.values.PatternTaker.TheVariants as pattern
use Rattle.source_takers.specs.declared.values.StatementTaker.TheVariants as statement
use Rattle.source_takers.specs.declared.values.LoopTaker.TheVariants as loop
use Rattle.source_takers.specs.declared.values.CallTaker.TheVariants as call
use Rattle.source_takers.specs.declared.values.GeneratorTaker.TheVariants as generator
use Rattle.source_takers.specs.declared.values.ValueTaker.{ValueTaker}
use Rattle.source_takers.specs.declared.values.ValueTaker.TheVariants as value
use Rattle.source_takers.specs.declared.takers.TargetTaker.{TargetTaker}
use Rattle.source_takers.specs.declared.takers.TargetTaker.TheVariants as target
use Rattle.source_takers.specs.declared.takers.EndTaker.{EndTaker}
use Rattle.source_takers.specs.declared.takers.EndTaker.TheVariants as end
use Rattle.source_takers.specs.declared.takers.ResumptionTaker.{ResumptionTaker}
use Rattle.source_takers.specs.declared.takers.ResumptionTaker.TheVariants as resumption
use Rattle.source_takers.specs.declared.takers.ScopeTaker.{ScopeTaker}
use Rattle.source_takers.specs.declared.takers.ScopeTaker.TheVariants as scope
use Rattle.source_takers.specs.declared.takers.CallerTaker.{CallerTaker}
use Rattle.source_takers.specs.declared.takers.CallerTaker.TheVariants as caller
use Rattle.source_takers.specs.declared.takers.BodyTaker.{BodyTaker}
use Rattle.source_takers.specs.declared.takers.BodyTaker.TheVariants as body
use Rattle.source_takers.specs.declared.takers.SlotTaker.{SlotTaker}
use Rattle.source_takers.specs.declared.takers.SlotTaker.TheVariants as slot
use Rattle.source_takers.specs.declared.takers.Taker.{Taker}
use Rattle.source_takers.specs.declared.takers.Taker.TheVariants as taker
use Rattle.source_works.specs.Generators.{number_in}

value_none : (t : ValueTaker) → generator_in (value_work t) ≡ None
unfolding value_work list_work class_work literal_work operator_work assign_work pattern_work statement_work loop_work call_work generator_work
value_none (value.List (list.LinkIndex a b d)) = refl
value_none (value.Class (class.SuperKey a)) = refl
value_none (value.Literal (literal.TemplateValue a b d)) = refl
value_none (value.Operator (operator.UnaryValue a)) = refl
value_none (value.Assign (assign.UpdateOld a b)) = refl
value_none (value.Pattern (pattern.PatternIterator a b)) = refl
value_none (value.Statement (statement.VariableValue a b d)) = refl
value_none (value.Loop (loop.LoopTest a)) = refl
value_none (value.Call call.Ignoring) = refl
value_none (value.Generator (generator.GeneratorPrototype a)) = refl
value_none t = refl

target_none : (t : TargetTaker) → generator_in (target_work t) ≡ None
unfolding target_work
target_none (target.Links a b) = refl
target_none t = refl

end_none : (t : EndTaker) → generator_in (end_work t) ≡ None
unfolding end_work
end_none (end.CatchBlock a) = refl
end_none t = refl

resumption_none : (t : ResumptionTaker) → generator_in (resumption_work t) ≡ None
unfolding resumption_work
resumption_none (resumption.GeneratorStart a) = refl
resumption_none t = refl

scope_none : (t : ScopeTaker) → generator_in (scope_work t) ≡ None
unfolding scope_work
scope_none (scope.Behind a) = refl
scope_none t = refl

body_none : (t : BodyTaker) → generator_in (body_work t) ≡ None
unfolding body_work
body_none body.SwitchBody = refl
body_none t = refl

slot_none : (t : SlotTaker) → generator_in (slot_work t) ≡ None
unfolding slot_work
slot_none (slot.RestTarget a b) = refl
slot_none t = refl

pub generator_number : (t : Taker) → generator_in (work_of t) ≡ number_in t
unfolding work_of caller_work
generator_number (taker.Value t) = value_none t
generator_number (taker.Target t) = target_none t
generator_number (taker.End t) = end_none t
generator_number (taker.Resumption t) = resumption_none t
generator_number (taker.Scope t) = scope_none t
generator_number (taker.Caller (caller.Operation call)) = refl
generator_number (taker.Caller (caller.Generates n)) = refl
generator_number (taker.Body t) = body_none t
generator_number (taker.Slot t) = slot_none t

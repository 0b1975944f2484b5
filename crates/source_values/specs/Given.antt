-- What is done with a value that is handed to what takes one, by what takes it: the rows of given (crates/source_meaning, specs/Frames.antt).
use Rattle.std.specs.Prelude.{[], false, if◌then◌else◌, true, ◌∷◌}
use Rattle.source_meaning.specs.State.{AssignRight, Assigns, Begin, Behind, Calling, Completion, Destructure, Done, ForNew, Gives, Links, OfArguments, Operands, PowerExponent, Refers, Resumes, Returns, State, Throws, Yielded}
use Rattle.source_meaning.specs.Steps.{Next, begins, controls, gives, hands, impossible, pushed, turns}
use Rattle.es_heap.specs.declared.key.Key.TheVariants.{Text}
use Rattle.es_value.specs.declared.value.Value.{Value}
use Rattle.source_state.specs.Parts.{arguments_parts}
use Rattle.source_meaning.specs.Expressions.{assign_right, operands_on, operate, sequence_on, super_keyed, super_named, template_texted, template_valued, unary_valued, update_numbered, update_read}
use Rattle.source_meaning.specs.Environments.{bind_this, initialized, this_of}
use Rattle.source_meaning.specs.Statements.{chosen, matched, switch_on, variable_matched}
use Rattle.source_meaning.specs.Calls.{constructed, derived_given, making}
use Rattle.source_meaning.specs.Generators.{delegate, delegate_done, delegate_given, delegate_value, generator_made, yields}
use Rattle.source_meaning.specs.Patterns.{element_stepped, element_valued, elements_on, member_valued, rest_stepped, rest_valued, settled, skipped}
use Rattle.source_meaning.specs.Loops.{for_of_step, for_of_stepped, for_of_valued, loop_tested, subject_valued, test_loop}
use Rattle.source_meaning.specs.Classes.{heritage_given, heritage_valued}
use Rattle.source_meaning.specs.Lists.{indexed, list_on, list_valued, passes, spread_part, spread_step, spread_stepped, spread_valued}
use Rattle.source_meaning.specs.References.{key_valued, put_value, with_text}
use Rattle.source_meaning.specs.Functions.{parameter_matched}
use Rattle.source_meaning.specs.Objects.{property_valued}
use Rattle.es_operators.specs.Primitives.{truth_of}
use Rattle.es_operations.specs.Numbers as number
use Rattle.source_meaning.specs.Frames.{key_texted, link_keyed, resume_delegate}
use Rattle.source_takers.specs.declared.values.ListTaker.{ListTaker}
use Rattle.source_takers.specs.declared.values.ListTaker.TheVariants as list
use Rattle.source_takers.specs.declared.values.ClassTaker.{ClassTaker}
use Rattle.source_takers.specs.declared.values.ClassTaker.TheVariants as class
use Rattle.source_takers.specs.declared.values.LiteralTaker.{LiteralTaker}
use Rattle.source_takers.specs.declared.values.LiteralTaker.TheVariants as literal
use Rattle.source_takers.specs.declared.values.OperatorTaker.{OperatorTaker}
use Rattle.source_takers.specs.declared.values.OperatorTaker.TheVariants as operator
use Rattle.source_takers.specs.declared.values.AssignTaker.{AssignTaker}
use Rattle.source_takers.specs.declared.values.AssignTaker.TheVariants as assign
use Rattle.source_takers.specs.declared.values.PatternTaker.{PatternTaker}
use Rattle.source_takers.specs.declared.values.PatternTaker.TheVariants as pattern
use Rattle.source_takers.specs.declared.values.StatementTaker.{StatementTaker}
use Rattle.source_takers.specs.declared.values.StatementTaker.TheVariants as statement
use Rattle.source_takers.specs.declared.values.LoopTaker.{LoopTaker}
use Rattle.source_takers.specs.declared.values.LoopTaker.TheVariants as loop
use Rattle.source_takers.specs.declared.values.CallTaker.{CallTaker}
use Rattle.source_takers.specs.declared.values.CallTaker.TheVariants as call
use Rattle.source_takers.specs.declared.values.GeneratorTaker.{GeneratorTaker}
use Rattle.source_takers.specs.declared.values.GeneratorTaker.TheVariants as generator
use Rattle.source_takers.specs.declared.values.ValueTaker.{ValueTaker}
use Rattle.source_takers.specs.declared.values.ValueTaker.TheVariants as taker

abbrev pub list_given : ListTaker → State → Value → Next
list_given (list.LinkIndex base wanted ls) st v = indexed base wanted ls st v
list_given (list.LinkKey base wanted ls) st v =
    with_text v st (λ units. link_keyed base (Text units) (pushed (Links wanted ls) st))
list_given (list.LinkMethod receiver p wanted ls) st v =
    passes (Calling v receiver) p wanted ls st
list_given (list.ListValue l) st v = list_valued l st v
list_given (list.SpreadPart l) st v = spread_part l st v
list_given (list.SpreadIterator l) st v = spread_step l v st
list_given (list.SpreadStep l iterator) st v = spread_stepped l iterator st v
list_given (list.SpreadValue l iterator) st v = spread_valued l iterator st v
list_given (list.NewCallee xs) st v = list_on (OfArguments (ForNew v) []) (arguments_parts xs) st

abbrev pub class_given : ClassTaker → State → Value → Next
class_given (class.SuperKey wanted) st v = super_keyed wanted st v
class_given (class.SuperKeyed wanted) st v = super_named wanted st v
class_given class.SuperMade st v = bind_this v st (this_of st)
class_given (class.Heritage c) st v = heritage_valued c st v
class_given (class.HeritagePrototype c heritage) st v = heritage_given c heritage st v

abbrev pub literal_given : LiteralTaker → State → Value → Next
literal_given (literal.TemplateValue text after ps) st v = template_valued text after ps st v
literal_given (literal.TemplateText text after ps) st v = template_texted text after ps st v
literal_given (literal.PropertyValue id k ps) st v = property_valued id k ps st v
literal_given (literal.KeyValue naming) st v = key_valued naming st v
literal_given (literal.KeyText naming) st v =
    with_text v st (λ units. key_texted (Text units) st naming)

abbrev pub operator_given : OperatorTaker → State → Value → Next
operator_given (operator.UnaryValue o) st v = unary_valued o st v
operator_given (operator.PowerBase x) st v = begins (PowerExponent v) x st
operator_given (operator.PowerExponent base) st v = turns number.power_number base (v ∷ []) st
operator_given (operator.Operands os) st v = operands_on os st v
operator_given (operator.OperandRight left o os) st v = operate (Operands os) o left v st
operator_given (operator.Branches yes_ no_) st v =
    controls (Begin (if truth_of v then yes_ else no_)) st
operator_given (operator.SequenceRest xs) st v = sequence_on xs st v

abbrev pub assign_given : AssignTaker → State → Value → Next
assign_given (assign.UpdateOld u r) st v = update_read u r st v
assign_given (assign.UpdateNumber u r) st v = update_numbered u r st v
assign_given (assign.AssignOld o r x) st v = begins (AssignRight o r v) x st
assign_given (assign.AssignRight o r old) st v = assign_right o r old st v
assign_given (assign.AssignValue r) st v = put_value r v v st
assign_given (assign.AssignPattern p) st v =
    controls (Destructure Assigns p v) (pushed (Behind v) st)

abbrev pub pattern_given : PatternTaker → State → Value → Next
pattern_given (pattern.PatternIterator b parts) st v = elements_on b v parts false st
pattern_given (pattern.ElementStep slot default t) st v = element_stepped slot default t st v
pattern_given (pattern.ElementValue slot default t) st v = element_valued slot default t st v
pattern_given (pattern.SkipStep t) st v = skipped t st v
pattern_given (pattern.RestStep slot id t) st v = rest_stepped slot id t st v
pattern_given (pattern.RestValue slot id t) st v = rest_valued slot id t st v
pattern_given (pattern.MemberValue b base slot default ps) st v =
    member_valued b base slot default ps st v
pattern_given (pattern.Defaulted b slot) st v = settled b slot v st

abbrev pub statement_given : StatementTaker → State → Value → Next
statement_given (statement.VariableValue k p ps) st v = variable_matched k p ps st v
statement_given (statement.Chosen body cs otherwise) st v = chosen body cs otherwise st v
statement_given statement.Returning st v = hands (Returns v) st
statement_given statement.Throwing st v = hands (Throws v) st
statement_given (statement.Subject cs) st v = switch_on cs st v
statement_given (statement.Matching subject cs all) st v = matched subject cs all st v
statement_given (statement.NameGiven x) st v = hands Done (initialized x v st)

abbrev pub loop_given : LoopTaker → State → Value → Next
loop_given (loop.LoopTest l) st v = loop_tested l st v
loop_given (loop.LoopUpdate l) st v = test_loop l st
loop_given (loop.ForOfSubject l) st v = subject_valued l st v
loop_given (loop.ForOfIterator l) st v = for_of_step l st v
loop_given (loop.ForOfStep l iterator) st v = for_of_stepped l iterator st v
loop_given (loop.ForOfValue l iterator) st v = for_of_valued l iterator st v

abbrev pub call_given : CallTaker → State → Value → Next
call_given call.Ignoring st v = hands Done st
call_given (call.Closing completion) st v = hands completion st
call_given (call.ParameterDefault p ps vs) st v = parameter_matched p v ps vs st
call_given (call.Making f args target) st v = making f args target st v
call_given (call.Made o) st v = gives (constructed o v) st
call_given (call.Derived n) st v = derived_given n st v

abbrev pub generator_given : GeneratorTaker → State → Value → Next
generator_given (generator.GeneratorPrototype body) st v = generator_made body st v
generator_given generator.YieldValue st v = yields Yielded true v st
generator_given generator.Delegating st v = delegate st v
generator_given generator.DelegateIterator st v = resume_delegate v st
generator_given (generator.DelegateResult iterator kind w) st v =
    delegate_given iterator kind w st v
generator_given (generator.DelegateDone iterator kind result) st v =
    delegate_done iterator kind result st v
generator_given (generator.DelegateValue kind) st v = delegate_value kind st v

abbrev pub value_given : ValueTaker → State → Value → Next
value_given (taker.List t) st v = list_given t st v
value_given (taker.Class t) st v = class_given t st v
value_given (taker.Literal t) st v = literal_given t st v
value_given (taker.Operator t) st v = operator_given t st v
value_given (taker.Assign t) st v = assign_given t st v
value_given (taker.Pattern t) st v = pattern_given t st v
value_given (taker.Statement t) st v = statement_given t st v
value_given (taker.Loop t) st v = loop_given t st v
value_given (taker.Call t) st v = call_given t st v
value_given (taker.Generator t) st v = generator_given t st v

-- what takes a value takes nothing else, and what leaves it passes on
abbrev pub passed : State → Completion → Next
passed st (Gives v) = impossible st
passed st (Refers r) = impossible st
passed st Done = impossible st
passed st (Resumes kind v) = impossible st
passed st c = hands c st

abbrev pub valued : ValueTaker → State → Completion → Next
valued t st (Gives v) = value_given t st v
valued t st c = passed st c

-- What takes a completion: a row for each frame.
use Rattle.std.specs.Prelude.{[], false, if◌then◌else◌, true, ◌∷◌}
use Rattle.es_value.specs.declared.value.Value.{Value}
use Rattle.es_value.specs.declared.value.Value.TheVariants as value
use Rattle.es_heap.specs.declared.key.Key.{Key as PropertyKey}
use Rattle.es_heap.specs.declared.key.Key.TheVariants.{Text}
use Rattle.es_operators.specs.Primitives.{truth_of}
use Rattle.es_calls.specs.declared.call.BuiltinCall.{BuiltinCall}
use Rattle.es_calls.specs.declared.call.Resumption.{Resumption}
use Rattle.es_calls.specs.declared.call.Resumption.TheVariants as resumption
use Rattle.es_operations.specs.Numbers as number
use Rattle.es_operations.specs.Steps.{drops_throw}
use Rattle.source_state.specs.Parts.{arguments_parts}
use Rattle.source_meaning.specs.Calls.{constructed, derived_given, making, parameters_bound, parameters_rest}
use Rattle.source_meaning.specs.Classes.{heritage_given, heritage_valued, member_named}
use Rattle.source_meaning.specs.Environments.{bind_this, initialized, this_of}
use Rattle.source_meaning.specs.Expressions.{assign_referred, assign_right, deleted, operands_on, operate, sequence_on, super_keyed, super_named, template_texted, template_valued, unary_valued, update_numbered, update_read, update_referred}
use Rattle.source_meaning.specs.Functions.{parameter_matched}
use Rattle.source_meaning.specs.Generators.{arrives, delegate, delegate_done, delegate_given, delegate_turn, delegate_value, generated, generator_made, starts, yields}
use Rattle.source_meaning.specs.Lists.{indexed, linked, list_on, list_valued, passes, spread_part, spread_step, spread_stepped, spread_valued}
use Rattle.source_meaning.specs.Loops.{for_of_jumped, for_of_step, for_of_stepped, for_of_valued, loop_begun, loop_continued, loop_on, loop_tested, subject_valued, test_loop}
use Rattle.source_meaning.specs.Objects.{method_named, property_valued, value_named}
use Rattle.source_meaning.specs.Patterns.{closes_unless, element_referred, element_stepped, element_valued, elements_on, elements_rest, member_referred, member_valued, members_on, part_named, put_referred, rest_referred, rest_stepped, rest_valued, settled, skipped}
use Rattle.source_meaning.specs.References.{key_valued, put_value, with_text}
use Rattle.source_meaning.specs.State.{AssignOld, AssignPattern, AssignReference, AssignRight, AssignValue, Assigns, Begin, Behind, Branches, Breaks, Calling, CatchBlock, Catching, Chosen, Closing, Completion, Continues, Defaulted, DelegateDone, DelegateIterator, DelegateResult, DelegateValue, Delegated, Delegating, Deleting, Derived, Destructure, Done, ElementStep, ElementTarget, ElementValue, ElementsRest, Finishing, ForNew, ForOfBody, ForOfBound, ForOfIterator, ForOfStep, ForOfSubject, ForOfValue, GeneratorPrototype, GeneratorStart, Generates, Gives, Heritage, HeritagePrototype, Ignoring, ItemsRest, KeyText, KeyValue, Labelling, LinkIndex, LinkKey, LinkMethod, Links, ListValue, LoopBegin, LoopBody, LoopTest, LoopUpdate, Made, Making, Matching, MemberTarget, MemberValue, MembersRest, NameGiven, Naming, NewCallee, OfArguments, OfMember, OfMethod, OfPart, OfProperty, OfValue, OperandRight, Operands, Operation, ParameterDefault, ParametersBound, ParametersRest, PatternIterator, Pending, PowerBase, PowerExponent, PropertyValue, PutTo, Refers, RestStep, RestTarget, RestValue, Restore, Resumes, Returning, Returns, Run, RunItems, SequenceRest, SkipStep, SpreadIterator, SpreadPart, SpreadStep, SpreadValue, Start, State, StatementsRest, Subject, SuperKey, SuperKeyed, SuperMade, SwitchBody, TemplateText, TemplateValue, Throwing, Throws, Turn, UnaryValue, UpdateNumber, UpdateOld, UpdateReference, VariableValue, VariablesRest, Work, YieldValue, Yielded}
use Rattle.source_meaning.specs.Statements.{broken, broken_at, catches, chosen, finish, matched, run_block, switch_on, variable_matched, variables_on}
use Rattle.source_meaning.specs.Steps.{Next, begins, controls, gives, hands, impossible, pushed, refers_to, turns, within}

-- ---- a value, or a reference where one is wanted

-- a computed name has its text
abbrev pub key_texted : PropertyKey → State → Naming → Next
key_texted k st (OfValue id x ps) = value_named id x ps k st
key_texted k st (OfMethod id m ps) = method_named id m ps k st
key_texted k st (OfMember d m ms) = member_named d m ms k st
key_texted k st (OfPart b v p ps) = part_named b v p ps k st

abbrev pub received : BuiltinCall → Value → BuiltinCall
received c v = record c { input = v }

abbrev pub resume_delegate : Value → State → Next
resume_delegate iterator st = delegate_turn iterator st resumption.Next value.Undefined

-- a key in brackets is a text now
abbrev pub link_keyed : Value → PropertyKey → State → Next
link_keyed base k st = refers_to (OfProperty base k) st

unfoldable pub given_expression : State → Value → Work → Next
given_expression st v (LinkIndex base wanted ls) = indexed base wanted ls st v
given_expression st v (LinkKey base wanted ls) =
    with_text v st (λ units. link_keyed base (Text units) (pushed (Links wanted ls) st))
given_expression st v (LinkMethod receiver p wanted ls) = passes (Calling v receiver) p wanted ls st
given_expression st v (ListValue l) = list_valued l st v
given_expression st v (SpreadPart l) = spread_part l st v
given_expression st v (SpreadIterator l) = spread_step l v st
given_expression st v (SpreadStep l iterator) = spread_stepped l iterator st v
given_expression st v (SpreadValue l iterator) = spread_valued l iterator st v
given_expression st v (NewCallee xs) = list_on (OfArguments (ForNew v) []) (arguments_parts xs) st
given_expression st v (SuperKey wanted) = super_keyed wanted st v
given_expression st v (SuperKeyed wanted) = super_named wanted st v
given_expression st v SuperMade = bind_this v st (this_of st)
given_expression st v (TemplateValue text after ps) = template_valued text after ps st v
given_expression st v (TemplateText text after ps) = template_texted text after ps st v
given_expression st v (PropertyValue id k ps) = property_valued id k ps st v
given_expression st v (KeyValue naming) = key_valued naming st v
given_expression st v (KeyText naming) = with_text v st (λ units. key_texted (Text units) st naming)
given_expression st v (UpdateOld u r) = update_read u r st v
given_expression st v (UpdateNumber u r) = update_numbered u r st v
given_expression st v (UnaryValue o) = unary_valued o st v
given_expression st v (PowerBase x) = begins (PowerExponent v) x st
given_expression st v (PowerExponent base) = turns number.power_number base (v ∷ []) st
given_expression st v (Operands os) = operands_on os st v
given_expression st v (OperandRight left o os) = operate (Operands os) o left v st
given_expression st v (Branches yes_ no_) = controls (Begin (if truth_of v then yes_ else no_)) st
given_expression st v (SequenceRest xs) = sequence_on xs st v
given_expression st v (AssignOld o r x) = begins (AssignRight o r v) x st
given_expression st v (AssignRight o r old) = assign_right o r old st v
given_expression st v (AssignValue r) = put_value r v v st
given_expression st v (AssignPattern p) = controls (Destructure Assigns p v) (pushed (Behind v) st)
given_expression st v (Heritage c) = heritage_valued c st v
given_expression st v (HeritagePrototype c heritage) = heritage_given c heritage st v
given_expression st v w = impossible st

unfoldable pub given_pattern : State → Value → Work → Next
given_pattern st v (PatternIterator b parts) = elements_on b v parts false st
given_pattern st v (ElementStep slot default t) = element_stepped slot default t st v
given_pattern st v (ElementValue slot default t) = element_valued slot default t st v
given_pattern st v (SkipStep t) = skipped t st v
given_pattern st v (RestStep slot id t) = rest_stepped slot id t st v
given_pattern st v (RestValue slot id t) = rest_valued slot id t st v
given_pattern st v (MemberValue b base slot default ps) = member_valued b base slot default ps st v
given_pattern st v (Defaulted b slot) = settled b slot v st
given_pattern st v w = given_expression st v w

unfoldable pub given_statement : State → Value → Work → Next
given_statement st v (VariableValue k p ps) = variable_matched k p ps st v
given_statement st v (Chosen body cs otherwise) = chosen body cs otherwise st v
given_statement st v Returning = hands (Returns v) st
given_statement st v Throwing = hands (Throws v) st
given_statement st v (Subject cs) = switch_on cs st v
given_statement st v (Matching subject cs all) = matched subject cs all st v
given_statement st v (Restore e) = gives v (within e st)
given_statement st v (NameGiven x) = hands Done (initialized x v st)
given_statement st v (LoopBegin l) = loop_begun l st
given_statement st v (LoopTest l) = loop_tested l st v
given_statement st v (LoopUpdate l) = test_loop l st
given_statement st v (ForOfSubject l) = subject_valued l st v
given_statement st v (ForOfIterator l) = for_of_step l st v
given_statement st v (ForOfStep l iterator) = for_of_stepped l iterator st v
given_statement st v (ForOfValue l iterator) = for_of_valued l iterator st v
given_statement st v w = given_pattern st v w

unfoldable pub given : State → Value → Work → Next
given st v (Operation c) = controls (Turn (received c v)) st
given st v (Behind other) = gives other st
given st v Ignoring = hands Done st
given st v (Closing completion) = hands completion st
given st v (ParameterDefault p ps vs) = parameter_matched p v ps vs st
given st v (Making f args target) = making f args target st v
given st v (Made o) = gives (constructed o v) st
given st v (Derived n) = derived_given n st v
given st v (GeneratorPrototype body) = generator_made body st v
given st v YieldValue = yields Yielded true v st
given st v Delegating = delegate st v
given st v DelegateIterator = resume_delegate v st
given st v (DelegateResult iterator kind w) = delegate_given iterator kind w st v
given st v (DelegateDone iterator kind result) = delegate_done iterator kind result st v
given st v (DelegateValue kind) = delegate_value kind st v
given st v (Generates n) = generated n st (Gives v)
given st v w = given_statement st v w

-- what a target is
unfoldable pub taken : State → Completion → (Work → Next) → Work → Next
taken st c otherwise (Links wanted ls) = linked wanted ls st c
taken st c otherwise (UpdateReference u) = update_referred u st c
taken st c otherwise Deleting = deleted st c
taken st c otherwise (AssignReference o x) = assign_referred o x st c
taken st c otherwise (PutTo v) = put_referred v st c
taken st c otherwise (ElementTarget done p default t) = element_referred done default t st c
taken st c otherwise (RestTarget done t) = rest_referred done t st c
taken st c otherwise (MemberTarget v k default ps) = member_referred v k default ps st c
taken st c otherwise w = otherwise w

-- ---- the end of statements, of a pattern, and of parameters

unfoldable pub over : State → Work → Next
over st (Behind v) = gives v st
over st (ElementsRest done t) = elements_rest done t st
over st (MembersRest b v ps) = members_on b v ps st
over st (StatementsRest ss) = controls (Run ss) st
over st (VariablesRest k ps) = variables_on k ps st
over st SwitchBody = hands Done st
over st (Labelling l) = hands Done st
over st (Restore e) = hands Done (within e st)
over st (Catching c) = hands Done st
over st (CatchBlock b) = run_block b st
over st (Finishing last) = finish last Done st
over st (Pending completion) = hands completion st
over st (LoopBegin l) = loop_begun l st
over st (LoopBody l) = loop_on l st
over st (ForOfBound body) = controls (Start [] body) st
over st (ForOfBody l iterator) = for_of_step l st iterator
over st (ParametersRest ps vs) = parameters_rest ps vs st
over st (ParametersBound code) = parameters_bound code st
over st (ItemsRest items) = controls (RunItems items) st
over st w = impossible st

-- ---- a throw, a return or a jump: what isn't named here is dropped

abbrev pub thrown_out : BuiltinCall → Value → State → Next
thrown_out c v st =
    if drops_throw c then controls (Turn (received c value.Undefined)) st else hands (Throws v) st

unfoldable pub abrupt : State → Completion → Work → Next
abrupt st (Throws v) (Operation c) = thrown_out c v st
abrupt st (Throws v) (Catching c) = catches c st v
abrupt st (Breaks label) SwitchBody = broken st label
abrupt st (Breaks label) (Labelling l) = broken_at l st label
abrupt st (Breaks label) (LoopBody l) = broken st label
abrupt st (Continues label) (LoopBody l) = loop_continued l st label
abrupt st c (ElementTarget done p default t) = closes_unless done t.iterator c st
abrupt st c (RestTarget done t) = closes_unless done t.iterator c st
abrupt st c (ElementsRest done t) = closes_unless done t.iterator c st
abrupt st c (ForOfBody l iterator) = for_of_jumped l iterator st c
abrupt st c (Restore e) = hands c (within e st)
abrupt st c (Finishing last) = finish last c st
abrupt st c (Generates n) = generated n st c
abrupt st c w = hands c st

-- ---- what a generator is resumed with

abbrev pub resumed : State → Resumption → Value → Work → Next
resumed st kind v (GeneratorStart body) = starts body st
resumed st kind v Yielded = arrives st kind v
resumed st kind v (Delegated iterator) = delegate_turn iterator st kind v
resumed st kind v w = impossible st

unfoldable pub handed : Work → State → Completion → Next
handed w st (Gives v) = taken st (Gives v) (given st v) w
handed w st (Refers r) = taken st (Refers r) (λ other. impossible st) w
handed w st Done = over st w
handed w st (Resumes kind v) = resumed st kind v w
handed w st c = abrupt st c w

-- Patterns (ECMA-262, 6th edition, 12.14.5, 13.3.3), and the closing of iterators (7.4.6).
use Rattle.std.specs.Prelude.{Bool, List, None, Option, Some, [], false, if◌then◌else◌, true, ◌∷◌}
use Rattle.es_value.specs.declared.value.ObjId.{ObjId}
use Rattle.es_value.specs.declared.value.Value.{Value}
use Rattle.es_value.specs.declared.value.Value.TheVariants as value
use Rattle.es_heap.specs.Heaps.{made, next_id}
use Rattle.es_heap.specs.declared.class.Class.TheVariants as class
use Rattle.es_heap.specs.declared.key.Key.{Key as PropertyKey}
use Rattle.es_heap.specs.declared.key.Key.TheVariants.{Text}
use Rattle.es_realm.specs.Names.{array_prototype}
use Rattle.es_realm.specs.declared.errors.ErrorKind.TheVariants.{TypeError}
use Rattle.es_operators.specs.Operators.{is_nothing}
use Rattle.es_operations.specs.Numbers as number
use Rattle.es6_ast.specs.Spans.{Open}
use Rattle.es6_ast.specs.declared.tree.Argument.TheOpen as layer
use Rattle.es6_ast.specs.declared.tree.Argument.TheOpen.{ArrayPart-F, Expression-F, ObjectPart-F, Pattern-F}
use Rattle.es6_ast.specs.declared.tree.ArrayPart.{ArrayPart, out-ArrayPart}
use Rattle.es6_ast.specs.declared.tree.Expression.{Expression, out-Expression}
use Rattle.es6_ast.specs.declared.tree.ObjectPart.{ObjectPart, out-ObjectPart}
use Rattle.es6_ast.specs.declared.tree.Part.{Part, out-Part}
use Rattle.es6_ast.specs.declared.tree.Pattern.{Pattern, out-Pattern}
use Rattle.source_meaning.specs.Environments.{initialized}
use Rattle.source_meaning.specs.Expressions.{with_reference}
use Rattle.source_meaning.specs.Functions.{is_undefined}
use Rattle.source_meaning.specs.Lists.{add_element}
use Rattle.source_meaning.specs.References.{put_value, reads, with_key}
use Rattle.source_meaning.specs.State.{Assigns, AtReference, Binds, Closing, Completion, Defaulted, Destructure, Done, ElementStep, ElementTarget, ElementValue, ElementsRest, Ignoring, InPattern, Initializes, MemberTarget, MemberValue, MembersRest, OfPart, OfProperty, PatternIterator, PutTo, RestStep, RestTarget, RestValue, SkipStep, Slot, State, Taking, Throws, Work}
use Rattle.source_meaning.specs.Steps.{Next, begins, controls, hands, impossible, operates, pushed, raises, refers, with_heap}
use Rattle.source_meaning.specs.Trees.{name_units}

-- ---- IteratorClose (7.4.6) under a completion: a throw that is under way stands

abbrev pub closes : Value → Completion → State → Next
closes iterator (Throws v) st = operates (Closing (Throws v)) number.iterator_close_thrown_number iterator [] st
closes iterator completion st = operates (Closing completion) number.iterator_close_number iterator [] st

abbrev pub closes_unless : Bool → Value → Completion → State → Next
closes_unless true iterator completion st = hands completion st
closes_unless false iterator completion st = closes iterator completion st

-- ---- where a value goes: a name is initialized, a reference is written, or a pattern takes it

abbrev pub initialize_target : Value → State → Open Expression-F → Next
initialize_target v st (layer.Name span name) = hands Done (initialized name v st)
initialize_target v st x = impossible st

abbrev pub target_by : Expression → Value → State → Binds → Next
target_by x v st Initializes = initialize_target v st (out-Expression x)
target_by x v st Assigns = refers (PutTo v) x (pushed Ignoring st)

abbrev pub put_referred : Value → State → Completion → Next
put_referred v st c = with_reference c st (λ r. put_value r v v st)

abbrev pub settled : Binds → Slot → Value → State → Next
settled b (InPattern p) v st = controls (Destructure b p v) st
settled b (AtReference r) v st = put_value r v v (pushed Ignoring st)

-- a default is taken for undefined
abbrev pub with_default : Binds → Slot → Option Expression → Value → State → Next
with_default b slot None v st = settled b slot v st
with_default b slot (Some x) v st = if is_undefined v then begins (Defaulted b slot) x st else settled b slot v st

-- in an assignment a target that is no pattern is evaluated before the value is taken
abbrev pub target_first : Binds → Open Pattern-F → Option Expression
target_first Assigns (layer.Target x) = Some x
target_first b p = None

-- ---- array patterns (12.14.5.2, 13.3.3.5, 13.3.3.6): a step that fails marks the iterator as done

abbrev pub iterator_step : Work → Value → State → Next
iterator_step w iterator st = operates w number.iterator_step_number iterator [] st

-- where the iterator is done the value is undefined
abbrev pub take_element : Bool → Slot → Option Expression → Taking → State → Next
take_element true slot default t st = with_default t.binds slot default value.Undefined (pushed (ElementsRest true t) st)
take_element false slot default t st = iterator_step (ElementStep slot default t) t.iterator st

abbrev pub element_of : Bool → Pattern → Option Expression → Taking → State → Option Expression → Next
element_of done p default t st None = take_element done (InPattern p) default t st
element_of done p default t st (Some x) = refers (ElementTarget done p default t) x st

abbrev pub element_referred : Bool → Option Expression → Taking → State → Completion → Next
element_referred done default t st c = with_reference c st (λ r. take_element done (AtReference r) default t st)

abbrev pub element_stepped : Slot → Option Expression → Taking → State → Value → Next
element_stepped slot default t st (value.Object result) =
    operates (ElementValue slot default t) number.iterator_value_number (value.Object result) [] st
element_stepped slot default t st v = take_element true slot default t st

abbrev pub element_valued : Slot → Option Expression → Taking → State → Value → Next
element_valued slot default t st v = with_default t.binds slot default v (pushed (ElementsRest false t) st)

-- a rest takes the values that are left in an array
abbrev pub rest_made : Slot → ObjId → Taking → State → Next
rest_made slot id t st = settled t.binds slot (value.Object id) (pushed (ElementsRest true t) st)

abbrev pub rest_on : Bool → Slot → ObjId → Taking → State → Next
rest_on true slot id t st = rest_made slot id t st
rest_on false slot id t st = iterator_step (RestStep slot id t) t.iterator st

abbrev pub take_rest : Bool → Slot → Taking → State → Next
take_rest done slot t st =
    rest_on done slot (next_id st.heap) t (with_heap (made st.heap (Some array_prototype) class.Array) st)

abbrev pub rest_stepped : Slot → ObjId → Taking → State → Value → Next
rest_stepped slot id t st (value.Object result) =
    operates (RestValue slot id t) number.iterator_value_number (value.Object result) [] st
rest_stepped slot id t st v = rest_made slot id t st

abbrev pub rest_valued : Slot → ObjId → Taking → State → Value → Next
rest_valued slot id t st v = rest_on false slot id t (with_heap (add_element st.heap id v) st)

abbrev pub rest_of : Bool → Pattern → Taking → State → Option Expression → Next
rest_of done p t st None = take_rest done (InPattern p) t st
rest_of done p t st (Some x) = refers (RestTarget done t) x st

abbrev pub rest_referred : Bool → Taking → State → Completion → Next
rest_referred done t st c = with_reference c st (λ r. take_rest done (AtReference r) t st)

-- a part without a target takes a step alone
abbrev pub skip : Bool → Taking → State → (Bool → State → Next) → Next
skip true t st next = next true st
skip false t st next = iterator_step (SkipStep t) t.iterator st

abbrev pub one_element : Bool → Taking → State → (Bool → State → Next) → Open ArrayPart-F → Next
one_element done t st next layer.SkippedPart = skip done t st next
one_element done t st next (layer.SinglePart p) =
    element_of done (out-Part p).pattern (out-Part p).default t st (target_first t.binds (out-Pattern (out-Part p).pattern))
one_element done t st next (layer.RestPart span p) = rest_of done p t st (target_first t.binds (out-Pattern p))

-- at the end an iterator that isn't done is closed
abbrev pub elements_on : Binds → Value → List ArrayPart → Bool → State → Next
elements_on b iterator [] done st = closes_unless done iterator Done st
elements_on b iterator (p ∷ ps) done st =
    one_element done (record { binds = b; iterator = iterator; parts = ps }) st (elements_on b iterator ps) (out-ArrayPart p)

abbrev pub elements_rest : Bool → Taking → State → Next
elements_rest done t st = elements_on t.binds t.iterator t.parts done st

abbrev pub is_last : Value → Bool
is_last (value.Object id) = false
is_last v = true

abbrev pub skipped : Taking → State → Value → Next
skipped t st v = elements_rest (is_last v) t st

-- ---- object patterns (12.14.5.2 to 12.14.5.4, 13.3.3.7)

abbrev pub take_member : Binds → Value → PropertyKey → Slot → Option Expression → List ObjectPart → State → Next
take_member b v k slot default ps st = reads (MemberValue b v slot default ps) (OfProperty v k) st

abbrev pub member_of : Binds → Value → PropertyKey → Part → List ObjectPart → State → Option Expression → Next
member_of b v k p ps st None = take_member b v k (InPattern (out-Part p).pattern) (out-Part p).default ps st
member_of b v k p ps st (Some x) = refers (MemberTarget v k (out-Part p).default ps) x st

abbrev pub part_named : Binds → Value → Part → List ObjectPart → PropertyKey → State → Next
part_named b v p ps k st = member_of b v k p ps st (target_first b (out-Pattern (out-Part p).pattern))

abbrev pub member_referred : Value → PropertyKey → Option Expression → List ObjectPart → State → Completion → Next
member_referred v k default ps st c = with_reference c st (λ r. take_member Assigns v k (AtReference r) default ps st)

abbrev pub member_valued : Binds → Value → Slot → Option Expression → List ObjectPart → State → Value → Next
member_valued b v slot default ps st w = with_default b slot default w (pushed (MembersRest b v ps) st)

-- a name alone is the key too
abbrev pub shorthand_key : Open Expression-F → PropertyKey
shorthand_key (layer.Name span name) = Text (name_units name)
shorthand_key x = Text []

abbrev pub name_key : Open Pattern-F → PropertyKey
name_key (layer.Target x) = shorthand_key (out-Expression x)
name_key p = Text []

abbrev pub one_member : Binds → Value → List ObjectPart → State → Open ObjectPart-F → Next
one_member b v ps st (layer.NamedPart p) = part_named b v p ps (name_key (out-Pattern (out-Part p).pattern)) st
one_member b v ps st (layer.KeyedPart span k p) = with_key k (OfPart b v p ps) st (part_named b v p ps)

abbrev pub members_on : Binds → Value → List ObjectPart → State → Next
members_on b v [] st = hands Done st
members_on b v (p ∷ ps) st = one_member b v ps st (out-ObjectPart p)

-- ---- a pattern with its value

abbrev pub destructure : Binds → Value → State → Open Pattern-F → Next
destructure b v st (layer.Target x) = target_by x v st b
destructure b v st (layer.ArrayPattern span parts) = operates (PatternIterator b parts) number.get_iterator_number v [] st
destructure b v st (layer.ObjectPattern span parts) = if is_nothing v then raises TypeError st else members_on b v parts st

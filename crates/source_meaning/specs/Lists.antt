-- Lists of arguments and elements (ECMA-262, 6th edition, 12.2.5.2, 12.3.6.1), and the links of a chain (12.3).
use Rattle.std.specs.Prelude.{Bool, List, None, Option, Some, [], false, if◌then◌else◌, map, pos, suc, ℕ, ◌++◌, ◌∷◌}
use Rattle.std.specs.Cmp.Lexicographic.{pointwise}
use Rattle.std.specs.Str.{bytes_eq}
use Rattle.es_value.specs.declared.value.ObjId.{ObjId}
use Rattle.es_value.specs.declared.value.Value.{Value}
use Rattle.es_value.specs.declared.value.Value.TheVariants as value
use Rattle.es_heap.specs.Heaps.{Heap, next_id, object_at, set_length}
use Rattle.es_heap.specs.Objects.{length_of}
use Rattle.es_heap.specs.declared.key.Key.TheVariants.{Iterator, Text}
use Rattle.es_realm.specs.declared.errors.ErrorKind.TheVariants.{TypeError}
use Rattle.es_operators.specs.Operators.{is_nothing}
use Rattle.es_calls.specs.Making.{with_element}
use Rattle.es_operations.specs.Making.{made_template}
use Rattle.es_operations.specs.Numbers as number
use Rattle.es6_ast.specs.Spans.{Open}
use Rattle.es6_ast.specs.declared.tree.Argument.{Argument, out-Argument}
use Rattle.es6_ast.specs.declared.tree.Argument.TheOpen as layer
use Rattle.es6_ast.specs.declared.tree.Argument.TheOpen.{Argument-F, Link-F}
use Rattle.es6_ast.specs.declared.tree.Expression.{Expression}
use Rattle.es6_ast.specs.declared.tree.Link.{Link, out-Link}
use Rattle.es6_ast.specs.declared.tree.Template.{Template, out-Template}
use Rattle.es6_ast.specs.declared.tree.TemplatePart.{out-TemplatePart}
use Rattle.source_state.specs.Parts.{arguments_parts, values_parts}
use Rattle.source_meaning.specs.Calls.{call_host, construct, construct_parent}
use Rattle.source_meaning.specs.Environments.{host_named}
use Rattle.source_meaning.specs.References.{get_value, is_iterator_key, reads}
use Rattle.source_meaning.specs.State.{Callee, Calling, Calls, Collected, Completion, ForCall, ForNew, ForSuper, Gives, Hosting, LinkIndex, LinkKey, LinkMethod, Links, ListValue, Listing, OfArguments, OfArray, OfName, OfProperty, OfSuper, Passing, PassesArguments, PassesTemplate, Refers, SpreadIterator, SpreadPart, SpreadStep, SpreadValue, State, TemplateObject, Use}
use Rattle.source_meaning.specs.Steps.{Next, begins, controls, due, gives, hands, impossible, operates, pushed, raises, refers_to, with_heap}
use Rattle.source_meaning.specs.Trees.{name_units}

-- ---- elements of arrays (12.2.5.2)

abbrev pub length_at : Heap → ObjId → ℕ
length_at heap id = length_of (object_at heap id)

abbrev pub add_element : Heap → ObjId → Value → Heap
add_element heap id v = with_element heap id (length_at heap id) v

abbrev pub add_hole : Heap → ObjId → Heap
add_hole heap id = (set_length heap id (pos (suc (length_at heap id)))).after

-- ---- a list that is whole: the array, the call, `new` (12.3.3.1.1), or `super(..)`

abbrev pub call_with : Callee → List Value → State → Next
call_with (Calling f receiver) args st = controls (Calls (due f receiver args None)) st
call_with (Hosting n) args st = call_host n args st

abbrev pub used : Use → List Value → State → Next
used (ForCall callee wanted links) args st = call_with callee args (pushed (Links wanted links) st)
used (ForNew f) args st = construct f args f st
used ForSuper args st = construct_parent args st

abbrev pub collected : Collected → State → Next
collected (OfArray id) st = gives (value.Object id) st
collected (OfArguments use_ args) st = used use_ args st

-- ---- part by part (12.2.5.2, 12.3.6.1)

abbrev pub begin_part : Listing → State → Open Argument-F → Next
begin_part l st (layer.Single x) = begins (ListValue l) x st
begin_part l st (layer.Spread span x) = begins (SpreadPart l) x st

abbrev pub hole_added : Collected → State → State
hole_added (OfArray id) st = with_heap (add_hole st.heap id) st
hole_added c st = st

abbrev pub list_on : Collected → List (Option Argument) → State → Next
list_on c [] st = collected c st
list_on c (None ∷ xs) st = list_on c xs (hole_added c st)
list_on c (Some x ∷ xs) st = begin_part (record { collected = c; rest = xs }) st (out-Argument x)

abbrev pub with_added : Collected → Value → State → (Collected → State → Next) → Next
with_added (OfArray id) v st f = f (OfArray id) (with_heap (add_element st.heap id v) st)
with_added (OfArguments use_ args) v st f = f (OfArguments use_ (args ++ v ∷ [])) st

abbrev pub list_valued : Listing → State → Value → Next
list_valued l st v = with_added l.collected v st (λ c after. list_on c l.rest after)

-- a spread part is never closed
abbrev pub spread_part : Listing → State → Value → Next
spread_part l st v = operates (SpreadIterator l) number.get_iterator_number v [] st

abbrev pub spread_step : Listing → Value → State → Next
spread_step l iterator st = operates (SpreadStep l iterator) number.iterator_step_number iterator [] st

-- a step gives false behind the last value
abbrev pub spread_stepped : Listing → Value → State → Value → Next
spread_stepped l iterator st (value.Object result) =
    operates (SpreadValue l iterator) number.iterator_value_number (value.Object result) [] st
spread_stepped l iterator st v = list_on l.collected l.rest st

abbrev pub spread_valued : Listing → Value → State → Value → Next
spread_valued l iterator st v =
    with_added l.collected v st (λ c after. spread_step (record l { collected = c }) iterator after)

-- ---- template objects (12.2.9.3): one for all templates with the same raw texts

abbrev pub cooked_texts : Template → List (List ℕ)
cooked_texts t = (out-Template t).first.cooked ∷ map (λ p. (out-TemplatePart p).after.cooked) (out-Template t).rest

abbrev pub raw_texts : Template → List (List ℕ)
raw_texts t = (out-Template t).first.raw ∷ map (λ p. (out-TemplatePart p).after.raw) (out-Template t).rest

abbrev pub template_in : List TemplateObject → List (List ℕ) → Option Value
template_in [] raw = None
template_in (t ∷ ts) raw = if pointwise bytes_eq t.raw raw then Some t.object else template_in ts raw

abbrev pub text_values : List (List ℕ) → List Value
text_values ts = map (λ t. value.Text t) ts

abbrev pub new_template : Template → State → (Value → State → Next) → Next
new_template t st f =
    let o = value.Object (next_id st.heap) in
    let made = with_heap (made_template st.heap (text_values (cooked_texts t)) (text_values (raw_texts t))) st in
    f o (record made { templates = st.templates ++ record { raw = raw_texts t; object = o } ∷ [] })

abbrev pub template_by : Template → State → (Value → State → Next) → Option Value → Next
template_by t st f None = new_template t st f
template_by t st f (Some o) = f o st

abbrev pub with_template : Template → State → (Value → State → Next) → Next
with_template t st f = template_by t st f (template_in st.templates (raw_texts t))

-- ---- what is passed to a callee (12.3.4.2, 12.3.7.1): of a template its object and its values

abbrev pub template_values : Template → List (Option Argument)
template_values t = values_parts (out-Template t).rest

abbrev pub passes : Callee → Passing → Bool → List Link → State → Next
passes callee (PassesArguments xs) wanted links st =
    list_on (OfArguments (ForCall callee wanted links) []) (arguments_parts xs) st
passes callee (PassesTemplate t) wanted links st = with_template t st
    (λ o after. list_on (OfArguments (ForCall callee wanted links) (o ∷ [])) (template_values t) after)

-- the callee is read before its arguments are evaluated; of a property the base is the receiver (12.3.4.1)
abbrev pub call_named : Option ℕ → List ℕ → Passing → Bool → List Link → State → Next
call_named (Some n) x p wanted links st = passes (Hosting n) p wanted links st
call_named None x p wanted links st = reads (LinkMethod value.Undefined p wanted links) (OfName x) st

abbrev pub call_link : Passing → Bool → List Link → State → Completion → Next
call_link p wanted links st (Gives f) = passes (Calling f value.Undefined) p wanted links st
call_link p wanted links st (Refers (OfName x)) = call_named (host_named x st) x p wanted links st
call_link p wanted links st (Refers (OfProperty base k)) = reads (LinkMethod base p wanted links) (OfProperty base k) st
call_link p wanted links st (Refers (OfSuper this k)) = reads (LinkMethod this p wanted links) (OfSuper this k) st
call_link p wanted links st completion = impossible st

-- ---- property accessors (12.3.2.1): the base is checked, behind the expression in brackets

abbrev pub member_link : List ℕ → Bool → List Link → State → Value → Next
member_link units wanted links st v =
    if is_nothing v then raises TypeError st
    else refers_to (OfProperty v (Text units)) (pushed (Links wanted links) st)

abbrev pub iterator_link : Bool → List Link → State → Value → Next
iterator_link wanted links st v =
    if is_nothing v then raises TypeError st
    else refers_to (OfProperty v Iterator) (pushed (Links wanted links) st)

abbrev pub index_link : Expression → Bool → List Link → State → Value → Next
index_link x wanted links st v =
    if is_iterator_key x st then iterator_link wanted links st v else begins (LinkIndex v wanted links) x st

abbrev pub indexed : Value → Bool → List Link → State → Value → Next
indexed base wanted links st k = operates (LinkKey base wanted links) number.to_key_number base (k ∷ []) st

-- ---- link by link. A reference is read where its value is asked for

abbrev pub with_current : Bool → List Link → State → Completion → (Value → Next) → Next
with_current wanted links st (Gives v) f = f v
with_current wanted links st (Refers r) f = reads (Links wanted links) r st
with_current wanted links st completion f = impossible st

abbrev pub one_link : Link → Bool → List Link → State → Completion → Open Link-F → Next
one_link l wanted ls st c (layer.Member span x) =
    with_current wanted (l ∷ ls) st c (member_link (name_units x.name) wanted ls st)
one_link l wanted ls st c (layer.Index span x) = with_current wanted (l ∷ ls) st c (index_link x wanted ls st)
one_link l wanted ls st c (layer.Call span xs) = call_link (PassesArguments xs) wanted ls st c
one_link l wanted ls st c (layer.Tagged t) = call_link (PassesTemplate t) wanted ls st c

abbrev pub end_of_links : Bool → State → Completion → Next
end_of_links false st (Refers r) = get_value r st
end_of_links wanted st completion = hands completion st

unfoldable pub linked : Bool → List Link → State → Completion → Next
linked wanted [] st c = end_of_links wanted st c
linked wanted (l ∷ ls) st c = one_link l wanted ls st c (out-Link l)

-- Object literals and the methods in them (ECMA-262, 6th edition, 12.2.6, 14.3).
use Rattle.std.specs.Prelude.{List, [], false, true, ◌∷◌}
use Rattle.es_value.specs.declared.value.ObjId.{ObjId}
use Rattle.es_value.specs.declared.value.Value.{Value}
use Rattle.es_value.specs.declared.value.Value.TheVariants as value
use Rattle.es_heap.specs.declared.key.Key.{Key as PropertyKey}
use Rattle.es_heap.specs.declared.key.Key.TheVariants.{Text}
use Rattle.es_heap.specs.declared.prop.Prop.{Prop}
use Rattle.es_heap.specs.declared.prop.Prop.TheVariants.{Plain}
use Rattle.es_realm.specs.Access.{define_key}
use Rattle.es_realm.specs.declared.access.Write.{Write}
use Rattle.es_realm.specs.declared.access.Write.TheVariants as write
use Rattle.es_realm.specs.declared.edition.Edition.TheVariants.{Sixth}
use Rattle.es_realm.specs.declared.errors.ErrorKind.TheVariants.{RangeError, TypeError}
use Rattle.es_operations.specs.Making.{with_half}
use Rattle.es6_ast.specs.Spans.{Open}
use Rattle.es6_ast.specs.declared.operators.MethodKind.{MethodKind}
use Rattle.es6_ast.specs.declared.operators.MethodKind.TheVariants.{GetterMethod, SetterMethod}
use Rattle.es6_ast.specs.declared.tree.Argument.TheOpen as layer
use Rattle.es6_ast.specs.declared.tree.Argument.TheOpen.{Property-F}
use Rattle.es6_ast.specs.declared.tree.Expression.{Expression}
use Rattle.es6_ast.specs.declared.tree.Method.{Method, out-Method}
use Rattle.es6_ast.specs.declared.tree.Property.{Property, out-Property}
use Rattle.source_meaning.specs.Functions.{Given, closed}
use Rattle.source_meaning.specs.References.{reads, with_key}
use Rattle.source_meaning.specs.State.{MethodCode, OfMethod, OfName, OfValue, PropertyValue, State}
use Rattle.source_meaning.specs.Steps.{Next, begins, gives, impossible, leaves, raises, with_heap}
use Rattle.source_meaning.specs.Trees.{name_units}

-- ---- DefinePropertyOrThrow (7.3.7): a refusal is a TypeError

abbrev pub after_definition : Write → State → (State → Next) → Next
after_definition write.Done st next = next st
after_definition (write.Leaves x) st next = leaves x st
after_definition write.OutOfRange st next = raises RangeError st
after_definition w st next = raises TypeError st

abbrev pub defines : ObjId → PropertyKey → Prop → State → (State → Next) → Next
defines id k p st next =
    let w = define_key Sixth st.heap id k p in
    after_definition w.answer (with_heap w.after st) next

-- ---- methods (14.3.9): the object is the home object. The other half of an accessor is kept

abbrev pub method_property : MethodKind → ObjId → PropertyKey → Value → State → Prop
method_property GetterMethod id k (value.Object f) st = with_half st.heap id k f false
method_property SetterMethod id k (value.Object f) st = with_half st.heap id k f true
method_property kind id k v st = Plain v true true

abbrev pub method_closed : MethodKind → ObjId → PropertyKey → Given → (State → Next) → Next
method_closed kind id k g next = defines id k (method_property kind id k g.value g.state) g.state next

abbrev pub define_method : Method → ObjId → PropertyKey → State → (State → Next) → Next
define_method m id k st next =
    method_closed (out-Method m).kind id k (closed (MethodCode (out-Method m).function) (value.Object id) st) next

-- ---- property by property (12.2.6.9): the name, and then the value

abbrev pub value_named : ObjId → Expression → List Property → PropertyKey → State → Next
value_named id x ps k st = begins (PropertyValue id k ps) x st

abbrev pub one_property : ObjId → List Property → State → (State → Next) → Open Property-F → Next
one_property id ps st next (layer.Plain span k x) = with_key k (OfValue id x ps) st (value_named id x ps)
one_property id ps st next (layer.Shorthand span name) = reads (PropertyValue id (Text (name_units name)) ps) (OfName name) st
one_property id ps st next (layer.Defined m) =
    with_key (out-Method m).key (OfMethod id m ps) st (λ k named. define_method m id k named next)
one_property id ps st next p = impossible st

abbrev pub properties_on : ObjId → List Property → State → Next
properties_on id [] st = gives (value.Object id) st
properties_on id (p ∷ ps) st = one_property id ps st (properties_on id ps) (out-Property p)

abbrev pub method_named : ObjId → Method → List Property → PropertyKey → State → Next
method_named id m ps k st = define_method m id k st (properties_on id ps)

abbrev pub property_valued : ObjId → PropertyKey → List Property → State → Value → Next
property_valued id k ps st v = defines id k (Plain v true true) st (properties_on id ps)

-- References (ECMA-262, 6th edition, 6.2.3), and the keys that name properties (12.2.6.8, 12.3.2.1, 12.3.5).
use Rattle.std.specs.Prelude.{Bool, List, [], false, if◌then◌else◌, is_none, true, ℕ, ◌&&◌, ◌∷◌}
use Rattle.std.specs.Prelude.{codes}
use Rattle.es_value.specs.declared.value.Value.{Value}
use Rattle.es_value.specs.declared.value.Value.TheVariants as value
use Rattle.es_heap.specs.declared.key.Key.{Key as PropertyKey}
use Rattle.es_heap.specs.declared.key.Key.TheVariants.{Iterator, Text}
use Rattle.es_operators.specs.Primitives.{to_key}
use Rattle.es_operations.specs.Numbers as number
use Rattle.es_operations.specs.Turning.{key_operand}
use Rattle.es6_ast.specs.Spans.{Open}
use Rattle.es6_ast.specs.declared.tree.Argument.TheOpen as layer
use Rattle.es6_ast.specs.declared.tree.Argument.TheOpen.{Key-F}
use Rattle.es6_ast.specs.declared.tree.Expression.{Expression, out-Expression}
use Rattle.es6_ast.specs.declared.tree.Key.{Key, out-Key}
use Rattle.source_meaning.specs.Environments.{read_name, resolve, with_this, write_name}
use Rattle.source_meaning.specs.State.{Behind, KeyText, KeyValue, Naming, OfName, OfProperty, OfSuper, Reference, State, Work}
use Rattle.source_meaning.specs.Steps.{Next, begins, gives, impossible, operates, pushed, refers_to, turns}
use Rattle.source_meaning.specs.Trees.{is_symbol_iterator, name_units}

-- ---- GetValue (6.2.3.1), and PutValue (6.2.3.2) with the value that the expression has

abbrev pub get_value : Reference → State → Next
get_value (OfName x) st = read_name x st
get_value (OfProperty base k) st = turns number.get_number base (key_operand k ∷ []) st
get_value (OfSuper this k) st = turns number.super_get_number this (st.context.own.home ∷ key_operand k ∷ []) st

abbrev pub reads : Work → Reference → State → Next
reads w r st = get_value r (pushed w st)

abbrev pub put_value : Reference → Value → Value → State → Next
put_value (OfName x) v w st = write_name x v st (gives w)
put_value (OfProperty base k) v w st = operates (Behind w) number.put_number base (key_operand k ∷ v ∷ []) st
put_value (OfSuper this k) v w st = impossible st

-- ---- MakeSuperPropertyReference (12.3.5.3): `this` has to be there

abbrev pub by_want : Bool → Reference → State → Next
by_want true r st = refers_to r st
by_want false r st = get_value r st

abbrev pub super_reference : Bool → PropertyKey → State → Next
super_reference wanted k st = with_this st (λ v. by_want wanted (OfSuper v k) st)

-- ---- keys that are written, and computed ones (12.2.6.8)

abbrev pub is_iterator_key : Expression → State → Bool
is_iterator_key x st = is_symbol_iterator (out-Expression x) && is_none (resolve st (codes "Symbol"))

abbrev pub key_by : Naming → State → (PropertyKey → State → Next) → Open Key-F → Next
key_by naming st f (layer.WordKey span name) = f (Text (name_units name)) st
key_by naming st f (layer.TextKey span units) = f (Text units) st
key_by naming st f (layer.IntegerKey span n) = f (to_key (value.Number n)) st
key_by naming st f (layer.ComputedKey span x) =
    if is_iterator_key x st then f Iterator st else begins (KeyValue naming) x st

abbrev pub with_key : Key → Naming → State → (PropertyKey → State → Next) → Next
with_key k naming st f = key_by naming st f (out-Key k)

-- the value of a computed one becomes a text
abbrev pub key_valued : Naming → State → Value → Next
key_valued naming st v = operates (KeyText naming) number.to_text_number v [] st

abbrev pub with_text : Value → State → (List ℕ → Next) → Next
with_text (value.Text units) st f = f units
with_text v st f = impossible st

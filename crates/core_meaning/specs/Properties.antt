-- Properties in expressions (ECMA-262, 6th edition, 12.2.5, 12.2.6, 12.3.2, 12.4, 12.5.4 and 12.14; 5.1 edition, 11.1.4, 11.1.5,
-- 11.2.1, 11.3, 11.4.1 and 11.13).
use Rattle.std.specs.Char.Escape.{encode_utf16}
use Rattle.std.specs.Fmt.{decimal}
use Rattle.std.specs.Str.{chars}
use Rattle.std.specs.List.{flat_map}
use Rattle.std.specs.Prelude.{Bool, List, [], if◌then◌else◌, pos, suc, true, ℕ, ◌∷◌}
use Rattle.es_value.specs.declared.value.ObjId.{ObjId}
use Rattle.es_value.specs.declared.value.Value.{Value}
use Rattle.es_value.specs.declared.value.Value.TheVariants as value
use Rattle.es_heap.specs.Heaps.{Heap, object_at, set_length}
use Rattle.es_heap.specs.Objects.{length_of}
use Rattle.es_heap.specs.declared.key.Key.{Key as PropertyKey}
use Rattle.es_heap.specs.declared.key.Key.TheVariants.{Text}
use Rattle.es_heap.specs.declared.prop.Prop.{Prop}
use Rattle.es_heap.specs.declared.prop.Prop.TheVariants.{Plain}
use Rattle.es_realm.specs.Access.{define_key}
use Rattle.es_realm.specs.declared.access.Write.{Write}
use Rattle.es_realm.specs.declared.access.Write.TheVariants as write
use Rattle.es_realm.specs.declared.errors.ErrorKind.TheVariants.{RangeError, TypeError}
use Rattle.es_operators.specs.Operators.{is_nothing}
use Rattle.es_calls.specs.Making.{with_element}
use Rattle.es_operations.specs.Making.{with_half}
use Rattle.es_operations.specs.Numbers as number
use Rattle.es_operations.specs.Turning.{key_operand}
use Rattle.core_ast.specs.declared.parts.Binary.{Binary}
use Rattle.core_ast.specs.declared.parts.Key.{Key}
use Rattle.core_ast.specs.declared.parts.Key.TheVariants.{IntegerKey, TextKey, WordKey}
use Rattle.core_ast.specs.declared.parts.Update.{Update}
use Rattle.core_ast.specs.declared.tree.CoreLink.{CoreLink}
use Rattle.core_meaning.specs.Expressions.{operate, with_current, with_part, with_two}
use Rattle.core_meaning.specs.Rows.{Next, Rows, goes, leaves, operates, raises, unlawful, with_heap}
use Rattle.core_meaning.specs.State.{After, Behind, Current, Extra, Frame, Has, Keyed, Old, Reference, Sorts, State, StepAt, Store, Strict, User}

-- the text that is written; a word is kept in UTF-8
abbrev pub units_of_name : List ℕ → List ℕ
units_of_name name = flat_map encode_utf16 (chars name)

abbrev pub key_units : Key → List ℕ
key_units (WordKey word) = units_of_name word
key_units (TextKey units) = units
key_units (IntegerKey n) = decimal n

-- `.k` (12.3.2.1): the base is checked, and a reference made
abbrev pub member : {s : Sorts} {S : Type 0} → Rows s S → List ℕ → Strict s.Mark → State s S → Next s S
member rows units p st = with_current p.current st
    (λ v. if is_nothing v then raises TypeError st else goes (rows.named v units) p.links st)

-- `[k]`: the base is checked, the key is converted, and a reference made
abbrev pub index : {s : Sorts} {S : Type 0} → Strict s.Mark → State s S → Next s S
index p st = with_two p st (λ v k. operates (Keyed v p.links) number.to_key_number v (k ∷ []) st)

-- a reference is read, and what is there goes to the frame (6.2.3.1)
abbrev pub reads : {s : Sorts} {S : Type 0} → Frame s.Mark s.Work → Value → PropertyKey → State s S → Next s S
reads frame base k st = operates frame number.get_number base (key_operand k ∷ []) st

-- a value is written to a reference (6.2.3.2), and another one goes on
abbrev pub puts : {s : Sorts} {S : Type 0} → Value → Value → PropertyKey → Value → List CoreLink → State s S → Next s S
puts given base k v links st =
    operates (Behind (User given) links) number.put_number base (key_operand k ∷ v ∷ []) st

abbrev pub put : {s : Sorts} {S : Type 0} → Strict s.Mark → State s S → Current s.Mark → Next s S
put p st (Reference base k) = with_part p st (λ v. puts v base k v p.links st)
put p st c = unlawful st

abbrev pub delete : {s : Sorts} {S : Type 0} → Strict s.Mark → State s S → Current s.Mark → Next s S
delete p st (Reference base k) = operates (After p.links) number.delete_number base (key_operand k ∷ []) st
delete p st c = unlawful st

-- `o.k op= e` and `++o.k`: the old value was read before
abbrev pub update : {s : Sorts} {S : Type 0} → Binary → Strict s.Mark → State s S → Current s.Mark → Next s S
update b p st (Old base k v) = with_part p st (λ w. operate (Store base k p.links) b v w st)
update b p st c = unlawful st

abbrev pub step_at : {s : Sorts} {S : Type 0} → Update → Strict s.Mark → State s S → Current s.Mark → Next s S
step_at u p st (Old base k v) = operates (StepAt u base k p.links) number.to_number_number v [] st
step_at u p st c = unlawful st

-- ---- literals (12.2.5.2, 12.2.6.8): the current value is the array or the object

abbrev pub with_object : {s : Sorts} {S : Type 0} → Current s.Mark → State s S → (ObjId → Next s S) → Next s S
with_object (Has (User (value.Object id))) st f = f id
with_object c st f = unlawful st

abbrev pub has_object : {s : Sorts} {S : Type 0} → Strict s.Mark → State s S → Heap → Next s S
has_object p st heap = goes p.current p.links (with_heap heap st)

abbrev pub length_at : Heap → ObjId → ℕ
length_at heap id = length_of (object_at heap id)

abbrev pub add_element : Heap → ObjId → Value → Heap
add_element heap id v = with_element heap id (length_at heap id) v

abbrev pub add_hole : Heap → ObjId → Heap
add_hole heap id = (set_length heap id (pos (suc (length_at heap id)))).after

abbrev pub element : {s : Sorts} {S : Type 0} → Rows s S → Strict s.Mark → State s S → Current s.Mark → Next s S
element rows p st (Has (Extra m)) = rows.act p st
element rows p st c = with_object c st (λ id. with_part p st (λ v. has_object p st (add_element st.heap id v)))

abbrev pub hole : {s : Sorts} {S : Type 0} → Rows s S → Strict s.Mark → State s S → Current s.Mark → Next s S
hole rows p st (Has (Extra m)) = rows.act p st
hole rows p st c = with_object c st (λ id. has_object p st (add_hole st.heap id))

-- what a definition answers (7.3.7): a refusal is a TypeError
abbrev pub defined : {s : Sorts} {S : Type 0} → Current s.Mark → List CoreLink → State s S → Write → Next s S
defined current links st write.Done = goes current links st
defined current links st (write.Leaves x) = leaves x st
defined current links st write.OutOfRange = raises RangeError st
defined current links st w = raises TypeError st

abbrev pub defines : {s : Sorts} {S : Type 0} → Rows s S → ObjId → PropertyKey → Prop → Current s.Mark → List CoreLink → State s S → Next s S
defines rows id k property current links st =
    let w = define_key rows.edition st.heap id k property in
    defined current links (with_heap w.after st) w.answer

-- the key that is written
abbrev pub key_in : {M : Type 0} → List ℕ → Current M → PropertyKey
key_in units (Reference base k) = k
key_in units c = Text units

abbrev pub key_named : {s : Sorts} {S : Type 0} → Rows s S → ObjId → List ℕ → PropertyKey
key_named rows id units = key_in units (rows.named (value.Object id) units)

abbrev pub define : {s : Sorts} {S : Type 0} → Rows s S → List ℕ → Strict s.Mark → State s S → Next s S
define rows units p st = with_object p.current st (λ id. with_part p st
    (λ v. defines rows id (key_named rows id units) (Plain v true true) p.current p.links st))

abbrev pub accessor_defined : {s : Sorts} {S : Type 0} → Rows s S → ObjId → List ℕ → Bool → Strict s.Mark → State s S → Value → Next s S
accessor_defined rows id units is_setter p st (value.Object f) =
    let k = key_named rows id units in
    defines rows id k (with_half st.heap id k f is_setter) p.current p.links st
accessor_defined rows id units is_setter p st v = unlawful st

abbrev pub accessor : {s : Sorts} {S : Type 0} → Rows s S → List ℕ → Bool → Strict s.Mark → State s S → Next s S
accessor rows units is_setter p st =
    with_object p.current st (λ id. with_part p st (accessor_defined rows id units is_setter p st))

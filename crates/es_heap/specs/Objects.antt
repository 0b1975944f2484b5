-- Objects, and what the standard's operations do to one (ECMA-262, 6th edition, 9.1 and 9.4.2).
use Rattle.std.specs.Prelude.{◌≡◌, ℕ, ℤ, pos, negsuc, ◌+◌, Bool, true, false, ◌&&◌, ◌||◌, not, nat_eq, nat_le, nat_lt, if◌then◌else◌, List, [], ◌∷◌, Option, None, Some, is_none, Result, Ok, Err}
use Rattle.std.specs.Map.{lookup}
use Rattle.indexmap.specs.IndexMap.{insert_entry, swap_remove_entry}
use Rattle.indexmap.specs.IndexSet.{insert_key}
use Rattle.es_value.specs.Equality.{same_value}
use Rattle.es_value.specs.declared.value.ObjId.{ObjId}
use Rattle.es_value.specs.declared.value.Value.TheVariants.{Number}
use Rattle.es_heap.specs.declared.class.Class.{Class}
use Rattle.es_heap.specs.declared.key.Key.{Key}
use Rattle.es_heap.specs.declared.prop.Prop.{Prop}
use Rattle.es_heap.specs.declared.prop.Prop.TheVariants.{Plain, Accessor}
use Rattle.es_heap.specs.declared.prop.HeapFault.{HeapFault}
use Rattle.es_heap.specs.declared.prop.HeapFault.TheVariants.{NotWritable, NotConfigurable, NotExtensible, BadLength, OutOfMemory}
use Rattle.es_heap.specs.Classes.{is_array}
use Rattle.es_heap.specs.Keys.{same_key, array_index, length_key}
use Rattle.es_heap.specs.Tables.{is_configurable, cut_end, cut_at}

pub record Object : Type 0 where
  pub proto : Option ObjId
  pub class : Class
  pub extensible : Bool
  pub properties : List (Key × Prop)
  pub recorded : List Key

-- what an operation leaves, and why it was refused, if it was
pub record Outcome (S : Type 0) : Type 0 where
  pub after : S
  pub fault : Option HeapFault

abbrev pub done : {S : Type 0} → S → Outcome S
done s = record { after = s; fault = None }

abbrev pub refused : {S : Type 0} → S → HeapFault → Outcome S
refused s f = record { after = s; fault = Some f }

abbrev pub fault_of : {U : Type 0} → Result U HeapFault → Option HeapFault
fault_of (Ok u) = None
fault_of (Err f) = Some f

-- the operation had its outcome
abbrev pub Settles : {S U : Type 0} → S → Result U HeapFault → Outcome S → Type 0
Settles new r outcome = (fault_of r ≡ outcome.fault) × (new ≡ outcome.after)

-- the operation had its outcome, or for want of memory nothing changed
abbrev pub Comes : {S U : Type 0} → S → S → Result U HeapFault → Outcome S → Type 0
Comes old new (Ok u) outcome = (None ≡ outcome.fault) × (new ≡ outcome.after)
Comes old new (Err OutOfMemory) outcome = new ≡ old
Comes old new (Err NotWritable) outcome = (Some NotWritable ≡ outcome.fault) × (new ≡ outcome.after)
Comes old new (Err NotConfigurable) outcome = (Some NotConfigurable ≡ outcome.fault) × (new ≡ outcome.after)
Comes old new (Err NotExtensible) outcome = (Some NotExtensible ≡ outcome.fault) × (new ≡ outcome.after)
Comes old new (Err BadLength) outcome = (Some BadLength ≡ outcome.fault) × (new ≡ outcome.after)

-- OrdinaryGetOwnProperty (9.1.5.1)
abbrev pub own : Object → Key → Option Prop
own o k = lookup (same_key k) o.properties

-- a key that is there keeps its place and takes the property, and a new key goes last
abbrev pub with_own : Object → Key → Prop → Object
with_own o k p = record o { properties = insert_entry same_key o.properties k p }

-- the last property takes the place of the one that goes: nothing sees their order
abbrev pub without_own : Object → Key → Object
without_own o k = record o { properties = swap_remove_entry (same_key k) o.properties }

abbrev pub same_function : Option ObjId → Option ObjId → Bool
same_function None None = true
same_function (Some f) (Some g) = nat_eq f.0 g.0
same_function None (Some g) = false
same_function (Some f) None = false

-- why a property that isn't configurable can't become another one (9.1.6.3, from 5 on)
abbrev pub frozen_refusal : Prop → Prop → Option HeapFault
frozen_refusal (Plain v w c) (Plain v' w' c') =
    if c' then Some NotConfigurable else if w || (not w' && same_value v v') then None else Some NotWritable
frozen_refusal (Accessor g s c) (Accessor g' s' c') =
    if not c' && (same_function g g' && same_function s s') then None else Some NotConfigurable
frozen_refusal (Plain v w c) (Accessor g' s' c') = Some NotConfigurable
frozen_refusal (Accessor g s c) (Plain v' w' c') = Some NotConfigurable

abbrev pub refusal : Prop → Prop → Option HeapFault
refusal now next = if is_configurable now then None else frozen_refusal now next

-- what becomes of an object if nothing refuses
abbrev pub unless_refused : Object → Option HeapFault → Object → Outcome Object
unless_refused o None next = done next
unless_refused o (Some f) next = refused o f

-- ValidateAndApplyPropertyDescriptor (9.1.6.3) at a descriptor that has every field
abbrev pub validate_and_apply : Object → Key → Option Prop → Prop → Outcome Object
validate_and_apply o k None next = if o.extensible then done (with_own o k next) else refused o NotExtensible
validate_and_apply o k (Some now) next = unless_refused o (refusal now next) (with_own o k next)

-- OrdinaryDefineOwnProperty (9.1.6.1)
abbrev pub ordinary_define : Object → Key → Prop → Outcome Object
ordinary_define o k next = validate_and_apply o k (own o k) next

-- the property `length` of an array: it is plain and not configurable
abbrev pub length_property : ℕ → Bool → Prop
length_property n writable = Plain (Number (pos n)) writable false

abbrev pub length_in : Option Prop → ℕ
length_in (Some (Plain (Number (pos n)) w c)) = n
length_in _ = 0

abbrev pub writable_in : Option Prop → Bool
writable_in (Some (Plain v w c)) = w
writable_in (Some (Accessor g s c)) = false
writable_in None = false

-- an array's length, and whether it is writable
abbrev pub length_of : Object → ℕ
length_of o = length_in (own o length_key)

abbrev pub length_writable : Object → Bool
length_writable o = writable_in (own o length_key)

-- an array after its length was cut to n, and the length's attribute was set; an element that isn't configurable stops the cut
abbrev pub cut_to : Object → ℕ → ℕ → Bool → Outcome Object
cut_to o end n writable = record {
  after = with_own (record o { properties = cut_at end o.properties }) length_key (length_property end writable);
  fault = if nat_eq end n then None else Some NotConfigurable;
}

abbrev pub cut_unless : Object → Option HeapFault → ℕ → Bool → Outcome Object
cut_unless o (Some f) n writable = refused o f
cut_unless o None n writable = cut_to o (cut_end n o.properties) n writable

-- ArraySetLength (9.4.2.4) to a number
abbrev pub define_length_number : Object → ℤ → Prop → Bool → Outcome Object
define_length_number o (negsuc n) next writable = refused o BadLength
define_length_number o (pos n) next writable =
    if nat_lt 4294967295 n then refused o BadLength
    else if not (length_writable o) && not (nat_eq n (length_of o)) then refused o NotWritable
    else cut_unless o (refusal (length_property (length_of o) (length_writable o)) next) n writable

-- ArraySetLength (9.4.2.4); a plain property's value is a number
abbrev pub define_length : Object → Prop → Outcome Object
define_length o (Plain (Number z) w c) = define_length_number o z (Plain (Number z) w c) w
define_length o (Plain _ w c) = refused o BadLength
define_length o (Accessor g s c) = refused o NotConfigurable

-- an array after its element i was defined, whose length was n: its length is past the element
abbrev pub grown : Object → ℕ → Bool → ℕ → Object
grown o n writable i = if nat_le n i then with_own o length_key (length_property (i + 1) writable) else o

abbrev pub grown_unless : Outcome Object → Option HeapFault → ℕ → Bool → ℕ → Outcome Object
grown_unless outcome None n writable i = done (grown outcome.after n writable i)
grown_unless outcome (Some f) n writable i = outcome

-- [[DefineOwnProperty]] of an array (9.4.2.1) at an array index
abbrev pub define_element : Object → Key → ℕ → Prop → Outcome Object
define_element o k i next =
    if is_none (own o k) && not o.extensible then refused o NotExtensible
    else if nat_le (length_of o) i && not (length_writable o) then refused o NotWritable
    else grown_unless (ordinary_define o k next) (ordinary_define o k next).fault (length_of o) (length_writable o) i

abbrev pub define_at_index : Object → Key → Option ℕ → Prop → Outcome Object
define_at_index o k None next = ordinary_define o k next
define_at_index o k (Some i) next = define_element o k i next

-- [[DefineOwnProperty]] of an array (9.4.2.1)
abbrev pub array_define : Object → Key → Prop → Outcome Object
array_define o k next = if same_key k length_key then define_length o next else define_at_index o k (array_index k) next

-- [[DefineOwnProperty]]
abbrev pub define_own : Object → Key → Prop → Outcome Object
define_own o k next = if is_array o.class then array_define o k next else ordinary_define o k next

-- a change of an array's length that keeps the attribute; an object that is no array refuses it
abbrev pub set_length : Object → ℤ → Outcome Object
set_length o z = if is_array o.class then define_length o (Plain (Number z) (length_writable o) false) else refused o NotConfigurable

-- OrdinaryDelete (9.1.10.1): what it leaves, and whether the key was there
abbrev pub delete_found : Object → Key → Option Prop → Object
delete_found o k None = o
delete_found o k (Some p) = if is_configurable p then without_own o k else o

abbrev pub delete_answer : Option Prop → Result Bool HeapFault
delete_answer None = Ok false
delete_answer (Some p) = if is_configurable p then Ok true else Err NotConfigurable

abbrev pub after_delete : Object → Key → Object
after_delete o k = delete_found o k (own o k)

abbrev pub deleted : Object → Key → Result Bool HeapFault
deleted o k = delete_answer (own o k)

-- the entry of an array's property `length`, of its number and whether it is writable
abbrev pub length_entry : Option (ℕ × Bool) → List (Key × Prop)
length_entry None = []
length_entry (Some l) = (length_key, length_property l.0 l.1) ∷ []

-- an object as it is made: an array has its property `length`
abbrev pub new_object : Option ObjId → Class → Object
new_object proto class = record {
  proto = proto;
  class = class;
  extensible = true;
  properties = if is_array class then (length_key, length_property 0 true) ∷ [] else [];
  recorded = [];
}

abbrev pub recorded_after : Object → Key → Object
recorded_after o k = record o { recorded = insert_key same_key o.recorded k }

-- The library as data: which objects a realm has, and which properties they have (ECMA-262, 6th edition, 19 to 22 and 25;
-- 5.1 edition, 15). Every other property of theirs that the editions have is known and left out (`LeftOut`).
use Rattle.std.specs.Prelude.{ℕ, Bool, true, false, not, ◌&&◌, nat_le, if◌then◌else◌, List, [], ◌∷◌, None, Some, codes}
use Rattle.es_value.specs.declared.value.ObjId.{ObjId}
use Rattle.es_value.specs.declared.value.Value.{Value}
use Rattle.es_value.specs.declared.value.Value.TheVariants.{Object, Text as TextValue}
use Rattle.es_heap.specs.declared.class.Class.{Class}
use Rattle.es_heap.specs.declared.class.Class.TheVariants.{Object as OrdinaryClass, Array as ArrayClass, Builtin, Text as TextClass, Number as NumberClass, Bool as TruthClass, Error as ErrorClass}
use Rattle.es_heap.specs.declared.key.Key.{Key}
use Rattle.es_heap.specs.declared.key.Key.TheVariants.{Text, Iterator}
use Rattle.es_heap.specs.declared.prop.Prop.TheVariants.{Plain}
use Rattle.es_heap.specs.Heaps.{Heap, made, define_own}
use Rattle.es_realm.specs.declared.edition.Edition.{Edition}
use Rattle.es_realm.specs.declared.edition.Edition.TheVariants.{Sixth, Fifth}
use Rattle.es_realm.specs.declared.table.Row.{Row}
use Rattle.es_realm.specs.declared.table.Row.TheVariants as row
use Rattle.es_realm.specs.declared.table.Kind.{Kind}
use Rattle.es_realm.specs.declared.table.Kind.TheVariants as kind
use Rattle.es_realm.specs.Names.{object_prototype, function_prototype, array_prototype, string_prototype, number_prototype, boolean_prototype, error_prototype, type_error_prototype, reference_error_prototype, range_error_prototype, object, array, string, error, type_error, reference_error, range_error, object_create, array_is_array, object_has_own_property, object_to_string, object_value_of, function_call, function_apply, function_to_string, array_push, array_pop, array_index_of, array_join, array_for_each, array_to_string, string_char_at, string_char_code_at, string_index_of, string_substring, string_to_string, number_to_string, boolean_to_string, error_to_string, generator_prototype, array_iterator_prototype, string_iterator_prototype, array_iterator, array_includes, string_iterator, generator_next, generator_return, generator_throw, iterator_self, array_iterator_next, string_iterator_next, object_define_property, object_get_own_property_descriptor, object_get_prototype_of, object_prevent_extensions}

-- the class of a prototype that is an object of its kind
abbrev pub own_class : Kind → Class
own_class kind.Ordinary = OrdinaryClass
own_class kind.List = ArrayClass
own_class kind.Text = TextClass
own_class kind.Number = NumberClass
own_class kind.Truth = TruthClass
own_class kind.Error = ErrorClass
own_class kind.Function = Builtin 42

-- the class of a prototype; in the 5.1 edition some are objects of their kind, which in the 6th are ordinary
abbrev pub class_of : Edition → Kind → Class
class_of Fifth k = own_class k
class_of Sixth kind.List = ArrayClass
class_of Sixth kind.Function = Builtin 42
class_of Sixth _ = OrdinaryClass

-- the prototypes of both realms
abbrev pub prototypes : List Row
prototypes =
    row.Root ∷
    row.Below object_prototype kind.Function ∷
    row.Below object_prototype kind.List ∷
    row.Below object_prototype kind.Text ∷
    row.Below object_prototype kind.Number ∷
    row.Below object_prototype kind.Truth ∷
    row.Below object_prototype kind.Error ∷
    row.Below error_prototype kind.Error ∷
    row.Below error_prototype kind.Error ∷
    row.Below error_prototype kind.Error ∷ []

-- the prototypes of generator functions, generators, and array and string iterators
abbrev pub iterator_prototypes : List Row
iterator_prototypes =
    row.Below function_prototype kind.Ordinary ∷
    row.Below object_prototype kind.Ordinary ∷
    row.Below object_prototype kind.Ordinary ∷
    row.Below object_prototype kind.Ordinary ∷ []

-- the numbers of the functions of both realms, and of those that one of them has besides
abbrev pub functions : List ℕ
functions = 0 ∷ 1 ∷ 2 ∷ 3 ∷ 4 ∷ 5 ∷ 6 ∷ 7 ∷ 8 ∷ 9 ∷ 10 ∷ 11 ∷ 12 ∷ 13 ∷ 14 ∷ 15 ∷ 16 ∷ 17 ∷ 18 ∷ 19 ∷ 20 ∷ 23 ∷ 24 ∷ 25 ∷ 26 ∷ 27 ∷ 29 ∷ 30 ∷ 31 ∷ []

abbrev pub functions6 : List ℕ
functions6 = 21 ∷ 22 ∷ 28 ∷ 32 ∷ 33 ∷ 34 ∷ 35 ∷ 36 ∷ 37 ∷ []

abbrev pub functions5 : List ℕ
functions5 = 38 ∷ 39 ∷ 40 ∷ 41 ∷ []

-- in the 6th edition the kinds of Error have Error as their prototype (19.5.6.2)
abbrev pub function_proto : Edition → ℕ → ObjId
function_proto Sixth n = if nat_le 4 n && nat_le n 6 then error else function_prototype
function_proto Fifth n = function_prototype

-- a heap with one more object of the library
unfoldable pub with_row : Edition → Heap → Row → Heap
with_row edition heap row.Root = made heap None OrdinaryClass
with_row edition heap (row.Below proto k) = made heap (Some proto) (class_of edition k)

unfoldable pub with_function : Edition → Heap → ℕ → Heap
with_function edition heap n = made heap (Some (function_proto edition n)) (Builtin n)

-- a property of an object of the library; one that is fixed is neither writable nor configurable, and others are both (17)
pub record Entry : Type 0 where
  pub holder : ObjId
  pub key : Key
  pub value : Value
  pub fixed : Bool

abbrev pub method : ObjId → List ℕ → ObjId → Entry
method holder name f = record { holder = holder; key = Text name; value = Object f; fixed = false }

abbrev pub iteration : ObjId → ObjId → Entry
iteration holder f = record { holder = holder; key = Iterator; value = Object f; fixed = false }

abbrev pub constant : ObjId → List ℕ → ObjId → Entry
constant holder name value = record { holder = holder; key = Text name; value = Object value; fixed = true }

abbrev pub text : ObjId → List ℕ → List ℕ → Entry
text holder name value = record { holder = holder; key = Text name; value = TextValue value; fixed = false }

unfoldable pub with_entry : Heap → Entry → Heap
with_entry heap e = (define_own heap e.holder e.key (Plain e.value (not e.fixed) (not e.fixed))).after

-- the properties of both realms: of the functions that make objects (19.1.2, 22.1.2, 21.1.2 and 19.5)
unfoldable pub constructor_entries : List Entry
constructor_entries =
    method object (codes "create") object_create ∷
    constant object (codes "prototype") object_prototype ∷
    method array (codes "isArray") array_is_array ∷
    constant array (codes "prototype") array_prototype ∷
    constant string (codes "prototype") string_prototype ∷
    constant error (codes "prototype") error_prototype ∷
    constant type_error (codes "prototype") type_error_prototype ∷
    constant reference_error (codes "prototype") reference_error_prototype ∷
    constant range_error (codes "prototype") range_error_prototype ∷ []

-- of the prototypes of objects and functions (19.1.3 and 19.2.3)
unfoldable pub object_entries : List Entry
object_entries =
    method object_prototype (codes "hasOwnProperty") object_has_own_property ∷
    method object_prototype (codes "toString") object_to_string ∷
    method object_prototype (codes "valueOf") object_value_of ∷
    method function_prototype (codes "call") function_call ∷
    method function_prototype (codes "apply") function_apply ∷
    method function_prototype (codes "toString") function_to_string ∷ []

-- of the prototype of arrays (22.1.3)
unfoldable pub array_entries : List Entry
array_entries =
    method array_prototype (codes "push") array_push ∷
    method array_prototype (codes "pop") array_pop ∷
    method array_prototype (codes "indexOf") array_index_of ∷
    method array_prototype (codes "join") array_join ∷
    method array_prototype (codes "forEach") array_for_each ∷
    method array_prototype (codes "toString") array_to_string ∷ []

-- of the prototypes of texts, numbers and truth values (21.1.3, 20.1.3 and 19.3.3)
unfoldable pub primitive_entries : List Entry
primitive_entries =
    method string_prototype (codes "charAt") string_char_at ∷
    method string_prototype (codes "charCodeAt") string_char_code_at ∷
    method string_prototype (codes "indexOf") string_index_of ∷
    method string_prototype (codes "substring") string_substring ∷
    method string_prototype (codes "toString") string_to_string ∷
    method number_prototype (codes "toString") number_to_string ∷
    method boolean_prototype (codes "toString") boolean_to_string ∷ []

-- of the prototypes of errors (19.5.3 and 19.5.6.3)
unfoldable pub error_entries : List Entry
error_entries =
    text error_prototype (codes "name") (codes "Error") ∷
    text error_prototype (codes "message") (codes "") ∷
    text type_error_prototype (codes "name") (codes "TypeError") ∷
    text type_error_prototype (codes "message") (codes "") ∷
    text reference_error_prototype (codes "name") (codes "ReferenceError") ∷
    text reference_error_prototype (codes "message") (codes "") ∷
    text range_error_prototype (codes "name") (codes "RangeError") ∷
    text range_error_prototype (codes "message") (codes "") ∷
    method error_prototype (codes "toString") error_to_string ∷ []

-- the properties that the 6th edition's realm has besides: of the prototypes of arrays and texts (22.1.3 and 21.1.3)
unfoldable pub iterable_entries6 : List Entry
iterable_entries6 =
    iteration array_prototype array_iterator ∷
    method array_prototype (codes "includes") array_includes ∷
    iteration string_prototype string_iterator ∷ []

-- of the prototype of generators (25.3.1)
unfoldable pub generator_entries6 : List Entry
generator_entries6 =
    method generator_prototype (codes "next") generator_next ∷
    method generator_prototype (codes "return") generator_return ∷
    method generator_prototype (codes "throw") generator_throw ∷
    iteration generator_prototype iterator_self ∷ []

-- of the prototypes of array and text iterators (22.1.5.2 and 21.1.5.2)
unfoldable pub iterator_entries6 : List Entry
iterator_entries6 =
    method array_iterator_prototype (codes "next") array_iterator_next ∷
    iteration array_iterator_prototype iterator_self ∷
    method string_iterator_prototype (codes "next") string_iterator_next ∷
    iteration string_iterator_prototype iterator_self ∷ []

-- the properties that the 5.1 edition's realm has besides: of Object (15.2.3)
unfoldable pub object_entries5 : List Entry
object_entries5 =
    method object (codes "defineProperty") object_define_property ∷
    method object (codes "getOwnPropertyDescriptor") object_get_own_property_descriptor ∷
    method object (codes "getPrototypeOf") object_get_prototype_of ∷
    method object (codes "preventExtensions") object_prevent_extensions ∷ []

-- The fresh realms: the objects and properties that the tables name.
use Rattle.std.specs.Prelude.{ℕ, zero, suc, ◌+◌, List, [], ◌∷◌, ◌++◌, fold, Some, Vec}
use Rattle.std.specs.Global.{Global}
use Rattle.es_value.specs.declared.value.ObjId.{ObjId}
use Rattle.es_heap.specs.declared.class.Class.TheVariants.{Host}
use Rattle.es_heap.specs.Heaps.{Heap, made}
use Rattle.es_realm.specs.declared.edition.Edition.{Edition}
use Rattle.es_realm.specs.declared.edition.Edition.TheVariants.{Sixth, Fifth}
use Rattle.es_realm.specs.declared.table.Row.{Row}
use Rattle.es_realm.specs.declared.realm.Library.{Library}
use Rattle.es_realm.specs.declared.realm.Realm6.{Realm6}
use Rattle.es_realm.specs.declared.realm.Realm5.{Realm5}
use Rattle.es_realm.specs.Names as name
use Rattle.es_realm.specs.Names.{function_prototype}
use Rattle.es_realm.specs.Tables.{Entry, prototypes, iterator_prototypes, functions, functions6, functions5, constructor_entries, object_entries, array_entries, primitive_entries, error_entries, iterable_entries6, generator_entries6, iterator_entries6, object_entries5, with_row, with_function, with_entry}

-- a heap with more objects and properties of the library
abbrev pub with_rows : Edition → List Row → Heap → Heap
with_rows edition rows heap = fold (with_row edition) heap rows

abbrev pub with_functions : Edition → List ℕ → Heap → Heap
with_functions edition numbers heap = fold (with_function edition) heap numbers

abbrev pub with_entries : List Entry → Heap → Heap
with_entries entries heap = fold with_entry heap entries

-- the objects of both realms: the prototypes, and then the functions
unfoldable pub library_objects : Edition → Heap
library_objects edition = with_functions edition functions (with_rows edition prototypes [])

-- the properties that both realms have
unfoldable pub with_library_entries : Heap → Heap
with_library_entries heap =
    with_entries error_entries (with_entries primitive_entries (with_entries array_entries (
    with_entries object_entries (with_entries constructor_entries heap))))

-- those that the realm of the 6th edition has besides
unfoldable pub with_entries6 : Heap → Heap
with_entries6 heap = with_entries iterator_entries6 (with_entries generator_entries6 (with_entries iterable_entries6 heap))

-- the realm of the 6th edition: the prototypes and functions of both realms and those of its own, and then their properties
unfoldable pub fresh6 : Heap
fresh6 =
    with_entries6 (with_library_entries (
    with_functions Sixth functions6 (with_rows Sixth iterator_prototypes (library_objects Sixth))))

unfoldable pub library5 : Heap
library5 = with_entries object_entries5 (with_library_entries (with_functions Fifth functions5 (library_objects Fifth)))

-- a heap with one more object for each of the first hosts; each is a function without own properties
abbrev pub with_hosts : ℕ → Heap → Heap
with_hosts zero heap = heap
with_hosts (suc n) heap = made (with_hosts n heap) (Some function_prototype) (Host n)

-- the host functions come directly after the objects of the library
abbrev pub host_functions : ℕ → List ObjId
host_functions zero = []
host_functions (suc n) = host_functions n ++ record { 0 = 43 + n } ∷ []

-- the realm of the 5.1 edition with this many hosts
abbrev pub fresh5 : ℕ → Heap
fresh5 hosts = with_hosts hosts library5

-- the names of the objects of both realms, and of each
abbrev pub library_names : Library
library_names = record {
  object_prototype = name.object_prototype;
  function_prototype = name.function_prototype;
  array_prototype = name.array_prototype;
  string_prototype = name.string_prototype;
  number_prototype = name.number_prototype;
  boolean_prototype = name.boolean_prototype;
  error_prototype = name.error_prototype;
  type_error_prototype = name.type_error_prototype;
  reference_error_prototype = name.reference_error_prototype;
  range_error_prototype = name.range_error_prototype;
  object = name.object;
  array = name.array;
  string = name.string;
  error = name.error;
  type_error = name.type_error;
  reference_error = name.reference_error;
  range_error = name.range_error;
  object_create = name.object_create;
  array_is_array = name.array_is_array;
  object_has_own_property = name.object_has_own_property;
  object_to_string = name.object_to_string;
  object_value_of = name.object_value_of;
  function_call = name.function_call;
  function_apply = name.function_apply;
  function_to_string = name.function_to_string;
  array_push = name.array_push;
  array_pop = name.array_pop;
  array_index_of = name.array_index_of;
  array_join = name.array_join;
  array_for_each = name.array_for_each;
  array_to_string = name.array_to_string;
  string_char_at = name.string_char_at;
  string_char_code_at = name.string_char_code_at;
  string_index_of = name.string_index_of;
  string_substring = name.string_substring;
  string_to_string = name.string_to_string;
  number_to_string = name.number_to_string;
  boolean_to_string = name.boolean_to_string;
  error_to_string = name.error_to_string;
}

abbrev pub realm6 : Realm6
realm6 = record {
  library = library_names;
  generator_function_prototype = name.generator_function_prototype;
  generator_prototype = name.generator_prototype;
  array_iterator_prototype = name.array_iterator_prototype;
  string_iterator_prototype = name.string_iterator_prototype;
  array_iterator = name.array_iterator;
  array_includes = name.array_includes;
  string_iterator = name.string_iterator;
  generator_next = name.generator_next;
  generator_return = name.generator_return;
  generator_throw = name.generator_throw;
  iterator_self = name.iterator_self;
  array_iterator_next = name.array_iterator_next;
  string_iterator_next = name.string_iterator_next;
}

abbrev pub realm5 : Vec ObjId Global → Realm5
realm5 hosts = record {
  library = library_names;
  object_define_property = name.object_define_property;
  object_get_own_property_descriptor = name.object_get_own_property_descriptor;
  object_get_prototype_of = name.object_get_prototype_of;
  object_prevent_extensions = name.object_prevent_extensions;
  hosts = hosts;
}
